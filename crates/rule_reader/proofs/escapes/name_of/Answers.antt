use Rattle.std.proofs.Common.{◌≡◌, sym, ap, subst, ◌∙◌}
use Rattle.std.specs.Str.{IsUtf8}
use Rattle.rule_reader.specs.References.{unescaped}
use Rattle.rule_reader.proofs.EscapeLemmas.{fragment_read}
use Rattle.rule_reader.proofs.escapes.name_of.Goals as goal

pub returns-in-Ok : goal.returns-in-Ok
returns-in-Ok c =
    let cases = c.in-Ok.ensures.cases in
    fragment_read c.args.fragment.now c.in-Ok.text.now c.in_ok-name-in-Ok.name
    (cases.0 ∙ (c.as_slice-2.ensures.value ∙ (c.in_ok-bytes.ensures ∙ ap unescaped (c.as_slice.ensures.value ∙ c.in_ok-characters.ensures))))
    (subst IsUtf8 (sym cases.0) cases.1) c.in_ok-name-in-Ok.ensures
