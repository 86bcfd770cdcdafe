use Rattle.std.proofs.Common.{None, Some, cond, ap, sym, ◌∙◌}
use Rattle.uri_links.specs.declared.fault.UriFault.TheVariants.{NotAbsolute}
use Rattle.uri_links.specs.Resolution.{is_absolute}
use Rattle.uri_links.proofs.FaultLemmas.{reading_none, key_from_none}
use Rattle.uri_links.proofs.ReferenceLemmas.{bytes_same}
use Rattle.uri_links.proofs.uri.key_fault.Goals as goal

pub returns-then-is_absolute : goal.returns-then-is_absolute
returns-then-is_absolute c =
    let none = sym c.in_default.ensures in
    let same = bytes_same c.args.text.now c.as_str.result.now c.as_str.ensures.bytes (reading_none c.args.text.now none) in
    sym (key_from_none c.args.text.now none ∙ ap (λ b. cond b None (Some NotAbsolute))
    (sym (c.is_absolute.ensures ∙ ap is_absolute same) ∙ c.if-is_absolute.true))

pub returns-else-is_absolute : goal.returns-else-is_absolute
returns-else-is_absolute c =
    let none = sym c.in_default.ensures in
    let same = bytes_same c.args.text.now c.as_str.result.now c.as_str.ensures.bytes (reading_none c.args.text.now none) in
    sym (key_from_none c.args.text.now none ∙ ap (λ b. cond b None (Some NotAbsolute))
    (sym (c.is_absolute.ensures ∙ ap is_absolute same) ∙ c.if-is_absolute.false))
