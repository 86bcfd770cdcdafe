use Rattle.std.proofs.Common.{ap, ◌∙◌}
use Rattle.std.specs.Str.{chars}
use Rattle.uri_links.specs.Allowed.{is_reference}
use Rattle.uri_links.specs.Parts.{recompose}
use Rattle.uri_links.specs.code.Seen.{seen}
use Rattle.uri_links.proofs.ReferenceLemmas.{chars_same, good_from, recompose_reference}
use Rattle.uri_links.proofs.uri.put_together.Goals as goal

pub returns : goal.returns
returns c =
    let p = seen c.args.parts.now in
    c.from_string.ensures ∙ (ap chars c.in_ok-joined.ensures ∙ chars_same (recompose p) (recompose_reference p (good_from p c.requires.good) c.requires.scheme))

pub invariant_of-result : goal.invariant_of-result
invariant_of-result c =
    let p = seen c.args.parts.now in
    ap is_reference (returns c) ∙ recompose_reference p (good_from p c.requires.good) c.requires.scheme
