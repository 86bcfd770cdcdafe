use Rattle.std.proofs.Common.{ap, ◌∙◌}
use Rattle.uri_links.specs.Allowed.{is_reference}
use Rattle.uri_links.proofs.ReferenceLemmas.{chars_same}
use Rattle.uri_links.proofs.uri.made.Goals as goal

pub invariant_of-result : goal.invariant_of-result
invariant_of-result c = ap is_reference (c.in_ok-of.ensures ∙ chars_same c.args.text.now c.requires) ∙ c.requires

pub returns : goal.returns
returns c = c.in_ok-of.ensures ∙ chars_same c.args.text.now c.requires
