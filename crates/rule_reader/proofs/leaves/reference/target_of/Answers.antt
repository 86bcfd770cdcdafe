use Rattle.std.proofs.Common.{◌≡◌, sym, ◌∙◌}
use Rattle.rule_reader.proofs.ReferenceLemmas.{fragment_allowed}
use Rattle.rule_reader.proofs.leaves.reference.target_of.Goals as goal

pub name_of-requires : goal.name_of-requires
name_of-requires c = fragment_allowed c.args.uri.now c.in-Some.fragment c.requires (sym c.in-Some.is ∙ c.in_ok-front.ensures.fragment)
