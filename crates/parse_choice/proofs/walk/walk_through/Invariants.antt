use Rattle.parse_choice.specs.code.Walks.{WalksOn, state_of}
use Rattle.parse_choice.proofs.walk.walk_through.Given as goal

abbrev pub invariant-loop : goal.invariant-loop
invariant-loop l = WalksOn l.ground (state_of l.walk)
