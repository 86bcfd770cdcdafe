use Rattle.std.proofs.Common.{◌≡◌, ◌+◌, length}
use Rattle.self_derivation.specs.code.Marks.{is_marked}
use Rattle.self_derivation.specs.code.Steps.{HasRows}
use Rattle.self_derivation.proofs.steps.lead_nodes.Given as goal

abbrev pub invariant-loop-n : goal.invariant-loop-n
invariant-loop-n l = (length l.graph ≡ length l.initial.graph) × HasRows l.linked (is_marked l.empty) (length l.linked.rules + l.n) l.graph
