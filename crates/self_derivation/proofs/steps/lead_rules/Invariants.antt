use Rattle.std.proofs.Common.{◌≡◌, ℕ, Bool, length}
use Rattle.self_derivation.specs.code.Steps.{HasRows}
use Rattle.self_derivation.proofs.steps.lead_rules.Given as goal

abbrev pub invariant-loop-r : goal.invariant-loop-r
invariant-loop-r l = (length l.graph ≡ length l.initial.graph) × ((empty : ℕ → Bool) → HasRows l.linked empty l.r l.graph)
