use Rattle.std.proofs.Common.{take}
use Rattle.self_derivation.specs.code.Marks.{is_marked, Grown}
use Rattle.self_derivation.specs.code.Steps.{passed}
use Rattle.self_derivation.proofs.steps.lead_parts.Given as goal

abbrev pub invariant-loop-part : goal.invariant-loop-part
invariant-loop-part l = Grown l.from (passed l.rules (is_marked l.empty) l.node (take l.part-index l.all)) l.initial.graph l.graph
