use Rattle.std.proofs.Common.{◌≡◌, ◌≤◌, take}
use Rattle.self_derivation.specs.code.Marks.{is_marked}
use Rattle.self_derivation.specs.code.Nodes.{worded}
use Rattle.self_derivation.proofs.nodes.worded.Given as goal

abbrev pub invariant-loop-part : goal.invariant-loop-part
invariant-loop-part l = (l.count ≤ l.part-index) × (l.count ≡ worded (is_marked l.empty) (take l.part-index l.parts))
