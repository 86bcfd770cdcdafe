use Rattle.std.proofs.Common.{◌+◌, ◌*◌, ◌≤◌, length, reverse}
use Rattle.grammar_tree.specs.Size.{node_count}
use Rattle.linker.proofs.LayingKinds.{weight}
use Rattle.linker.proofs.LayingLemmas.{SoFar}
use Rattle.linker.proofs.laying.+lay.Given as goal

abbrev pub decreases-lay : goal.decreases-lay
decreases-lay l = 2 * node_count l.e

abbrev pub decreases-lay_all : goal.decreases-lay_all
decreases-lay_all l = 2 * weight l.parts.items + 1

abbrev pub invariant-lay_all-loop-part : goal.invariant-lay_all-loop-part
invariant-lay_all-loop-part l = record {
  so_far : SoFar l.scope (reverse l.fn.parts.items) l.parts.items l.fn.laying l.laying l.starts;
  longer : length l.fn.laying.nodes.items ≤ length l.laying.nodes.items;
  lighter : weight l.parts.items ≤ weight l.fn.parts.items;
}

abbrev pub decreases-lay_all-loop-part : goal.decreases-lay_all-loop-part
decreases-lay_all-loop-part l = length l.parts.items
