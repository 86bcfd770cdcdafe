use Rattle.std.proofs.Common.{◌≡◌, take}
use Rattle.grammar_tree.proofs.+copy_tree.Given as goal

abbrev pub invariant-copies::copy_trees-loop-tree : goal.invariant-copies::copy_trees-loop-tree
invariant-copies::copy_trees-loop-tree l = l.copy ≡ take l.tree-index l.trees
