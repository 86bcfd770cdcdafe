use Rattle.std.proofs.Common.{ℕ, ◌<◌, ◌≡◌, get_or}
use Rattle.grammar_tree.specs.declared.parse_tree.ParseTree.{ParseTree}
use Rattle.grammar_tree.proofs.sameness.+is_same.Given as goal

-- the trees so far are equal
abbrev pub invariant-are_same-loop-k : goal.invariant-are_same-loop-k
invariant-are_same-loop-k l = (i : ℕ) (d : ParseTree) → i < l.k → get_or l.own i d ≡ get_or l.others i d
