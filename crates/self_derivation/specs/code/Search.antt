-- How far the search for empty nodes has come.
use Rattle.std.specs.Prelude.{ℕ, ◌+◌, ◌-◌, ◌==◌, ◌≡◌, Bool, true, not, cond, List, length, Some, slice_get, slice_index_or, count_by}
use Rattle.grammar_tree.specs.declared.linked.Node.{Node}
use Rattle.grammar_tree.specs.Links.{Rules}
use Rattle.grammar_tree.specs.Derives.{CanBeEmpty}
use Rattle.self_derivation.specs.code.Marks.{is_marked, times}
use Rattle.self_derivation.specs.code.Nodes.{node_ix, below, needs}

pub record Search : Type 0 where
  -- how many more of the nodes that a node looks at have to be found empty
  pub missing : List ℕ
  -- the nodes that were found empty, and told to those above
  pub told : List Bool
  -- the nodes that were found empty, and are still to be told
  pub left : List ℕ

-- what nothing is missing for has been told or is left once; nothing else is
abbrev pub IsStaged : Search → Type 0
IsStaged s = (n : ℕ) → times n s.left + cond (is_marked s.told n) 1 0 ≡ cond (slice_index_or s.missing n 1 == 0) 1 0

-- each of the row misses one less
pub record Counted (ns : List ℕ) (old now : Search) : Type 0 where
  pub told : now.told ≡ old.told
  pub sized : length now.missing ≡ length old.missing
  pub missing : (n : ℕ) → slice_index_or now.missing n 1 ≡ slice_index_or old.missing n 1 - times n ns
  pub staged : IsStaged old → IsStaged now

-- what is missing is what the node needs without those that were told, and what was told can be empty
pub record IsSearch (L : Rules) (s : Search) : Type 0 where
  pub missing_sized : length s.missing ≡ length L.nodes
  pub told_sized : length s.told ≡ length L.nodes
  pub staged : IsStaged s
  pub missing : (n : ℕ) (x : Node) → slice_get L.nodes n ≡ Some x → slice_index_or s.missing n 1 ≡ needs x - count_by (λ p. is_marked s.told p.0) (below L x)
  pub sound : (n : ℕ) → is_marked s.told n ≡ true → CanBeEmpty L (node_ix n)

-- how many nodes were not told
abbrev pub untold : Search → ℕ
untold s = count_by (λ b. not b) s.told
