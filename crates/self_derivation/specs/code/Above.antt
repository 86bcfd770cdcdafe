-- Which nodes look at a node.
use Rattle.std.specs.Prelude.{ℕ, ◌+◌, ◌==◌, ◌≡◌, cond, List, length, nat_lt}
use Rattle.vg_base.specs.declared.numbers.NodeIx.{NodeIx}
use Rattle.grammar_tree.specs.Links.{Rules}
use Rattle.self_derivation.specs.code.Marks.{times, times_named, row}
use Rattle.self_derivation.specs.code.Nodes.{below_at}

-- the node n was added to the row of each of these
pub record Added (n : ℕ) (ps : List NodeIx) (old now : List (List ℕ)) : Type 0 where
  pub sized : length now ≡ length old
  pub counted : (p m : ℕ) → times m (row now p) ≡ times m (row old p) + cond (n == m) (times_named p ps) 0

-- a node stands in the row of another as often as it looks at it
pub record AreAbove (L : Rules) (rows : List (List ℕ)) : Type 0 where
  pub sized : length rows ≡ length L.nodes
  pub counted : (p m : ℕ) → times m (row rows p) ≡ times_named p (below_at L m)

-- the same of the nodes up to one
pub record AreAboveUpTo (L : Rules) (upto : ℕ) (rows : List (List ℕ)) : Type 0 where
  pub sized : length rows ≡ length L.nodes
  pub counted : (p m : ℕ) → times m (row rows p) ≡ cond (nat_lt m upto) (times_named p (below_at L m)) 0
