-- Nodes that are numbered in reading order: each before its parts, and each part where the one before it ends.
use Rattle.std.specs.Prelude.{ℕ, ◌+◌, ◌≡◌, ◌≤◌, ◌^◌, List, [], ◌∷◌, Some, length, map, slice_get}
use Rattle.std.specs.List.{All}
use Rattle.vg_base.specs.declared.numbers.NodeIx.{NodeIx}
use Rattle.grammar_tree.specs.declared.linked.Node.{Node}
use Rattle.grammar_tree.specs.Links.{Rules, IsLinked, RefersBelow, parts}

mutual
  -- the node and all that is below it have the numbers from the node's own up to `end`
  pub data IsSubtree (nodes : List Node) : NodeIx → ℕ → Type 0 where
    subtree : {n : NodeIx} {end : ℕ} (x : Node) → slice_get nodes n.0 ≡ Some x → AreSubtrees nodes (parts x) (n.0 + 1) end → IsSubtree nodes n end

  -- the same of several nodes, one after another from `start` on
  pub data AreSubtrees (nodes : List Node) : List NodeIx → ℕ → ℕ → Type 0 where
    no_subtree : {start end : ℕ} → start ≡ end → AreSubtrees nodes [] start end
    next_subtree : {p : NodeIx} {ps : List NodeIx} {start end : ℕ} (middle : ℕ) → p.0 ≡ start → IsSubtree nodes p middle →
        AreSubtrees nodes ps middle end → AreSubtrees nodes (p ∷ ps) start end

-- the rules' bodies, one after another, are all the nodes
abbrev pub IsInReadingOrder : Rules → Type 0
IsInReadingOrder l = AreSubtrees l.nodes (map (λ r. r.body) l.rules) 0 (length l.nodes)

-- so each node is the body of one rule or a part of one node, and stands before its parts
abbrev pub ReadingOrderIsLinked : Type 0
ReadingOrderIsLinked =
    (l : Rules) → length l.nodes ≤ 2 ^ 32 → All (RefersBelow (length l.rules)) l.nodes → IsInReadingOrder l → IsLinked l
