-- An expansion is written with no more nodes than its size counts.
use Rattle.std.proofs.Common.{ℕ, ◌+◌, ◌-◌, ◌*◌, ◌≤◌, ◌≡◌, Option, None, Some, List, [], ◌∷◌, map, sum, sym, subst, arith}
use Rattle.std.proofs.lemmas.List.Sums.{sum_by-append}
use Rattle.grammar_tree.specs.declared.expansion.Expansion.{Expansion, map-Expansion}
use Rattle.grammar_tree.specs.declared.expansion.Expansion.TheOpen.{Expansion-F}
use Rattle.grammar_tree.specs.declared.expansion.Expansion.TheFolds.{fold-roll-Expansion, ind-Expansion}
use Rattle.grammar_tree.specs.Size.{turns_of, size_of, size_of_level, node_count, node_count_of_level, NodesAreWithinSize}

abbrev IsWithin : Expansion → Type 0
IsWithin e = node_count e ≤ size_of e

-- an expansion, with this proved of it
abbrev Shown : Type 0
Shown = (e : Expansion) × IsWithin e

abbrev plain : Shown → Expansion
plain s = s.0

sums_within : (parts : List Shown) → sum (map node_count (map plain parts)) ≤ sum (map size_of (map plain parts))
sums_within [] = omega arith
sums_within (s ∷ parts) =
    omega (
      arith,
      s.1,
      sums_within parts,
      sum_by-append (λ k. k) (node_count s.0 ∷ []) (map node_count (map plain parts)),
      sum_by-append (λ k. k) (size_of s.0 ∷ []) (map size_of (map plain parts)),
    )

some_turn : (least : ℕ) (most : Option ℕ) → 1 ≤ turns_of least most
some_turn least None = omega arith
some_turn least (Some most) = omega arith

within_times : (turns count size : ℕ) → 1 ≤ turns → count ≤ size → count ≤ turns * size
within_times turns count size some le = let e : turns ≡ 1 + (turns - 1) = omega arith in subst (λ k. count ≤ k * size) (sym e) (omega arith)

level_within : (y : Expansion-F Shown) →
    node_count_of_level (map-Expansion Expansion ℕ node_count (map-Expansion Shown Expansion plain y)) ≤ size_of_level (map-Expansion Expansion ℕ size_of (map-Expansion Shown Expansion plain y))
level_within (Expansion-F.Token words) = omega arith
level_within (Expansion-F.Seq parts) = omega (arith, sums_within parts)
level_within (Expansion-F.Alt parts) = omega (arith, sums_within parts)
level_within (Expansion-F.Rep least most s) = omega (arith, within_times (turns_of least most) (node_count s.0) (size_of s.0) (some_turn least most) s.1)
level_within (Expansion-F.Ref reference) = omega arith
level_within (Expansion-F.Tag tag) = omega arith
level_within Expansion-F.Null = omega arith
level_within Expansion-F.Void = omega arith
level_within Expansion-F.Garbage = omega arith

pub nodes_within : NodesAreWithinSize
nodes_within = ind-Expansion IsWithin (λ x y is.
    let level = subst (λ z. node_count_of_level (map-Expansion Expansion ℕ node_count z) ≤ size_of_level (map-Expansion Expansion ℕ size_of z)) is (level_within y) in
    omega (arith, fold-roll-Expansion ℕ node_count_of_level x, fold-roll-Expansion ℕ size_of_level x, level))
