-- Expansions that are laid are numbered in reading order: each node stands before its parts, and parts stand one after another.
-- An expansion that is laid is a tree wherever its nodes stand (`IsTree`), which is so of each level whose parts are such (`level_tree`),
-- so of each expansion (`keeps`), and so of all bodies, one after another (`row`).
use Rattle.std.proofs.Common.{◌≡◌, ℕ, suc, ◌+◌, List, [], ◌∷◌, ◌++◌, Some, length, map, refl, sym, ap, subst, ◌∙◌, arith, append_assoc, length-append}
use Rattle.std.specs.Prelude.{slice_get}
use Rattle.std.specs.List.{AllByRecursion}
use Rattle.vg_base.specs.declared.numbers.NodeIx.{NodeIx}
use Rattle.vg_base.specs.declared.numbers.RuleIx.{RuleIx}
use Rattle.grammar_tree.specs.declared.doc_set.DocText.{DocText}
use Rattle.grammar_tree.specs.declared.expansion.Goal.{Goal}
use Rattle.grammar_tree.specs.declared.expansion.Expansion.{Expansion, map-Expansion}
use Rattle.grammar_tree.specs.declared.expansion.Expansion.TheOpen.{Expansion-F}
use Rattle.grammar_tree.specs.declared.expansion.Expansion.TheFolds.{fold-roll-Expansion, ind-Expansion}
use Rattle.grammar_tree.specs.declared.linked.Node.{Node}
use Rattle.grammar_tree.specs.declared.linked.Node.TheVariants as node
use Rattle.grammar_tree.specs.declared.linked.LinkedRule.{LinkedRule}
use Rattle.grammar_tree.specs.Links.{parts}
use Rattle.grammar_tree.specs.ReadingOrder.{IsSubtree, subtree, AreSubtrees, no_subtree, next_subtree, IsInReadingOrder}
use Rattle.linker.specs.Readings.{Readings}
use Rattle.linker.specs.Numbers.{Definition, definitions, Laid, starts, one_by_one, laid_of_level, laid, meant_in, bodies, linked_rules, numbers}

-- ---- nodes that stand in a list

-- these nodes stand in the list from the place on
abbrev pub Stands : List Node → ℕ → List Node → Type 0
Stands nodes n [] = Unit {0}
Stands nodes n (x ∷ xs) = (slice_get nodes n ≡ Some x) × Stands nodes (n + 1) xs

pub stands_front : (nodes : List Node) (n : ℕ) (xs ys : List Node) → Stands nodes n (xs ++ ys) → Stands nodes n xs
stands_front nodes n [] ys h = tt
stands_front nodes n (x ∷ xs) ys h = (h.0, stands_front nodes (n + 1) xs ys h.1)

pub stands_back : (nodes : List Node) (n : ℕ) (xs ys : List Node) → Stands nodes n (xs ++ ys) → Stands nodes (n + length xs) ys
stands_back nodes n [] ys h = let e : n ≡ n + length {A = Node} [] = omega arith in subst (λ k. Stands nodes k ys) e h
stands_back nodes n (x ∷ xs) ys h =
    let e : n + 1 + length xs ≡ n + length (x ∷ xs) = omega arith in
    subst (λ k. Stands nodes k ys) e (stands_back nodes (n + 1) xs ys h.1)

seam : (front : List Node) (x : Node) (xs : List Node) → slice_get (front ++ x ∷ xs) (length front) ≡ Some x
seam [] x xs = refl
seam (y ∷ front) x xs = seam front x xs

-- what is added to a list stands behind it
pub stands_added : (front xs : List Node) → Stands (front ++ xs) (length front) xs
stands_added front [] = tt
stands_added front (x ∷ xs) =
    let more : Stands ((front ++ x ∷ []) ++ xs) (length (front ++ x ∷ [])) xs = stands_added (front ++ x ∷ []) xs in
    let long : length (front ++ x ∷ []) ≡ length front + 1 = length-append front (x ∷ []) in
    let moved : Stands ((front ++ x ∷ []) ++ xs) (length front + 1) xs = subst (λ k. Stands ((front ++ x ∷ []) ++ xs) k xs) long more in
    (seam front x xs, subst (λ nodes. Stands nodes (length front + 1) xs) (append_assoc front (x ∷ []) xs) moved)

-- ---- rows of trees

-- wherever its nodes stand, they are one tree
pub record IsTree (one : Laid) : Type 0 where
  pub by : (nodes : List Node) (n : ℕ) → Stands nodes n (one n) → IsSubtree nodes (record { 0 = n }) (n + length (one n))

pub row : (nodes : List Node) (ones : List Laid) (n : ℕ) → AllByRecursion IsTree ones → Stands nodes n (one_by_one n ones)
    → AreSubtrees nodes (starts n ones) n (n + length (one_by_one n ones))
row nodes [] n h s = no_subtree (omega arith)
row nodes (one ∷ ones) n h s =
    let next : ℕ = n + length (one n) in
    let rest : AreSubtrees nodes (starts next ones) next (next + length (one_by_one next ones)) =
    row nodes ones next h.1 (stands_back nodes n (one n) (one_by_one next ones) s) in
    let e : next + length (one_by_one next ones) ≡ n + length (one n ++ one_by_one next ones) = omega (arith, length-append (one n) (one_by_one next ones)) in
    next_subtree next refl (h.0.by nodes n (stands_front nodes n (one n) (one_by_one next ones) s))
    (subst (λ end. AreSubtrees nodes (starts next ones) next end) e rest)

-- ---- what holds of each level holds of each expansion

-- it holds of the parts of the level
abbrev pub OfParts : (Laid → Type 0) → Expansion-F Laid → Type 0
OfParts Q (Expansion-F.Seq ones) = AllByRecursion Q ones
OfParts Q (Expansion-F.Alt ones) = AllByRecursion Q ones
OfParts Q (Expansion-F.Rep least most one) = Q one
OfParts Q _ = Unit {0}

module _ (means : Goal → RuleIx) (Q : Laid → Type 0) where
  -- an expansion, with this proved of it
  abbrev Shown : Type 0
  Shown = (x : Expansion) × Q (laid means x)

  abbrev plain : Shown → Expansion
  plain s = s.0

  of_each : (xs : List Shown) → AllByRecursion Q (map (laid means) (map plain xs))
  of_each [] = tt
  of_each (s ∷ xs) = (s.1, of_each xs)

  of_parts : (y : Expansion-F Shown) → OfParts Q (map-Expansion Expansion Laid (laid means) (map-Expansion Shown Expansion plain y))
  of_parts (Expansion-F.Seq xs) = of_each xs
  of_parts (Expansion-F.Alt xs) = of_each xs
  of_parts (Expansion-F.Rep least most s) = s.1
  of_parts (Expansion-F.Token words) = tt
  of_parts (Expansion-F.Ref reference) = tt
  of_parts (Expansion-F.Tag tag) = tt
  of_parts Expansion-F.Null = tt
  of_parts Expansion-F.Void = tt
  of_parts Expansion-F.Garbage = tt

  pub keeps : ((e : Expansion-F Laid) → OfParts Q e → Q (laid_of_level means e)) → (x : Expansion) → Q (laid means x)
  keeps level = ind-Expansion (λ x. Q (laid means x)) (λ x y is.
      let here : Q (laid_of_level means (map-Expansion Expansion Laid (laid means) (map-Expansion Shown Expansion plain y))) =
      level (map-Expansion Expansion Laid (laid means) (map-Expansion Shown Expansion plain y)) (of_parts y) in
      subst Q (sym (fold-roll-Expansion Laid (laid_of_level means) x))
      (subst (λ z. Q (laid_of_level means (map-Expansion Expansion Laid (laid means) z))) is here))

-- ---- expansions are trees

leaf_tree : (x : Node) → parts x ≡ [] → IsTree (λ n. x ∷ [])
leaf_tree x none = record {
  by = λ nodes n s. subtree x s.0 (subst (λ ps. AreSubtrees nodes ps (n + 1) (n + 1)) (sym none) (no_subtree refl));
}

level_tree : (means : Goal → RuleIx) (e : Expansion-F Laid) → OfParts IsTree e → IsTree (laid_of_level means e)
level_tree means (Expansion-F.Seq ones) h = record {
  by = λ nodes n s.
      let e : n + 1 + length (one_by_one (n + 1) ones) ≡ n + suc (length (one_by_one (n + 1) ones)) = omega arith in
      subtree (node.Seq (starts (n + 1) ones)) s.0 (subst (λ end. AreSubtrees nodes (starts (n + 1) ones) (n + 1) end) e (row nodes ones (n + 1) h s.1));
}
level_tree means (Expansion-F.Alt ones) h = record {
  by = λ nodes n s.
      let e : n + 1 + length (one_by_one (n + 1) ones) ≡ n + suc (length (one_by_one (n + 1) ones)) = omega arith in
      subtree (node.Alt (starts (n + 1) ones)) s.0 (subst (λ end. AreSubtrees nodes (starts (n + 1) ones) (n + 1) end) e (row nodes ones (n + 1) h s.1));
}
level_tree means (Expansion-F.Rep least most one) h = record {
  by = λ nodes n s.
      let e : n + 1 + length (one (n + 1)) ≡ n + suc (length (one (n + 1))) = omega arith in
      subtree (node.Rep least most (record { 0 = n + 1 })) s.0 (next_subtree (n + 1 + length (one (n + 1))) refl (h.by nodes (n + 1) s.1) (no_subtree e));
}
level_tree means (Expansion-F.Token words) h = leaf_tree (node.Token words) refl
level_tree means (Expansion-F.Ref reference) h = leaf_tree (node.Ref (means reference.goal)) refl
level_tree means (Expansion-F.Tag tag) h = leaf_tree (node.Tag tag) refl
level_tree means Expansion-F.Null h = leaf_tree node.Null refl
level_tree means Expansion-F.Void h = leaf_tree node.Void refl
level_tree means Expansion-F.Garbage h = leaf_tree node.Garbage refl

pub tree : (means : Goal → RuleIx) (x : Expansion) → IsTree (laid means x)
tree means = keeps means IsTree (level_tree means)

-- ---- all rules

pub length_starts : (n : ℕ) (ones : List Laid) → length (starts n ones) ≡ length ones
length_starts n [] = refl
length_starts n (one ∷ ones) = ap suc (length_starts (n + length (one n)) ones)

bodies_at : (ds : List Definition) (ns : List NodeIx) → length ns ≡ length ds → map (λ (r : LinkedRule). r.body) (linked_rules ds ns) ≡ ns
bodies_at [] [] long = refl
bodies_at [] (n ∷ ns) long = absurd (omega arith)
bodies_at (d ∷ ds) [] long = absurd (omega arith)
bodies_at (d ∷ ds) (n ∷ ns) long = ap (λ rest. n ∷ rest) (bodies_at ds ns (omega arith))

module _ (set : List DocText) (docs : Readings) where
  trees : (ds : List Definition) → AllByRecursion IsTree (bodies set docs ds)
  trees [] = tt
  trees (d ∷ ds) = (tree (meant_in set docs d) d.rule.body, trees ds)

  pub length_bodies : (ds : List Definition) → length (bodies set docs ds) ≡ length ds
  length_bodies [] = refl
  length_bodies (d ∷ ds) = ap suc (length_bodies ds)

  -- the nodes of a set are in reading order
  pub in_reading_order : IsInReadingOrder (numbers set docs)
  in_reading_order =
      let ds : List Definition = definitions set docs in
      let ones : List Laid = bodies set docs ds in
      let nodes : List Node = one_by_one 0 ones in
      let all : AreSubtrees nodes (starts 0 ones) 0 (0 + length nodes) = row nodes ones 0 (trees ds) (stands_added [] nodes) in
      let long : length (starts 0 ones) ≡ length ds = length_starts 0 ones ∙ length_bodies ds in
      let e : 0 + length nodes ≡ length nodes = omega arith in
      subst (λ ns. AreSubtrees nodes ns 0 (length nodes)) (sym (bodies_at ds (starts 0 ones) long)) (subst (λ end. AreSubtrees nodes (starts 0 ones) 0 end) e all)
