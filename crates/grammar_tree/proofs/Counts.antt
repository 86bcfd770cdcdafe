-- Linked rules are named by as many numbers as they have nodes, one of them a rule's body, so 32 bits count parts and rules.
use Rattle.std.proofs.Common.{ℕ, zero, suc, ◌+◌, ◌<◌, ◌≤◌, ◌≡◌, ◌^◌, ◌==◌, ◌⊎◌, Bool, true, false, cond, List, [], ◌∷◌, Some, length, map, refl, sym, ap, ◌∙◌, ⊎_elim, inl, inr, arith, eqb, eq-eqb, zero-add, length-append}
use Rattle.std.specs.Prelude.{slice_get, count_by}
use Rattle.std.specs.List.{All, AllByRecursion, IsDistinct, flat_map, list_any}
use Rattle.std.proofs.lemmas.Bool.{eqb-true, or_cases, or_left, or_right, cases_order}
use Rattle.std.proofs.lemmas.List.{length-map}
use Rattle.std.proofs.lemmas.List.Sums.{sum_by-append, count_by-le-length}
use Rattle.std.proofs.lemmas.List.Elements.{All-append, All-map}
use Rattle.std.proofs.lemmas.Option.{slice_get_within}
use Rattle.std.proofs.lemmas.Map.Steps.{length-le_from_distinct_below}
use Rattle.vg_base.specs.declared.numbers.NodeIx.{NodeIx}
use Rattle.grammar_tree.specs.declared.linked.Node.{Node}
use Rattle.grammar_tree.specs.Links.{Rules, IsLinked, mentions, parts}

abbrev pub count : ℕ → List ℕ → ℕ
count n xs = count_by (λ m. m == n) xs

pub count-cons : (n x : ℕ) (xs : List ℕ) → count n (x ∷ xs) ≡ cond (x == n) 1 0 + count n xs
count-cons n x xs = sum_by-append (λ m. cond (m == n) 1 0) (x ∷ []) xs ∙ ap (λ a. a + count n xs) (zero-add (cond (x == n) 1 0))

count-same : (n x : ℕ) (xs : List ℕ) → x ≡ n → count n (x ∷ xs) ≡ 1 + count n xs
count-same n x xs e = count-cons n x xs ∙ ap (λ b. cond b 1 0 + count n xs) (eq-eqb x n e)

count-other : (n x : ℕ) (xs : List ℕ) → eqb x n ≡ false → count n (x ∷ xs) ≡ count n xs
count-other n x xs e = count-cons n x xs ∙ ap (λ b. cond b 1 0 + count n xs) e ∙ zero-add (count n xs)

none_left : (x : ℕ) (ys : List ℕ) → count x ys ≡ 0 → AllByRecursion (λ y. eqb x y ≡ false) ys
none_left x [] e = tt
none_left x (y ∷ ys) e = (first (eqb x y) refl, none_left x ys (omega (arith, count-cons x y ys)))
  where
    first : (b : Bool) → eqb x y ≡ b → eqb x y ≡ false
    first true h = absurd (omega (arith, count-same x y ys (sym (eqb-true x y h))))
    first false h = h

distinct : (xs : List ℕ) → ((n : ℕ) → count n xs ≤ 1) → IsDistinct eqb xs
unfolding IsDistinct
distinct [] once = tt
distinct (x ∷ xs) once =
    (none_left x xs (omega (arith, once x, count-same x x xs refl)), distinct xs (λ n. omega (arith, once n, count-cons n x xs)))

below : (xs : List ℕ) (bound q : ℕ) → All (λ m. m < bound) xs → list_any (eqb q) xs ≡ true → q < bound
below [] bound q all h = absurd (cc)
below (x ∷ xs) bound q all h =
    ⊎_elim (λ e. let same = eqb-true q x e in let here : x < bound = all 0 0 (omega arith) in omega arith)
    (λ rest. below xs bound q (λ k d lt. all (suc k) d (omega arith)) rest) (or_cases _ _ h)

counted : (xs : List ℕ) (n : ℕ) → 0 < count n xs → list_any (eqb n) xs ≡ true
counted [] n h = absurd (omega arith)
counted (x ∷ xs) n h = at (eqb x n) refl (counted xs n)
  where
    at : (b : Bool) → eqb x n ≡ b → (0 < count n xs → list_any (eqb n) xs ≡ true) → list_any (eqb n) (x ∷ xs) ≡ true
    at true e more = or_left (eqb n x) (list_any (eqb n) xs) (eq-eqb n x (sym (eqb-true x n e)))
    at false e more = or_right (eqb n x) (list_any (eqb n) xs) (more (omega (arith, count-other n x xs e)))

positive : (xs : List ℕ) → All (λ m. 0 < m) xs → list_any (eqb 0) xs ≡ true → ⊥
positive [] all h = cc
positive (x ∷ xs) all h =
    ⊎_elim (λ e. let same = eqb-true 0 x e in let here : 0 < x = all 0 0 (omega arith) in omega arith)
    (λ rest. positive xs (λ k d lt. all (suc k) d (omega arith)) rest) (or_cases _ _ h)

all_parts : (P : NodeIx → Type 0) (nodes : List Node) → ((k : ℕ) (node : Node) → slice_get nodes k ≡ Some node → All P (parts node)) → All P (flat_map parts nodes)
all_parts P [] each = λ k d lt. absurd (omega arith)
all_parts P (x ∷ nodes) each = All-append P (parts x) (flat_map parts nodes) (each 0 x refl) (all_parts P nodes (λ k node g. each (suc k) node g))

parts_within : (nodes : List Node) (k : ℕ) (node : Node) → slice_get nodes k ≡ Some node → length (parts node) ≤ length (flat_map parts nodes)
parts_within [] k node g = absurd (cc)
parts_within (x ∷ nodes) zero node g = let same : x ≡ node = cc in omega (arith, length-append (parts x) (flat_map parts nodes), ap (λ y. length (parts y)) same)
parts_within (x ∷ nodes) (suc k) node g = omega (arith, parts_within nodes k node g, length-append (parts x) (flat_map parts nodes))

module _ (l : Rules) (linked : IsLinked l) where
  named_below : All (λ m. m < length l.nodes) (mentions l)
  named_below =
      All-append (λ m. m < length l.nodes) (map (λ r. r.body.0) l.rules) (map (λ x. x.0) (flat_map parts l.nodes))
      (All-map (λ m. m < length l.nodes) (λ r. r.body.0) l.rules linked.bodies)
      (All-map (λ m. m < length l.nodes) (λ x. x.0) (flat_map parts l.nodes)
      (all_parts (λ x. x.0 < length l.nodes) l.nodes (λ k node g i d lt. (linked.rises k node g i d lt).1)))

  at_most_once : (n : ℕ) → count n (mentions l) ≤ 1
  at_most_once n = at (cases_order (count n (mentions l)) 0)
    where
      at : (count n (mentions l) ≡ 0) ⊎ ((count n (mentions l) < 0) ⊎ (0 < count n (mentions l))) → count n (mentions l) ≤ 1
      at (inl e) = omega arith
      at (inr (inl h)) = omega arith
      at (inr (inr h)) = omega (arith, linked.once n (below (mentions l) (length l.nodes) n named_below (counted (mentions l) n h)))

  few_mentions : length (mentions l) ≤ length l.nodes
  few_mentions = length-le_from_distinct_below (mentions l) (length l.nodes) (distinct (mentions l) at_most_once) (λ q h. below (mentions l) (length l.nodes) q named_below h)

  lengths : length (mentions l) ≡ length l.rules + length (flat_map parts l.nodes)
  lengths =
      length-append (map (λ r. r.body.0) l.rules) (map (λ x. x.0) (flat_map parts l.nodes))
      ∙ ap (λ a. a + length (map (λ x. x.0) (flat_map parts l.nodes))) (length-map l.rules (λ r. r.body.0))
      ∙ ap (λ b. length l.rules + b) (length-map (flat_map parts l.nodes) (λ x. x.0))

  pub few_rules : length l.rules ≤ 2 ^ 32
  few_rules = omega (arith, lengths, few_mentions, linked.few)

  -- the first node is no part, so it is the body of a rule
  some_rule : 0 < length l.nodes → 0 < length l.rules
  some_rule pos = at (cases_order (count 0 (map (λ x. x.0) (flat_map parts l.nodes))) 0)
    where
      parts_positive : All (λ m. 0 < m) (map (λ x. x.0) (flat_map parts l.nodes))
      parts_positive =
          All-map (λ m. 0 < m) (λ x. x.0) (flat_map parts l.nodes)
          (all_parts (λ x. 0 < x.0) l.nodes (λ k node g i d lt. let up = (linked.rises k node g i d lt).0 in omega arith))

      both : count 0 (mentions l) ≡ count 0 (map (λ r. r.body.0) l.rules) + count 0 (map (λ x. x.0) (flat_map parts l.nodes))
      both = sum_by-append (λ m. cond (m == 0) 1 0) (map (λ r. r.body.0) l.rules) (map (λ x. x.0) (flat_map parts l.nodes))

      at : (count 0 (map (λ x. x.0) (flat_map parts l.nodes)) ≡ 0) ⊎ ((count 0 (map (λ x. x.0) (flat_map parts l.nodes)) < 0) ⊎ (0 < count 0 (map (λ x. x.0) (flat_map parts l.nodes)))) → 0 < length l.rules
      at (inl none) = omega (arith, none, both, linked.once 0 pos, count_by-le-length (λ m. m == 0) (map (λ r. r.body.0) l.rules), length-map l.rules (λ r. r.body.0))
      at (inr (inl never)) = absurd (omega arith)
      at (inr (inr some)) = absurd (positive (map (λ x. x.0) (flat_map parts l.nodes)) parts_positive (counted (map (λ x. x.0) (flat_map parts l.nodes)) 0 some))

  pub few_parts : (n : ℕ) (node : Node) → slice_get l.nodes n ≡ Some node → length (parts node) < 2 ^ 32
  few_parts n node g =
      let some : 0 < length l.rules = some_rule (omega (arith, slice_get_within l.nodes n node g)) in
      omega (arith, parts_within l.nodes n node g, lengths, few_mentions, linked.few)
