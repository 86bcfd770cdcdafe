-- What is numbered in reading order is linked: between the first and the last number of a row of subtrees
-- each number is named once, by the row or by a part of a node in it (`row_counts`), and parts stand behind their nodes (`row_rises`).
-- For the linker: a subtree stays one where nodes elsewhere change or are added, and rows are joined.
use Rattle.std.proofs.Common.{ℕ, zero, suc, ◌+◌, ◌-◌, ◌<◌, ◌≤◌, ◌≡◌, ◌==◌, ◌&&◌, ◌⊎◌, ⊎_elim, inl, inr, cond, List, [], ◌∷◌, ◌++◌, Some, length, map, take, drop, nat_le, nat_lt, refl, sym, ap, ◌∙◌, subst, arith}
use Rattle.std.specs.Prelude.{slice_get, slice_range}
use Rattle.std.specs.List.{All, flat_map}
use Rattle.std.proofs.lemmas.Bool.{cases_order}
use Rattle.std.proofs.lemmas.Bool.Decides.{nat_tests}
use Rattle.std.proofs.lemmas.Grind.{flat_map-append}
use Rattle.std.proofs.lemmas.List.{map-append, take_all, get_or-map, length-map}
use Rattle.std.proofs.lemmas.List.Sums.{sum_by-append}
use Rattle.std.proofs.lemmas.Option.{slice_get_within}
use Rattle.vg_base.specs.declared.numbers.NodeIx.{NodeIx}
use Rattle.grammar_tree.specs.declared.linked.Node.{Node}
use Rattle.grammar_tree.specs.declared.linked.LinkedRule.{LinkedRule}
use Rattle.grammar_tree.specs.Links.{parts}
use Rattle.grammar_tree.specs.ReadingOrder.{IsSubtree, subtree, AreSubtrees, no_subtree, next_subtree, ReadingOrderIsLinked}
use Rattle.grammar_tree.proofs.Counts.{count, count-cons}
use Rattle.grammar_tree.proofs.Spans.{span_join}

-- ---- how often a number stands between two others: once or never

abbrev inside : ℕ → ℕ → ℕ → ℕ
inside start end m = cond (nat_le start m && nat_lt m end) 1 0

inside_none : (start end m : ℕ) → start ≡ end → 0 ≡ inside start end m
inside_none start end m e = grind (arith, nat_tests)

inside_join : (start middle end m : ℕ) → start ≤ middle → middle ≤ end → inside start middle m + inside middle end m ≡ inside start end m
inside_join start middle end m le le' = grind (arith, nat_tests)

inside_first : (n end m : ℕ) → n < end → cond (n == m) 1 0 + inside (n + 1) end m ≡ inside n end m
inside_first n end m lt = grind (arith, nat_tests)

inside_all : (end m : ℕ) → m < end → inside 0 end m ≡ 1
inside_all end m lt = grind (arith, nat_tests)

-- ---- the parts of the nodes between two places

abbrev nums : List NodeIx → List ℕ
nums ps = map (λ p. p.0) ps

abbrev between : List Node → ℕ → ℕ → List NodeIx
between nodes start end = flat_map parts (slice_range nodes start end)

count-append : (m : ℕ) (xs ys : List ℕ) → count m (xs ++ ys) ≡ count m xs + count m ys
count-append m xs ys = sum_by-append (λ k. cond (k == m) 1 0) xs ys

count-nums : (m : ℕ) (ps qs : List NodeIx) → count m (nums (ps ++ qs)) ≡ count m (nums ps) + count m (nums qs)
count-nums m ps qs = ap (count m) (map-append (λ p. p.0) ps qs) ∙ count-append m (nums ps) (nums qs)

drop_first : {X : Type 0} (xs : List X) (n : ℕ) (x : X) → slice_get xs n ≡ Some x → drop n xs ≡ x ∷ drop (n + 1) xs
drop_first [] n x g = absurd (cc)
drop_first (y ∷ xs) zero x g = let same : y ≡ x = cc in ap (λ z. z ∷ xs) same
drop_first (y ∷ xs) (suc n) x g =
    let e : suc (n + 1) ≡ suc n + 1 = omega arith in
    drop_first xs n x g ∙ ap (λ k. x ∷ drop k (y ∷ xs)) e

range_first : {X : Type 0} (xs : List X) (n end : ℕ) (x : X) → slice_get xs n ≡ Some x → n < end → slice_range xs n end ≡ x ∷ slice_range xs (n + 1) end
range_first xs n end x g lt =
    let e : end - n ≡ suc (end - (n + 1)) = omega arith in
    ap (λ k. take k (drop n xs)) e ∙ ap (take (suc (end - (n + 1)))) (drop_first xs n x g)

between_join : (nodes : List Node) (start middle end : ℕ) → start ≤ middle → middle ≤ end → between nodes start end ≡ between nodes start middle ++ between nodes middle end
between_join nodes start middle end le le' =
    ap (flat_map parts) (span_join nodes start middle end le le') ∙ flat_map-append parts (slice_range nodes start middle) (slice_range nodes middle end)

module _ (nodes : List Node) where
  mutual
    -- a subtree has its own node at least
    pub subtree_grows : (n : NodeIx) (end : ℕ) → IsSubtree nodes n end → n.0 < end
    subtree_grows n end (subtree x e row) = omega (arith, row_grows (parts x) (n.0 + 1) end row)

    pub row_grows : (ps : List NodeIx) (start end : ℕ) → AreSubtrees nodes ps start end → start ≤ end
    row_grows _ start end (no_subtree e) = omega arith
    row_grows _ start end (next_subtree {p = p} {ps = ps} middle e one more) =
        omega (arith, e, subtree_grows p middle one, row_grows ps middle end more)

  mutual
    subtree_counts : (n : NodeIx) (end : ℕ) → IsSubtree nodes n end → (m : ℕ) → cond (n.0 == m) 1 0 + count m (nums (between nodes n.0 end)) ≡ inside n.0 end m
    subtree_counts n end (subtree x e row) m =
        let lt : n.0 < end = omega (arith, row_grows (parts x) (n.0 + 1) end row) in
        let first : between nodes n.0 end ≡ parts x ++ between nodes (n.0 + 1) end = ap (flat_map parts) (range_first nodes n.0 end x e lt) in
        let split : count m (nums (between nodes n.0 end)) ≡ count m (nums (parts x)) + count m (nums (between nodes (n.0 + 1) end)) =
        ap (λ ps. count m (nums ps)) first ∙ count-nums m (parts x) (between nodes (n.0 + 1) end) in
        omega (arith, split, row_counts (parts x) (n.0 + 1) end row m, inside_first n.0 end m lt)

    row_counts : (ps : List NodeIx) (start end : ℕ) → AreSubtrees nodes ps start end → (m : ℕ) → count m (nums ps) + count m (nums (between nodes start end)) ≡ inside start end m
    row_counts _ start end (no_subtree e) m =
        let none : end - start ≡ 0 = omega (arith, e) in
        let nothing : count m (nums (between nodes start end)) ≡ 0 = ap (λ k. count m (nums (flat_map parts (take k (drop start nodes))))) none in
        omega (arith, nothing, inside_none start end m e)
    row_counts _ start end (next_subtree {p = p} {ps = ps} middle e one more) m =
        let le : start ≤ middle = omega (arith, e, subtree_grows p middle one) in
        let le' = row_grows ps middle end more in
        let split : count m (nums (between nodes start end)) ≡ count m (nums (between nodes start middle)) + count m (nums (between nodes middle end)) =
        ap (λ qs. count m (nums qs)) (between_join nodes start middle end le le') ∙ count-nums m (between nodes start middle) (between nodes middle end) in
        let mine : cond (p.0 == m) 1 0 + count m (nums (between nodes start middle)) ≡ inside start middle m =
        subst (λ k. cond (p.0 == m) 1 0 + count m (nums (between nodes k middle)) ≡ inside k middle m) e (subtree_counts p middle one m) in
        omega (arith, split, mine, row_counts ps middle end more m, count-cons m p.0 (nums ps), inside_join start middle end m le le')

  -- the nodes of a row lie between its start and its end
  pub row_within : (ps : List NodeIx) (start end : ℕ) → AreSubtrees nodes ps start end → All (λ p. (start ≤ p.0) × (p.0 < end)) ps
  row_within _ start end (no_subtree e) k d lt = absurd (omega arith)
  row_within _ start end (next_subtree {p = p} {ps = ps} middle e one more) zero d lt =
      (omega (arith, e), omega (arith, subtree_grows p middle one, row_grows ps middle end more))
  row_within _ start end (next_subtree {p = p} {ps = ps} middle e one more) (suc k) d lt =
      let rest = row_within ps middle end more k d (omega arith) in (omega (arith, e, subtree_grows p middle one, rest.0), rest.1)

  -- a node's parts stand behind it
  abbrev Rises : ℕ → ℕ → Type 0
  Rises k end = (x : Node) → slice_get nodes k ≡ Some x → All (λ p. (k < p.0) × (p.0 < end)) (parts x)

  further : (k end end' : ℕ) → end ≤ end' → Rises k end → Rises k end'
  further k end end' le h x e i d lt = let p = h x e i d lt in (p.0, omega (arith, p.1))

  -- of the subtree's own node, where it is known of those behind it
  own_rises : (n : NodeIx) (end k : ℕ) (x : Node) → slice_get nodes n.0 ≡ Some x → AreSubtrees nodes (parts x) (n.0 + 1) end →
      (n.0 ≡ k) ⊎ ((n.0 < k) ⊎ (k < n.0)) → n.0 ≤ k → (n.0 + 1 ≤ k → Rises k end) → Rises k end
  own_rises n end k x e row (inl same) le behind = λ y g i d within.
      let is : x ≡ y = cc (sym e ∙ ap (slice_get nodes) same ∙ g) in
      let h : All (λ p. (n.0 + 1 ≤ p.0) × (p.0 < end)) (parts y) =
      subst (λ z. All (λ p. (n.0 + 1 ≤ p.0) × (p.0 < end)) (parts z)) is (row_within (parts x) (n.0 + 1) end row) in
      let p = h i d within in
      (omega (arith, p.0, same), p.1)
  own_rises n end k x e row (inr (inl less)) le behind = behind (omega arith)
  own_rises n end k x e row (inr (inr more)) le behind = absurd (omega arith)

  below_or_not : (k middle : ℕ) → (k < middle) ⊎ (middle ≤ k)
  below_or_not k middle = at (cases_order k middle)
    where
      at : (k ≡ middle) ⊎ ((k < middle) ⊎ (middle < k)) → (k < middle) ⊎ (middle ≤ k)
      at (inl same) = inr (omega arith)
      at (inr (inl less)) = inl less
      at (inr (inr beyond)) = inr (omega arith)

  mutual
    subtree_rises : (n : NodeIx) (end : ℕ) → IsSubtree nodes n end → (k : ℕ) → n.0 ≤ k → k < end → Rises k end
    subtree_rises n end (subtree x e row) k le lt =
        own_rises n end k x e row (cases_order n.0 k) le (λ beyond. row_rises (parts x) (n.0 + 1) end row k beyond lt)

    row_rises : (ps : List NodeIx) (start end : ℕ) → AreSubtrees nodes ps start end → (k : ℕ) → start ≤ k → k < end → Rises k end
    row_rises _ start end (no_subtree e) k le lt = absurd (omega arith)
    row_rises _ start end (next_subtree {p = p} {ps = ps} middle e one more) k le lt =
        ⊎_elim
        (λ here. further k middle end (row_grows ps middle end more) (subtree_rises p middle one k (omega (arith, e)) here))
        (λ beyond. row_rises ps middle end more k beyond lt) (below_or_not k middle)

bodies_nums : (rules : List LinkedRule) → nums (map (λ r. r.body) rules) ≡ map (λ r. r.body.0) rules
bodies_nums [] = refl
bodies_nums (r ∷ rules) = ap (λ ns. r.body.0 ∷ ns) (bodies_nums rules)

pub reading_order_is_linked : ReadingOrderIsLinked
reading_order_is_linked l few refers row = record {
  few = few;
  refers = refers;
  bodies = λ k r lt.
      let h = row_within l.nodes (map (λ r. r.body) l.rules) 0 (length l.nodes) row k r.body (omega (arith, length-map l.rules (λ (q : LinkedRule). q.body))) in
      subst (λ (n : NodeIx). n.0 < length l.nodes) (get_or-map (λ q. q.body) l.rules k r r.body lt) h.1;
  rises = λ n x e. row_rises l.nodes (map (λ r. r.body) l.rules) 0 (length l.nodes) row n (omega arith) (slice_get_within l.nodes n x e) x e;
  once = λ n lt.
      let all : slice_range l.nodes 0 (length l.nodes) ≡ l.nodes = take_all (length l.nodes - 0) l.nodes (omega arith) in
      let named : count n (nums (map (λ r. r.body) l.rules)) + count n (nums (flat_map parts l.nodes)) ≡ inside 0 (length l.nodes) n =
      subst (λ xs. count n (nums (map (λ r. r.body) l.rules)) + count n (nums (flat_map parts xs)) ≡ inside 0 (length l.nodes) n) all
      (row_counts l.nodes (map (λ r. r.body) l.rules) 0 (length l.nodes) row n) in
      count-append n (map (λ r. r.body.0) l.rules) (nums (flat_map parts l.nodes))
      ∙ ap (λ ns. count n ns + count n (nums (flat_map parts l.nodes))) (sym (bodies_nums l.rules)) ∙ named ∙ inside_all (length l.nodes) n lt;
}

-- ---- for whoever numbers the nodes

-- the nodes of two lists between two places are the same
abbrev pub Agree : List Node → List Node → ℕ → ℕ → Type 0
Agree nodes others start end = (k : ℕ) → start ≤ k → k < end → slice_get nodes k ≡ slice_get others k

-- a subtree stays one where nodes elsewhere change
module _ (nodes others : List Node) where
  mutual
    pub subtree_stays : (n : NodeIx) (end : ℕ) → Agree nodes others n.0 end → IsSubtree nodes n end → IsSubtree others n end
    subtree_stays n end same (subtree x e row) =
        subtree x (sym (same n.0 (omega arith) (omega (arith, row_grows nodes (parts x) (n.0 + 1) end row))) ∙ e)
        (row_stays (parts x) (n.0 + 1) end (λ k le lt. same k (omega arith) lt) row)

    pub row_stays : (ps : List NodeIx) (start end : ℕ) → Agree nodes others start end → AreSubtrees nodes ps start end → AreSubtrees others ps start end
    row_stays _ start end same (no_subtree e) = no_subtree e
    row_stays _ start end same (next_subtree {p = p} {ps = ps} middle e one more) =
        next_subtree middle e
        (subtree_stays p middle (λ k le lt. same k (omega (arith, e)) (omega (arith, row_grows nodes ps middle end more))) one)
        (row_stays ps middle end (λ k le lt. same k (omega (arith, e, subtree_grows nodes p middle one)) lt) more)

-- two rows, one after the other
pub rows_join : (nodes : List Node) (ps qs : List NodeIx) (start middle end : ℕ) → AreSubtrees nodes ps start middle → AreSubtrees nodes qs middle end → AreSubtrees nodes (ps ++ qs) start end
rows_join nodes _ qs start middle end (no_subtree e) more = subst (λ k. AreSubtrees nodes qs k end) (sym e) more
rows_join nodes _ qs start middle end (next_subtree {ps = ps} between e one rest) more = next_subtree between e one (rows_join nodes ps qs between middle end rest more)

-- one more subtree at the end of a row
pub row_more : (nodes : List Node) (ps : List NodeIx) (p : NodeIx) (start end : ℕ) → AreSubtrees nodes ps start p.0 → IsSubtree nodes p end → AreSubtrees nodes (ps ++ p ∷ []) start end
row_more nodes ps p start end row one = rows_join nodes ps (p ∷ []) start p.0 end row (next_subtree end refl one (no_subtree refl))

-- a list and what is added to it agree on the list
pub agree_added : (nodes more : List Node) (start end : ℕ) → end ≤ length nodes → Agree nodes (nodes ++ more) start end
agree_added nodes more start end within k le lt = added nodes k (omega arith)
  where
    added : (xs : List Node) (k : ℕ) → k < length xs → slice_get xs k ≡ slice_get (xs ++ more) k
    added [] k lt = absurd (omega arith)
    added (x ∷ xs) zero lt = refl
    added (x ∷ xs) (suc k) lt = added xs k (omega arith)
