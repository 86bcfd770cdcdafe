-- Who looks at a node: rows to which each node was added, in turn, at those that it looks at.
use Rattle.std.proofs.Common.{◌≡◌, ◌⊎◌, ℕ, zero, suc, ◌+◌, ◌<◌, ◌≤◌, ◌==◌, Bool, true, false, cond, List, [], ◌∷◌, ◌++◌, Option, Some, None, length, get_or, take, replicate, nat_lt, refl, sym, ap, ◌∙◌, subst, arith, inl, inr}
use Rattle.std.specs.Prelude.{slice_get}
use Rattle.std.specs.List.{All}
use Rattle.std.specs.Option.{option_map_or}
use Rattle.std.proofs.lemmas.Bool.{cases_lt, cases_order, eq-eqb, ne_eqb, lt-ltb, le-ltb}
use Rattle.std.proofs.lemmas.List.{length-replicate}
use Rattle.std.proofs.lemmas.Option.{slice_get_past, get_or_from_slice_get, slice_get_within}
use Rattle.std.proofs.Math.Seq.{take-suc}
use Rattle.vg_base.specs.declared.numbers.NodeIx.{NodeIx}
use Rattle.grammar_tree.specs.declared.linked.Node.{Node}
use Rattle.grammar_tree.specs.declared.linked.Node.TheVariants as node
use Rattle.grammar_tree.specs.declared.linked.LinkedRule.{LinkedRule}
use Rattle.grammar_tree.specs.Links.{Rules, IsLinked, parts}
use Rattle.self_derivation.specs.code.Marks.{times, times_named, row, Grown}
use Rattle.self_derivation.specs.code.Nodes.{below, below_at}
use Rattle.self_derivation.specs.code.Above.{Added, AreAbove, AreAboveUpTo}
use Rattle.self_derivation.proofs.Tallies.{cond_none, cond_sum, times-append, times_if, named-append, all_below, row_bare, grown_length, grown_row}

-- ---- one node is added

pub added_none : (n : ℕ) (rows : List (List ℕ)) → Added n [] rows rows
added_none n rows = record { sized = refl; counted = λ p m. omega (arith, cond_none (n == m)) }

pub added_one : (n : ℕ) (p : NodeIx) (old now : List (List ℕ)) → p.0 < length old → Grown p.0 (n ∷ []) old now → Added n (p ∷ []) old now
added_one n p old now lt is = record {
  sized = grown_length p.0 (n ∷ []) old now is;
  counted = λ q m.
      ap (times m) (grown_row p.0 (n ∷ []) old now lt is q)
      ∙ times-append m (row old q) (cond (p.0 == q) (n ∷ []) [])
      ∙ ap (λ k. times m (row old q) + k) (times_if (p.0 == q) m n ∙ once (n == m) (p.0 == q));
}
  where
    once : (t b : Bool) → cond t (cond b 1 0) 0 ≡ cond t (0 + cond b 1 0) 0
    once t b = ap (λ k. cond t k 0) (omega arith)

added_then : (n : ℕ) (ps qs : List NodeIx) (a b c : List (List ℕ)) → Added n ps a b → Added n qs b c → Added n (ps ++ qs) a c
added_then n ps qs a b c one other = record {
  sized = other.sized ∙ one.sized;
  counted = λ p m.
      omega (
        arith,
        one.counted p m,
        other.counted p m,
        cond_sum (n == m) (times_named p ps) (times_named p qs),
        ap (λ k. cond (n == m) k 0) (named-append p ps qs),
      );
}

pub added_next : (n i : ℕ) (ps : List NodeIx) (d : NodeIx) (a b c : List (List ℕ)) → i < length ps → Added n (take i ps) a b → Added n (get_or ps i d ∷ []) b c → Added n (take (i + 1) ps) a c
added_next n i ps d a b c lt one other =
    let next : i + 1 ≡ suc i = omega arith in
    subst (λ l. Added n l a c) (sym (ap (λ j. take j ps) next ∙ take-suc ps i d lt)) (added_then n (take i ps) (get_or ps i d ∷ []) a b c one other)

-- ---- what a node looks at

one_within : (bound : ℕ) (p : NodeIx) → p.0 < bound → All (λ q. q.0 < bound) (p ∷ [])
one_within bound p lt zero d h = lt
one_within bound p lt (suc k) d h = absurd (omega arith)

module _ (L : Rules) (linked : IsLinked L) where
  abbrev Within : List NodeIx → Type 0
  Within ps = All (λ p. p.0 < length L.nodes) ps

  body_within : (r : ℕ) (o : Option LinkedRule) → slice_get L.rules r ≡ o → Within (option_map_or (λ (rule : LinkedRule). rule.body ∷ []) o [])
  body_within r None is = λ k d lt. absurd (omega arith)
  body_within r (Some rule) is =
      let h = linked.bodies r rule (slice_get_within L.rules r rule is) in
      one_within (length L.nodes) rule.body (subst (λ (q : LinkedRule). q.body.0 < length L.nodes) (get_or_from_slice_get L.rules r rule rule is) h)

  parts_within : (n : ℕ) (x : Node) → slice_get L.nodes n ≡ Some x → Within (parts x)
  parts_within n x is k d lt = (linked.rises n x is k d lt).1

  pub below_within : (n : ℕ) (x : Node) → slice_get L.nodes n ≡ Some x → Within (below L x)
  below_within n (node.Token words) is = parts_within n (node.Token words) is
  below_within n (node.Seq ps) is = parts_within n (node.Seq ps) is
  below_within n (node.Alt ps) is = parts_within n (node.Alt ps) is
  below_within n (node.Rep least most p) is = parts_within n (node.Rep least most p) is
  below_within n (node.Ref r) is = body_within r.0 (slice_get L.rules r.0) refl
  below_within n (node.Tag tag) is = parts_within n (node.Tag tag) is
  below_within n node.Null is = parts_within n node.Null is
  below_within n node.Void is = parts_within n node.Void is
  below_within n node.Garbage is = parts_within n node.Garbage is

-- by its number
pub below_is : (L : Rules) (n : ℕ) (x : Node) → slice_get L.nodes n ≡ Some x → below_at L n ≡ below L x
below_is L n x is = ap (λ o. option_map_or (below L) o []) is

-- ---- node after node

pub above_bare : (L : Rules) (rows : List (List ℕ)) → rows ≡ replicate (length L.nodes) [] → AreAboveUpTo L 0 rows
above_bare L rows is = record {
  sized = ap length is ∙ length-replicate (length L.nodes) [];
  counted = λ p m.
      ap (times m) (ap (λ rs. row rs p) is ∙ row_bare (length L.nodes) p)
      ∙ ap (λ b. cond b (times_named p (below_at L m)) 0) (sym (le-ltb m 0 (omega arith)));
}

pub above_next : (L : Rules) (n : ℕ) (a b : List (List ℕ)) → AreAboveUpTo L n a → Added n (below_at L n) a b → AreAboveUpTo L (n + 1) b
above_next L n a b upto added = record {
  sized = added.sized ∙ upto.sized;
  counted = λ p m. added.counted p m ∙ ap (λ k. k + cond (n == m) (times_named p (below_at L n)) 0) (upto.counted p m) ∙ at p m (cases_order m n);
}
  where
    Next : ℕ → ℕ → Type 0
    Next p m = cond (nat_lt m n) (times_named p (below_at L m)) 0 + cond (n == m) (times_named p (below_at L n)) 0 ≡ cond (nat_lt m (n + 1)) (times_named p (below_at L m)) 0

    when : (p m : ℕ) (x y z : Bool) → nat_lt m n ≡ x → (n == m) ≡ y → nat_lt m (n + 1) ≡ z →
        cond x (times_named p (below_at L m)) 0 + cond y (times_named p (below_at L n)) 0 ≡ cond z (times_named p (below_at L m)) 0 → Next p m
    when p m x y z ex ey ez h =
        rw (ex, ey, ez) h

    at : (p m : ℕ) → (m ≡ n) ⊎ ((m < n) ⊎ (n < m)) → Next p m
    at p m (inl e) =
        when p m false true true (le-ltb m n (omega arith)) (eq-eqb n m (sym e)) (lt-ltb m (n + 1) (omega arith))
        (omega (arith, ap (λ k. times_named p (below_at L k)) e))
    at p m (inr (inl less)) = when p m true false true (lt-ltb m n less) (ne_eqb n m (λ e. absurd (omega arith))) (lt-ltb m (n + 1) (omega arith)) (omega arith)
    at p m (inr (inr more)) = when p m false false false (le-ltb m n (omega arith)) (ne_eqb n m (λ e. absurd (omega arith))) (le-ltb m (n + 1) (omega arith)) (omega arith)

nothing_beyond : (L : Rules) (p m : ℕ) → length L.nodes ≤ m → times_named p (below_at L m) ≡ 0
nothing_beyond L p m le = ap (λ o. times_named p (option_map_or (below L) o [])) (slice_get_past L.nodes m le)

pub above_all : (L : Rules) (rows : List (List ℕ)) → AreAboveUpTo L (length L.nodes) rows → AreAbove L rows
above_all L rows upto = record { sized = upto.sized; counted = λ p m. upto.counted p m ∙ at p m (cases_lt m (length L.nodes)) }
  where
    at : (p m : ℕ) → (m < length L.nodes) ⊎ (length L.nodes ≤ m) → cond (nat_lt m (length L.nodes)) (times_named p (below_at L m)) 0 ≡ times_named p (below_at L m)
    at p m (inl lt) = ap (λ b. cond b (times_named p (below_at L m)) 0) (lt-ltb m (length L.nodes) lt)
    at p m (inr le) = ap (λ b. cond b (times_named p (below_at L m)) 0) (le-ltb m (length L.nodes) le) ∙ sym (nothing_beyond L p m le)

-- the nodes in a row are nodes
pub above_within : (L : Rules) (rows : List (List ℕ)) → AreAbove L rows → (p : ℕ) → All (λ m. m < length L.nodes) (row rows p)
above_within L rows above p = all_below (row rows p) (length L.nodes) (λ m le. above.counted p m ∙ nothing_beyond L p m le)
