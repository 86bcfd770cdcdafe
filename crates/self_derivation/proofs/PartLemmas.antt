-- Which parts a node passes on: beside it no part has words, and what such a part holds alone the node holds alone.
use Rattle.std.proofs.Common.{◌≡◌, ◌≢◌, ◌⊎◌, ⊎_elim, ℕ, zero, suc, ◌+◌, ◌<◌, ◌≤◌, ◌||◌, Bool, true, false, not, cond, List, [], ◌∷◌, Option, Some, None, length, map, get_or, refl, sym, ap, ◌∙◌, subst, arith, inl, inr, filter, nat_le}
use Rattle.std.specs.Prelude.{◌↔◌, slice_get, Contains}
use Rattle.std.proofs.lemmas.Bool.{both_ways, leb-true, le-leb, ne_eqb, or_cases, or_left, or_right}
use Rattle.std.proofs.lemmas.List.Sums.{sum_by-cons}
use Rattle.vg_base.specs.declared.numbers.NodeIx.{NodeIx}
use Rattle.vg_base.specs.declared.numbers.RuleIx.{RuleIx}
use Rattle.grammar_tree.specs.declared.linked.Node.{Node}
use Rattle.grammar_tree.specs.declared.linked.Node.TheVariants as node
use Rattle.grammar_tree.specs.Links.{Rules, parts, node_at}
use Rattle.grammar_tree.specs.Derives.{CanBeEmpty}
use Rattle.grammar_tree.specs.Alone.{Alone, at_seq, at_alt, at_rep}
use Rattle.self_derivation.specs.code.Marks.{bit}
use Rattle.self_derivation.specs.code.Nodes.{node_ix, takes_turns, worded}
use Rattle.self_derivation.specs.code.Steps.{vertex, passed}
use Rattle.self_derivation.proofs.StepLemmas.{passes}

-- ---- parts of which none but one has words

module _ (E : ℕ → Bool) where
  worded-cons : (q : NodeIx) (ps : List NodeIx) → worded E (q ∷ ps) ≡ bit (not (E q.0)) + worded E ps
  worded-cons q ps = sum_by-cons (λ p. bit (not (E p.0))) q ps

  wordless : (b : Bool) → bit (not b) ≤ 0 → b ≡ true
  wordless true h = refl
  wordless false h = absurd (omega arith)

  part_counts : (ps : List NodeIx) (k : ℕ) (p : NodeIx) → slice_get ps k ≡ Some p → bit (not (E p.0)) ≤ worded E ps
  part_counts [] k p g = absurd (cc)
  part_counts (q ∷ ps) zero p g = let same : q ≡ p = cc in omega (arith, worded-cons q ps, ap (λ (r : NodeIx). bit (not (E r.0))) same)
  part_counts (q ∷ ps) (suc k) p g = omega (arith, worded-cons q ps, part_counts ps k p g)

  -- where no part has words beside one, each other can be empty
  others_empty : (ps : List NodeIx) (k : ℕ) (p : NodeIx) → slice_get ps k ≡ Some p → worded E ps ≤ bit (not (E p.0)) →
      (j : ℕ) (other : NodeIx) → j ≢ k → slice_get ps j ≡ Some other → E other.0 ≡ true
  others_empty [] k p g few j other ne h = absurd (cc)
  others_empty (q ∷ ps) zero p g few zero other ne h = absurd (ne refl)
  others_empty (q ∷ ps) zero p g few (suc j) other ne h =
      let same : q ≡ p = cc in
      wordless (E other.0) (omega (arith, worded-cons q ps, few, ap (λ (r : NodeIx). bit (not (E r.0))) same, part_counts ps j other h))
  others_empty (q ∷ ps) (suc k) p g few zero other ne h =
      let same : q ≡ other = cc in
      wordless (E other.0) (omega (arith, worded-cons q ps, few, ap (λ (r : NodeIx). bit (not (E r.0))) same, part_counts ps k p g))
  others_empty (q ∷ ps) (suc k) p g few (suc j) other ne h =
      others_empty ps k p g (omega (arith, worded-cons q ps, few)) j other (λ e. ne (ap suc e)) h

  none_worded : (ps : List NodeIx) → ((j : ℕ) (other : NodeIx) → slice_get ps j ≡ Some other → E other.0 ≡ true) → worded E ps ≡ 0
  none_worded [] all = refl
  none_worded (q ∷ ps) all =
      omega (arith, worded-cons q ps, ap (λ b. bit (not b)) (all 0 q refl), none_worded ps (λ j other h. all (suc j) other h))

  one_worded : (ps : List NodeIx) (k : ℕ) (p : NodeIx) → slice_get ps k ≡ Some p →
      ((j : ℕ) (other : NodeIx) → j ≢ k → slice_get ps j ≡ Some other → E other.0 ≡ true) → worded E ps ≤ bit (not (E p.0))
  one_worded [] k p g others = absurd (cc)
  one_worded (q ∷ ps) zero p g others =
      let same : q ≡ p = cc in
      omega (arith, worded-cons q ps, ap (λ (r : NodeIx). bit (not (E r.0))) same, none_worded ps (λ j other h. others (suc j) other (λ e. absurd (omega arith)) h))
  one_worded (q ∷ ps) (suc k) p g others =
      omega (
        arith,
        worded-cons q ps,
        ap (λ b. bit (not b)) (others 0 q (λ e. absurd (omega arith)) refl),
        one_worded ps k p g (λ j other ne h. others (suc j) other (λ e. ne (omega (arith, e))) h),
      )

not_bit : (b : Bool) → cond b 0 1 ≡ bit (not b)
not_bit true = refl
not_bit false = refl

-- ---- what is in a row

pub in_one : (x y : ℕ) → Contains (x ∷ []) y → x ≡ y
in_one x y c = at c.0 c.1 c.2
  where
    at : (k : ℕ) → k < length (x ∷ []) → get_or (x ∷ []) k y ≡ y → x ≡ y
    at zero lt e = e
    at (suc k) lt e = absurd (omega arith)

pub in_none : (y : ℕ) → Contains [] y → ⊥
in_none y c = omega (arith, c.1)

module _ (rules : ℕ) (E : ℕ → Bool) (x : Node) where
  -- the number is the vertex of a part that passes
  abbrev pub InPassed : List NodeIx → ℕ → Type 0
  InPassed ps y = (k : ℕ) × (p : NodeIx) × (slice_get ps k ≡ Some p) × (passes E x p ≡ true) × (y ≡ vertex rules p)

  first : (b : Bool) (q : NodeIx) (rest : List NodeIx) → b ≡ true → Contains (map (vertex rules) (cond b (q ∷ rest) rest)) (vertex rules q)
  first true q rest e = (0, omega arith, refl)
  first false q rest e = absurd (cc)

  later : (b : Bool) (q : NodeIx) (rest : List NodeIx) (y : ℕ) → Contains (map (vertex rules) rest) y → Contains (map (vertex rules) (cond b (q ∷ rest) rest)) y
  later true q rest y c = (suc c.0, omega (arith, c.1), c.2)
  later false q rest y c = c

  pub in_passed : (ps : List NodeIx) (k : ℕ) (p : NodeIx) → slice_get ps k ≡ Some p → passes E x p ≡ true → Contains (passed rules E x ps) (vertex rules p)
  in_passed [] k p g h = absurd (cc)
  in_passed (q ∷ ps) zero p g h =
      let same : q ≡ p = cc in
      subst (λ (r : NodeIx). Contains (passed rules E x (q ∷ ps)) (vertex rules r)) same (first (passes E x q) q (filter (passes E x) ps) (ap (passes E x) same ∙ h))
  in_passed (q ∷ ps) (suc k) p g h = later (passes E x q) q (filter (passes E x) ps) (vertex rules p) (in_passed ps k p g h)

  pub of_passed : (ps : List NodeIx) (y : ℕ) → Contains (passed rules E x ps) y → InPassed ps y
  of_passed [] y c = absurd (in_none y c)
  of_passed (q ∷ ps) y c = at (passes E x q) refl c (λ d. of_passed ps y d)
    where
      rest : List NodeIx
      rest = filter (passes E x) ps

      front : passes E x q ≡ true → (k : ℕ) → k < length (map (vertex rules) (q ∷ rest)) → get_or (map (vertex rules) (q ∷ rest)) k y ≡ y →
          (Contains (map (vertex rules) rest) y → InPassed ps y) → InPassed (q ∷ ps) y
      front e zero lt is more = (0, q, refl, e, sym is)
      front e (suc k) lt is more = let h = more (k, omega arith, is) in (suc h.0, h.1, h.2, h.3, h.4)

      at : (b : Bool) → passes E x q ≡ b → Contains (map (vertex rules) (cond b (q ∷ rest) rest)) y → (Contains (map (vertex rules) rest) y → InPassed ps y) → InPassed (q ∷ ps) y
      at true e d more = front e d.0 d.1 d.2 more
      at false e d more = let h = more d in (suc h.0, h.1, h.2, h.3, h.4)

-- ---- what a part passes on

takes : (most : Option ℕ) → most ≢ Some 0 → takes_turns most ≡ true
takes None some = refl
takes (Some most) some = ap not (ne_eqb most 0 (λ e. some (ap Some e)))

takes_some : (most : Option ℕ) → takes_turns most ≡ true → most ≢ Some 0
takes_some most h e = both_ways (takes_turns most) (ap takes_turns e) h

only_part : (inner : NodeIx) (k : ℕ) (p : NodeIx) → slice_get (inner ∷ []) k ≡ Some p → inner ≡ p
only_part inner zero p g = cc
only_part inner (suc k) p g = absurd (cc)

module _ (L : Rules) (E : ℕ → Bool) (exact : (n : ℕ) → (E n ≡ true) ↔ CanBeEmpty L (node_ix n)) where
  -- the conditions of a step, node by node
  pub seq_passes : (ps : List NodeIx) (k : ℕ) (p : NodeIx) → slice_get ps k ≡ Some p →
      ((j : ℕ) (other : NodeIx) → j ≢ k → slice_get ps j ≡ Some other → CanBeEmpty L other) → passes E (node.Seq ps) p ≡ true
  seq_passes ps k p g others =
      le-leb (worded E ps) (cond (E p.0) 0 1) (omega (arith, not_bit (E p.0), one_worded E ps k p g (λ j other ne h. (exact other.0).1 (others j other ne h))))

  pub rep_passes : (least : ℕ) (most : Option ℕ) (p : NodeIx) → most ≢ Some 0 → (least ≤ 1) ⊎ CanBeEmpty L p → passes E (node.Rep least most p) p ≡ true
  rep_passes least most p some empty =
      ap (λ b. cond b (nat_le least 1 || E p.0) false) (takes most some)
      ∙ ⊎_elim (λ le. or_left (nat_le least 1) (E p.0) (le-leb least 1 le)) (λ c. or_right (nat_le least 1) (E p.0) ((exact p.0).1 c)) empty

  rep_alone : (n : NodeIx) (q : RuleIx) (least : ℕ) (most : Option ℕ) (p : NodeIx) → node_at L n ≡ Some (node.Rep least most p) → passes E (node.Rep least most p) p ≡ true → Alone L p q → Alone L n q
  rep_alone n q least most p is h a = at (takes_turns most) refl h
    where
      at : (b : Bool) → takes_turns most ≡ b → cond b (nat_le least 1 || E p.0) false ≡ true → Alone L n q
      at true e either =
          at_rep least most p is (takes_some most e) a
          (⊎_elim (λ le. inl (leb-true least 1 le)) (λ c. inr ((exact p.0).0 c)) (or_cases (nat_le least 1) (E p.0) either))
      at false e never = absurd (both_ways false refl never)

  -- a node holds alone what a part holds alone that passes
  pub alone_by_part : (n : NodeIx) (x : Node) → node_at L n ≡ Some x → (k : ℕ) (p : NodeIx) → slice_get (parts x) k ≡ Some p → passes E x p ≡ true → (q : RuleIx) → Alone L p q → Alone L n q
  alone_by_part n (node.Seq ps) is k p g h q a =
      at_seq ps k p is g a
      (λ j other ne there. (exact other.0).0 (others_empty E ps k p g (omega (arith, not_bit (E p.0), leb-true (worded E ps) (cond (E p.0) 0 1) h)) j other ne there))
  alone_by_part n (node.Alt ps) is k p g h q a = at_alt ps k p is g a
  alone_by_part n (node.Rep least most inner) is k p g h q a =
      let same = only_part inner k p g in
      rep_alone n q least most inner is (ap (passes E (node.Rep least most inner)) same ∙ h) (subst (λ (m : NodeIx). Alone L m q) (sym same) a)
  alone_by_part n (node.Token words) is k p g h q a = absurd (cc)
  alone_by_part n (node.Ref r) is k p g h q a = absurd (cc)
  alone_by_part n (node.Tag tag) is k p g h q a = absurd (cc)
  alone_by_part n node.Null is k p g h q a = absurd (cc)
  alone_by_part n node.Void is k p g h q a = absurd (cc)
  alone_by_part n node.Garbage is k p g h q a = absurd (cc)
