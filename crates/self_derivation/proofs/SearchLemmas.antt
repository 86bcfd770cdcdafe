-- The search for empty nodes: what is found can be empty (`search_next`), and at its end each node is found that needs no more
-- than was found (`all_told`). What is missing for a node is what it needs without those that were told.
use Rattle.std.proofs.Common.{◌≡◌, ◌⊎◌, ⊎_elim, ℕ, suc, ◌+◌, ◌-◌, ◌<◌, ◌≤◌, ◌==◌, true, false, not, cond, List, [], ◌∷◌, ◌++◌, Some, length, get_or, take, refl, sym, ap, ◌∙◌, subst, arith, inl, inr, length-set}
use Rattle.std.specs.Prelude.{◌↔◌, slice_get, slice_set, count_by}
use Rattle.std.specs.List.{All}
use Rattle.std.proofs.lemmas.Bool.{cases_eq, cases_lt, eqb-true, eq-eqb, ne_eqb}
use Rattle.std.proofs.lemmas.Bool.Decides.{nat_tests}
use Rattle.std.proofs.lemmas.List.{get_or-set_same, get_or-set_other, get_or_past}
use Rattle.std.proofs.lemmas.Option.{slice_get-get_or}
use Rattle.std.proofs.Math.Seq.{take-suc}
use Rattle.grammar_tree.specs.declared.linked.Node.{Node}
use Rattle.grammar_tree.specs.Links.{Rules}
use Rattle.grammar_tree.specs.declared.linked.Node.TheVariants as node
use Rattle.grammar_tree.specs.Derives.{CanBeEmpty}
use Rattle.grammar_tree.proofs.EmptyParts.{empty_by_kind}
use Rattle.self_derivation.specs.code.Marks.{bit, is_marked, times, times_named, row}
use Rattle.self_derivation.specs.code.Nodes.{node_ix, below}
use Rattle.self_derivation.specs.code.Above.{AreAbove}
use Rattle.self_derivation.specs.code.Search.{Search, IsStaged, Counted, IsSearch, untold}
use Rattle.self_derivation.proofs.Tallies.{one_if, times_push, times-append, times_one, times_other, times_if, stands, marked_now, marked_before, one_more_mark, one_fewer}
use Rattle.self_derivation.proofs.AboveLemmas.{below_is}
use Rattle.self_derivation.proofs.EmptyLemmas.{Closed, empty_by_count, closed_has}

-- ---- one node misses one less

pub counted_none : (s : Search) → Counted [] s s
counted_none s = record { told = refl; sized = refl; missing = λ n. omega arith; staged = λ h. h }

-- one less is missing for a node; where it was the last one, the node is left to be told
pub record OneLess (n v : ℕ) (old now : Search) : Type 0 where
  pub within : n < length old.missing
  pub read : v ≡ get_or old.missing n 1
  pub told : now.told ≡ old.told
  pub missing : now.missing ≡ slice_set old.missing n (v - 1)
  pub left : now.left ≡ old.left ++ cond (v == 1) (n ∷ []) []

module _ (n v : ℕ) (old now : Search) (is : OneLess n v old now) where
  here_missing : get_or now.missing n 1 ≡ v - 1
  here_missing = ap (λ ms. get_or ms n 1) is.missing ∙ get_or-set_same old.missing n (v - 1) 1 is.within

  other_missing : (k : ℕ) → (k ≡ n → ⊥) → get_or now.missing k 1 ≡ get_or old.missing k 1
  other_missing k other = ap (λ ms. get_or ms k 1) is.missing ∙ get_or-set_other old.missing n k (v - 1) 1 other

  left_times : (k : ℕ) → times k now.left ≡ times k old.left + cond (n == k) (bit (v == 1)) 0
  left_times k = ap (times k) is.left ∙ times-append k old.left (cond (v == 1) (n ∷ []) []) ∙ ap (λ m. times k old.left + m) (times_if (v == 1) k n)

  -- 0 stays, 1 becomes 0, and more stays more
  falls : bit (v == 0) + bit (v == 1) ≡ bit (v - 1 == 0)
  falls = grind (arith, nat_tests)

  here_staged : IsStaged old → times n now.left + bit (is_marked now.told n) ≡ bit (get_or now.missing n 1 == 0)
  here_staged h =
      let more : cond (n == n) (bit (v == 1)) 0 ≡ bit (v == 1) = ap (λ b. cond b (bit (v == 1)) 0) (eq-eqb n n refl) in
      omega (
        arith,
        h n,
        left_times n,
        more,
        falls,
        ap (λ ms. bit (is_marked ms n)) is.told,
        ap (λ k. bit (k == 0)) is.read,
        ap (λ k. bit (k == 0)) here_missing,
      )

  other_staged : IsStaged old → (k : ℕ) → (k ≡ n → ⊥) → times k now.left + bit (is_marked now.told k) ≡ bit (get_or now.missing k 1 == 0)
  other_staged h k other =
      let none : cond (n == k) (bit (v == 1)) 0 ≡ 0 = ap (λ b. cond b (bit (v == 1)) 0) (ne_eqb n k (λ e. other (sym e))) in
      omega (arith, h k, left_times k, none, ap (λ ms. bit (is_marked ms k)) is.told, ap (λ m. bit (m == 0)) (other_missing k other))

  pub counted_one : Counted (n ∷ []) old now
  counted_one = record {
    told = is.told;
    sized = ap length is.missing ∙ length-set old.missing n (v - 1);
    missing = λ k. ⊎_elim
        (λ e. subst (λ j. get_or now.missing j 1 ≡ get_or old.missing j 1 - times j (n ∷ [])) (sym e) (omega (arith, here_missing, is.read, times_one n)))
        (λ other. omega (arith, other_missing k other, times_other k n other)) (cases_eq k n);
    staged = λ h k. ⊎_elim
        (λ e. subst (λ j. times j now.left + bit (is_marked now.told j) ≡ bit (get_or now.missing j 1 == 0)) (sym e) (here_staged h))
        (λ other. other_staged h k other) (cases_eq k n);
  }

counted_then : (ns ms : List ℕ) (a b c : Search) → Counted ns a b → Counted ms b c → Counted (ns ++ ms) a c
counted_then ns ms a b c one other = record {
  told = other.told ∙ one.told;
  sized = other.sized ∙ one.sized;
  missing = λ n. omega (arith, one.missing n, other.missing n, times-append n ns ms);
  staged = λ h. other.staged (one.staged h);
}

pub counted_next : (ns : List ℕ) (i d : ℕ) (a b c : Search) → i < length ns → Counted (take i ns) a b → Counted (get_or ns i d ∷ []) b c → Counted (take (i + 1) ns) a c
counted_next ns i d a b c lt one other =
    let next : i + 1 ≡ suc i = omega arith in
    subst (λ l. Counted l a c) (sym (ap (λ j. take j ns) next ∙ take-suc ns i d lt)) (counted_then (take i ns) (get_or ns i d ∷ []) a b c one other)

-- ---- what is left

-- nothing is missing for it, and it wasn't told
left_is : (L : Rules) (s : Search) → IsSearch L s → (n : ℕ) → 0 < times n s.left → (get_or s.missing n 1 ≡ 0) × (is_marked s.told n ≡ false)
left_is L s is n some = at (one_if (get_or s.missing n 1 == 0)) (one_if (is_marked s.told n))
  where
    Sum : Type 0
    Sum = times n s.left + bit (is_marked s.told n) ≡ bit (get_or s.missing n 1 == 0)

    at : ((get_or s.missing n 1 == 0) ≡ true) × (bit (get_or s.missing n 1 == 0) ≡ 1) ⊎ (((get_or s.missing n 1 == 0) ≡ false) × (bit (get_or s.missing n 1 == 0) ≡ 0)) →
        (is_marked s.told n ≡ true) × (bit (is_marked s.told n) ≡ 1) ⊎ ((is_marked s.told n ≡ false) × (bit (is_marked s.told n) ≡ 0)) →
        (get_or s.missing n 1 ≡ 0) × (is_marked s.told n ≡ false)
    at (inl none) (inr clear) = (eqb-true (get_or s.missing n 1) 0 none.0, clear.0)
    at (inl none) (inl told) = absurd (omega (arith, is.staged n, none.1, told.1))
    at (inr more) told = absurd (omega (arith, is.staged n, more.1))

-- what nothing is missing for is a node
is_node : (ms : List ℕ) (n : ℕ) → get_or ms n 1 ≡ 0 → n < length ms
is_node ms n none = at (cases_lt n (length ms))
  where
    at : (n < length ms) ⊎ (length ms ≤ n) → n < length ms
    at (inl lt) = lt
    at (inr past) = absurd (omega (arith, get_or_past ms n 1 past))

pub left_within : (L : Rules) (s : Search) → IsSearch L s → All (λ n. n < length s.told) s.left
left_within L s is k d lt =
    let h = left_is L s is (get_or s.left k d) (stands s.left k d lt) in
    omega (arith, is_node s.missing (get_or s.left k d) h.0, is.missing_sized, is.told_sized)

-- ---- one node is told

-- the node was left, and is told
pub record Next (n : ℕ) (old now : Search) : Type 0 where
  pub left : old.left ≡ now.left ++ n ∷ []
  pub told : now.told ≡ slice_set old.told n true
  pub missing : now.missing ≡ old.missing

module _ (L : Rules) {n : ℕ} {old mid : Search} (is : IsSearch L old) (next : Next n old mid) where
  was_left : times n old.left ≡ times n mid.left + 1
  was_left = ap (times n) next.left ∙ times_push n n mid.left ∙ ap (λ b. times n mid.left + bit b) (eq-eqb n n refl)

  was : (get_or old.missing n 1 ≡ 0) × (is_marked old.told n ≡ false)
  was = left_is L old is n (omega (arith, was_left))

  pub next_within : n < length L.nodes
  next_within = omega (arith, is_node old.missing n was.0, is.missing_sized)

  here : n < length old.told
  here = omega (arith, next_within, is.told_sized)

  told_now : is_marked mid.told n ≡ true
  told_now = ap (λ ms. is_marked ms n) next.told ∙ marked_now old.told n here

  told_before : (k : ℕ) → (k ≡ n → ⊥) → is_marked mid.told k ≡ is_marked old.told k
  told_before k other = ap (λ ms. is_marked ms k) next.told ∙ marked_before old.told n k other

  next_staged : IsStaged mid
  next_staged k = ⊎_elim
      (λ e. subst (λ j. times j mid.left + bit (is_marked mid.told j) ≡ bit (get_or mid.missing j 1 == 0)) (sym e)
      (omega (arith, is.staged n, was_left, ap bit told_now, ap bit was.1, ap (λ ms. bit (get_or ms n 1 == 0)) next.missing)))
      (λ other. omega (
        arith,
        is.staged k,
        ap (times k) next.left,
        times_push k n mid.left,
        ap bit (ne_eqb n k (λ e. other (sym e))),
        ap bit (told_before k other),
        ap (λ ms. bit (get_or ms k 1 == 0)) next.missing,
      )) (cases_eq k n)

  -- the node can be empty, by the law of nodes by their kind
  now_sound : (x : Node) → slice_get L.nodes n ≡ Some x → CanBeEmpty L (node_ix n)
  now_sound x at = (empty_by_kind L (node_ix n) x at).1 (empty_by_count L (is_marked old.told) is.sound x (omega (arith, is.missing n x at, was.0)))

  next_sound : (k : ℕ) → is_marked mid.told k ≡ true → CanBeEmpty L (node_ix k)
  next_sound k told = ⊎_elim
      (λ e. subst (λ j. CanBeEmpty L (node_ix j)) (sym e) (now_sound (get_or L.nodes n node.Null) (slice_get-get_or L.nodes n node.Null next_within)))
      (λ other. is.sound k (sym (told_before k other) ∙ told)) (cases_eq k n)

  pub search_next : {rows : List (List ℕ)} {now : Search} → AreAbove L rows → Counted (row rows n) mid now → IsSearch L now
  search_next {now = now} above counted = record {
    missing_sized = counted.sized ∙ ap length next.missing ∙ is.missing_sized;
    told_sized = ap length (counted.told ∙ next.told) ∙ length-set old.told n true ∙ is.told_sized;
    staged = counted.staged next_staged;
    missing = λ k x at.
        let one_more : count_by (λ p. is_marked now.told p.0) (below L x) ≡ count_by (λ p. is_marked old.told p.0) (below L x) + times_named n (below L x) =
        ap (λ ms. count_by (λ p. is_marked ms p.0) (below L x)) (counted.told ∙ next.told) ∙ one_more_mark old.told n here was.1 (below L x) in
        omega (
          arith,
          counted.missing k,
          ap (λ ms. get_or ms k 1) next.missing,
          is.missing k x at,
          above.counted n k,
          ap (times_named n) (below_is L k x at),
          one_more,
        );
    sound = λ k told. next_sound k (sym (ap (λ ms. is_marked ms k) counted.told) ∙ told);
  }

  pub fewer_untold : {now : Search} {ns : List ℕ} → Counted ns mid now → untold now < untold old
  fewer_untold counted =
      omega (arith, one_fewer old.told n here was.1, ap (λ ms. count_by (λ b. not b) ms) (counted.told ∙ next.told))

-- ---- the end

pub all_told : (L : Rules) (s : Search) → IsSearch L s → s.left ≡ [] → Closed L (is_marked s.told)
all_told L s is nothing n x at enough = at_bit (one_if (is_marked s.told n))
  where
    none : get_or s.missing n 1 ≡ 0
    none = omega (arith, is.missing n x at, enough)

    at_bit : ((is_marked s.told n ≡ true) × (bit (is_marked s.told n) ≡ 1)) ⊎ ((is_marked s.told n ≡ false) × (bit (is_marked s.told n) ≡ 0)) → is_marked s.told n ≡ true
    at_bit (inl told) = told.0
    at_bit (inr clear) = absurd (omega (arith, is.staged n, ap (times n) nothing, ap (λ m. bit (m == 0)) none, clear.1))

pub search_exact : (L : Rules) (s : Search) → IsSearch L s → s.left ≡ [] → (n : ℕ) → (is_marked s.told n ≡ true) ↔ CanBeEmpty L (node_ix n)
search_exact L s is nothing n = (is.sound n, λ h. closed_has L (is_marked s.told) (all_told L s is nothing) (node_ix n) [] h.0 refl h.1)
