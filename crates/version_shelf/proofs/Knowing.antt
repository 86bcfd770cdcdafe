-- The pairs of a row are what stands in it: from a place to its pair (`known_pair`) and back (`pair_known`). Each fact of
-- rows is then one of their pairs (`keeps_pairs`, `agree_pairs`, `bound_pairs`, `each`).
use Rattle.std.proofs.Common.{◌≡◌, ◌↔◌, ℕ, zero, suc, ◌+◌, ◌-◌, ◌<◌, ◌≤◌, List, [], ◌∷◌, ◌++◌, length, sym, ◌∙◌, subst, ap, arith, lt_of_not-le, Option, Some, None}
use Rattle.std.specs.Prelude.{slice_index_or, slice_set, All}
use Rattle.std.specs.List.{AllByRecursion, Contains}
use Rattle.std.specs.List.Sorted.{IsStrictlyIncreasing, IsStrictlySortedBy}
use Rattle.std.specs.Map.{keys_of}
use Rattle.std.specs.Ordering.{nat_cmp}
use Rattle.std.specs.Cmp.{nat_cmp_is}
use Rattle.std.specs.declared.cmp.Ordering.TheVariants.{Less}
use Rattle.std.proofs.lemmas.Cmp.{nat_cmp_total, eq_by_cmp_equiv}
use Rattle.std.proofs.lemmas.List.{get_or-set_same, get_or-set_other}
use Rattle.std.proofs.lemmas.List.Elements.{All-contains, All-contains_itself, All-map, All-weaker, Contains-append_right, recursion_from_All}
use Rattle.std.proofs.lemmas.Map.Keys.{IsDistinct-from_sorted, IsStrictlyIncreasing-from_sorted, sorted_from_strictly_increasing}
use Rattle.std.proofs.lemmas.Map.Views.{lookup-from_Contains}
use mathlib.Core.Logic.{dite}
use native.Mathlib.Decide.{ℕ_discrete, dec_le}
use Rattle.once_cell.specs.Once.{Agrees}
use Rattle.version_shelf.specs.Known.{Keeps, OneValue, pair_of, pairs}

module _ {X : Type 0} where
  -- what stands at a place is a pair
  pub known_pair : (n : ℕ) (os : List (Option X)) (k : ℕ) (x : X) → slice_index_or os k None ≡ Some x → Contains (pairs n os) (n + k, x)
  known_pair n [] k x e = cc
  known_pair n (o ∷ os) zero x e =
      let at : n ≡ n + 0 = omega arith in
      subst (λ (p : Option X). Contains (pair_of n p ++ pairs (n + 1) os) (n + 0, x)) (sym e) (0, omega arith, ap (λ (i : ℕ). (i, x)) at)
  known_pair n (o ∷ os) (suc k) x e =
      let at : n + 1 + k ≡ n + suc k = omega arith in
      Contains-append_right (pair_of n o) (pairs (n + 1) os) (n + suc k, x) (subst (λ (i : ℕ). Contains (pairs (n + 1) os) (i, x)) at (known_pair (n + 1) os k x e))

  -- a pair is what stands at its number's place
  pub pair_known : (n : ℕ) (os : List (Option X)) (m : ℕ) (x : X) → Contains (pairs n os) (m, x) → (k : ℕ) × (m ≡ n + k) × (slice_index_or os k None ≡ Some x)
  pair_known n [] m x (i, low, e) = absurd (omega arith)
  pair_known n (None ∷ os) m x h =
      let r = pair_known (n + 1) os m x h in
      let at = r.1 in
      (suc r.0, omega arith, r.2)
  pair_known n (Some y ∷ os) m x (zero, low, e) = let at : n ≡ m = ap (λ (p : ℕ × X). p.0) e in (0, omega arith, ap (λ (p : ℕ × X). Some p.1) e)
  pair_known n (Some y ∷ os) m x (suc i, low, e) =
      let r = pair_known (n + 1) os m x (i, omega arith, e) in
      let at = r.1 in
      (suc r.0, omega arith, r.2)

  pub pair_at : (n : ℕ) (os : List (Option X)) (k : ℕ) (x : X) → Contains (pairs n os) (n + k, x) → slice_index_or os k None ≡ Some x
  pair_at n os k x h =
      let r = pair_known n os (n + k) x h in
      let at = r.1 in
      let same : r.0 ≡ k = omega arith in
      subst (λ (i : ℕ). slice_index_or os i None ≡ Some x) same r.2

  -- what holds of each pair, place by place
  pub all_pairs : (n : ℕ) (os : List (Option X)) (P : ℕ → Type 0) → ((k : ℕ) (x : X) → slice_index_or os k None ≡ Some x → P (n + k)) → All (λ (p : ℕ × X). P p.0) (pairs n os)
  all_pairs n os P each_place =
      All-weaker (Contains (pairs n os)) (λ (p : ℕ × X). P p.0)
      (λ p h. let r = pair_known n os p.0 p.1 h in subst P (sym r.1) (each_place r.0 p.1 r.2))
      (pairs n os) (All-contains_itself (pairs n os))

  pub least : (n : ℕ) (os : List (Option X)) → All (λ (p : ℕ × X). n ≤ p.0) (pairs n os)
  least n os = all_pairs n os (λ m. n ≤ m) (λ k x e. omega arith)

  sorted : (n : ℕ) (os : List (Option X)) → IsStrictlySortedBy nat_cmp (keys_of (pairs n os))
  unfolding IsStrictlySortedBy
  sorted n [] = tt
  sorted n (None ∷ os) = sorted (n + 1) os
  sorted n (Some y ∷ os) = (
    recursion_from_All (λ (m : ℕ). nat_cmp n m ≡ Less) (keys_of (pairs (n + 1) os))
        (All-map (λ (m : ℕ). nat_cmp n m ≡ Less) (λ (p : ℕ × X). p.0) (pairs (n + 1) os)
        (All-weaker (λ (p : ℕ × X). n + 1 ≤ p.0) (λ (p : ℕ × X). nat_cmp n p.0 ≡ Less) (λ p low. sym (nat_cmp_is n p.0 Less (omega arith))) (pairs (n + 1) os) (least (n + 1) os))),
    sorted (n + 1) os,
  )

  pub rising : (n : ℕ) (os : List (Option X)) → IsStrictlyIncreasing (keys_of (pairs n os))
  rising n os = IsStrictlyIncreasing-from_sorted (keys_of (pairs n os)) (sorted n os)

  -- where the numbers rise, each has one value
  pub once : (ps : List (ℕ × X)) (n : ℕ) (x y : X) → IsStrictlyIncreasing (keys_of ps) → Contains ps (n, x) → Contains ps (n, y) → x ≡ y
  once ps n x y r h k =
      let apart = IsDistinct-from_sorted nat_cmp (keys_of ps) (sorted_from_strictly_increasing (keys_of ps) r) in
      let first = lookup-from_Contains (eq_by_cmp_equiv nat_cmp_total) n x ps apart h in
      let second = lookup-from_Contains (eq_by_cmp_equiv nat_cmp_total) n y ps apart k in
      cc

  -- facts that are kept keep their pairs
  pub keeps_pairs : (n : ℕ) (old new : List (Option X)) → ((k : ℕ) (x : X) → slice_index_or old k None ≡ Some x → slice_index_or new k None ≡ Some x) → Keeps (pairs n old) (pairs n new)
  keeps_pairs n old new keeps m x h =
      let r = pair_known n old m x h in
      subst (λ (i : ℕ). Contains (pairs n new) (i, x)) (sym r.1) (known_pair n new r.0 x (keeps r.0 x r.2))

  -- facts that agree have one value at each number
  pub agree_pairs : (n : ℕ) (fs gs : List (Option X)) → ((k : ℕ) (x y : X) → slice_index_or fs k None ≡ Some x → slice_index_or gs k None ≡ Some y → x ≡ y) → OneValue (pairs n fs) (pairs n gs)
  agree_pairs n fs gs agree m x y h t =
      let r = pair_known n fs m x h in
      agree r.0 x y r.2 (pair_at n gs r.0 y (subst (λ (i : ℕ). Contains (pairs n gs) (i, y)) r.1 t))

  -- the fact at a number's place, where the cell held what was known of it
  pub found_keeps : (old new : List (Option X)) (at : ℕ) (v : X) → new ≡ slice_set old at (Some v) → at < length old → Agrees (slice_index_or old at None) v
      → (k : ℕ) (x : X) → slice_index_or old k None ≡ Some x → slice_index_or new k None ≡ Some x
  found_keeps old new at v e room agrees k x h =
      dite (ℕ_discrete k at)
      (λ z.
      let here : slice_index_or old at None ≡ Some x = subst (λ (i : ℕ). slice_index_or old i None ≡ Some x) z h in
      let is : x ≡ v = subst (λ (o : Option X). Agrees o v) here agrees in
      ap (λ (l : List (Option X)). slice_index_or l k None) e
      ∙ (ap (λ (i : ℕ). slice_index_or (slice_set old at (Some v)) i None) z ∙ (get_or-set_same old at (Some v) None room ∙ ap (λ (y : X). Some y) (sym is))))
      (λ n. ap (λ (l : List (Option X)). slice_index_or l k None) e ∙ (get_or-set_other old at k (Some v) None n ∙ h))

  pub found_here : (old new : List (Option X)) (at : ℕ) (v : X) → new ≡ slice_set old at (Some v) → at < length old → slice_index_or new at None ≡ Some v
  found_here old new at v e room = ap (λ (l : List (Option X)). slice_index_or l at None) e ∙ get_or-set_same old at (Some v) None room

  -- what is known of a publisher is at most at its count
  pub not_past : (fs : List (Option X)) (c : ℕ) → ((k : ℕ) → c < k → slice_index_or fs k None ≡ None) → (k : ℕ) (x : X) → slice_index_or fs k None ≡ Some x → k ≤ c
  not_past fs c none k x h = dite (dec_le k c) (λ le. le) (λ n. let nothing = none k (let gt = lt_of_not-le n in omega arith) in cc)

  -- whoever learns the first places of a row knows all of it, where the row knows no others
  pub learnt_all : (mine theirs : List (Option X)) (c : ℕ) → ((k : ℕ) → k < c + 1 → slice_index_or mine k None ≡ slice_index_or theirs k None) → ((k : ℕ) → c < k → slice_index_or theirs k None ≡ None)
      → (k : ℕ) (x : X) → slice_index_or theirs k None ≡ Some x → slice_index_or mine k None ≡ Some x
  learnt_all mine theirs c learnt none k x h = let le = not_past theirs c none k x h in learnt k (omega arith) ∙ h

  pub learnt_agrees : (mine theirs : List (Option X)) (c : ℕ) → ((k : ℕ) → k < c + 1 → slice_index_or mine k None ≡ slice_index_or theirs k None) → ((k : ℕ) → c < k → slice_index_or theirs k None ≡ None)
      → (k : ℕ) (x y : X) → slice_index_or mine k None ≡ Some x → slice_index_or theirs k None ≡ Some y → x ≡ y
  learnt_agrees mine theirs c learnt none k x y h t = let mine_y = learnt_all mine theirs c learnt none k y t in cc

  -- a bound of the places is one of the numbers
  pub bound_pairs : (n : ℕ) (fs : List (Option X)) (c : ℕ) → ((k : ℕ) (x : X) → slice_index_or fs k None ≡ Some x → k ≤ c) → All (λ (p : ℕ × X). p.0 ≤ n + c) (pairs n fs)
  bound_pairs n fs c bound = all_pairs n fs (λ m. m ≤ n + c) (λ k x e. let le = bound k x e in omega arith)

  -- facts up to c and no others: the numbers of the pairs
  pub each : (n : ℕ) (fs : List (Option X)) (c : ℕ) → ((k : ℕ) → k ≤ c → (x : X) × (slice_index_or fs k None ≡ Some x)) → ((k : ℕ) → c < k → slice_index_or fs k None ≡ None)
      → (m : ℕ) → ((x : X) × Contains (pairs n fs) (m, x)) ↔ ((n ≤ m) × (m ≤ n + c))
  each n fs c full none m = (
    (λ h.
        let r = pair_known n fs m h.0 h.1 in
        let at = r.1 in
        let le = not_past fs c none r.0 h.0 r.2 in
        (omega arith, omega arith)),
    (λ b.
        let le = b.0 in
        let top = b.1 in
        let at : n + (m - n) ≡ m = omega arith in
        let f = full (m - n) (omega arith) in
        (f.0, subst (λ (i : ℕ). Contains (pairs n fs) (i, f.0)) at (known_pair n fs (m - n) f.0 f.1))),
  )
