-- A run ends: what is found rises to a bound, and where nothing more is found less is left to be looked at.
use Rattle.std.proofs.Common.{ℕ, ◌+◌, ◌-◌, ◌*◌, ◌^◌, ◌<◌, ◌≤◌, ◌≡◌, ◌⊎◌, inl, inr, List, [], ◌∷◌, Some, None, length, add-one, eqb, refl, sym, ap, ◌∙◌, subst, ⊎_elim, arith}
use Rattle.std.specs.Prelude.{slice_get, sum_by}
use Rattle.std.specs.List.{list_any, Contains}
use Rattle.std.proofs.Math.Nat.{mul-le-mul_right}
use Rattle.std.proofs.lemmas.Bool.{cases_lt}
use Rattle.std.proofs.lemmas.List.Sums.{sum_by-cons}
use Rattle.std.proofs.lemmas.Map.Steps.{length-le_from_distinct_below}
use Rattle.std.proofs.lemmas.Map.Views.{Contains-from_any}
use Rattle.std.proofs.Common.{eqb-true}
use Rattle.earley_chart.specs.declared.places.Places.{Places}
use Rattle.earley_chart.specs.declared.board.Board.{Board}
use Rattle.earley_chart.specs.code.Boards.{IsWhole, IsAlike, Takes, found, due}

-- numbers that are bounded have a bounded sum
sum_within : (xs : List Places) (n : ℕ) → ((k : ℕ) (e : Places) → slice_get xs k ≡ Some e → e.0 < n) → sum_by (λ (e : Places). e.0) xs ≤ length xs * n
sum_within [] n h = omega arith
sum_within (x ∷ xs) n h =
    let rest = sum_within xs n (λ k e at. h (k + 1) e (subst (λ j. slice_get (x ∷ xs) j ≡ Some e) (sym (add-one k)) at)) in
    let first = h 0 x refl in
    omega (arith, sum_by-cons (λ (e : Places). e.0) x xs, rest, first)

-- so much can be found, and so many can be left
abbrev pub most_found : ℕ
most_found = 2 ^ 64 + 2 ^ 64 * 2 ^ 128

abbrev pub left : Board → ℕ
left b = (most_found - found b) * (2 ^ 65 + 1) + due b

module _ (b : Board) (whole : IsWhole b) (few : length b.spots.keys < 2 ^ 64) where
  pub found_within : found b ≤ most_found
  found_within =
      let sum = sum_within b.ends.items (2 ^ 128) whole.small in
      let count : length b.ends.items ≤ 2 ^ 64 = omega (arith, whole.ends, few) in
      let all = mul-le-mul_right (2 ^ 128) count in
      omega (arith, sum, all, few)

  pub due_within : due b ≤ 2 ^ 65
  due_within =
      let again : length b.again.keys ≤ length b.spots.keys =
      length-le_from_distinct_below b.again.keys (length b.spots.keys) whole.distinct (λ q h. whole.again q (Contains-from_any eqb-true q b.again.keys h)) in
      omega (arith, again, few)

-- what was found rises, or less is left to be looked at
pub less : (f most d f' d' k : ℕ) → f' ≤ most → d' < k → ((f < f') ⊎ ((f' ≡ f) × (d' < d))) → (most - f') * k + d' < (most - f) * k + d
less f most d f' d' k within few h = ⊎_elim
    (λ up.
    let one : most - f' + 1 ≤ most - f = omega (arith, up, within) in
    let all = mul-le-mul_right k one in
    omega (arith, all, few))
    (λ same. subst (λ x. (most - x) * k + d' < (most - f) * k + d) (sym same.0) (omega (arith, same.1)))
    h

-- a board that can be held has few spots
spots_few : (b : Board) → IsWhole b → length b.spots.keys < 2 ^ 64
spots_few b whole = omega (arith, b.ends.small, b.ends.ok.0, b.ends.ok.1, whole.ends)

-- one spot is taken and visited
pub turn_less : (old mid now : Board) (at : ℕ) → IsAlike old mid → Takes old mid at → IsWhole now → ((found mid < found now) ⊎ ((found now ≡ found mid) × (due now ≡ due mid))) → left now < left old
turn_less old mid now at same takes whole rises =
    let few = spots_few now whole in
    let before : found mid ≡ found old = omega (arith, ap (λ b. length b.keys) same.spots, ap (λ v. sum_by (λ (e : Places). e.0) v.items) same.ends) in
    less (found old) most_found (due old) (found now) (due now) (2 ^ 65 + 1) (found_within now whole few) (omega (arith, due_within now whole few))
    (⊎_elim (λ up. inl (omega (arith, up, before))) (λ a. inr (omega (arith, a.0, before), omega (arith, a.1, takes.fewer))) rises)
