-- Sets of places as bits: what each operation does to one place.
use Rattle.std.proofs.Common.{ℕ, ◌+◌, ◌-◌, ◌*◌, ◌/◌, ◌%◌, ◌^◌, ◌<◌, ◌≤◌, ◌≡◌, ◌≢◌, ◌⊎◌, inl, inr, Bool, true, false, min, max, refl, sym, ap, ◌∙◌, subst, ⊎_elim, arith}
use Rattle.std.specs.Int.{bit_at, bit_not, w128, trailing_zeros}
use Rattle.std.specs.Int.RustNames.{bit_or, bit_and}
use Rattle.std.proofs.lemmas.Bool.{cases_eq, cases_lt}
use Rattle.std.proofs.lemmas.Nat.{one_shl}
use Rattle.earley_chart.specs.declared.places.Places.{Places}
use Rattle.earley_chart.specs.Places.{Has}
use Rattle.std.proofs.lemmas.Nat.Bits.{bit_at-zero, bit_at-pow_same, bit_at-pow_other, bit_at_or, bit_at_and, bit_at-lt, bit_at-trailing_zeros, bit_at_mask_inside, bit_at_mask_below, bit_at_mask_above}

-- 1 << k
pub one_bit : (k j : ℕ) → (bit_at (2 ^ k) j ≡ 1 → j ≡ k) × (j ≡ k → bit_at (2 ^ k) j ≡ 1)
one_bit k j = (
  λ h. ⊎_elim (λ e. e) (λ ne. absurd (omega (arith, bit_at-pow_other k j ne, h))) (cases_eq j k),
  λ e. subst (λ x. bit_at (2 ^ k) x ≡ 1) (sym e) (bit_at-pow_same k),
)

pub both_bits : (a b j : ℕ) → (bit_at (bit_or a b) j ≡ 1 → (bit_at a j ≡ 1) ⊎ (bit_at b j ≡ 1)) × ((bit_at a j ≡ 1) ⊎ (bit_at b j ≡ 1) → bit_at (bit_or a b) j ≡ 1)
both_bits a b j = (
  λ h. ⊎_elim (λ e. inl e) (λ ne. inr (omega (arith, bit_at_or a b j, bit_at-lt a j, bit_at-lt b j, h, ne))) (cases_eq (bit_at a j) 1),
  λ h. ⊎_elim (λ e. omega (arith, bit_at_or a b j, bit_at-lt a j, bit_at-lt b j, e)) (λ e. omega (arith, bit_at_or a b j, bit_at-lt a j, bit_at-lt b j, e)) h,
)

pub range_bits : (lo hi j : ℕ) → (bit_at (2 ^ (hi + 1) - 2 ^ lo) j ≡ 1 → (lo ≤ j) × (j ≤ hi)) × ((lo ≤ j) × (j ≤ hi) → bit_at (2 ^ (hi + 1) - 2 ^ lo) j ≡ 1)
range_bits lo hi j = (
  λ h. (
    ⊎_elim (λ lt. absurd (omega (arith, bit_at_mask_below lo (hi + 1) j lt, h))) (λ le. le) (cases_lt j lo),
    ⊎_elim (λ lt. omega (arith, lt)) (λ le. absurd (omega (arith, bit_at_mask_above lo (hi + 1) j le, h))) (cases_lt j (hi + 1)),
  ),
  λ h. bit_at_mask_inside lo (hi + 1) j h.0 (omega (arith, h.1)),
)

pub none_has : (set : Places) (j : ℕ) → set ≡ record { 0 = 0 } → Has set j → ⊥
none_has set j e h = absurd (omega (arith, bit_at-zero j, subst (λ (s : Places). Has s j) e h))

pub shared_bits : (a b j : ℕ) → (bit_at (bit_and a b) j ≡ 1 → (bit_at a j ≡ 1) × (bit_at b j ≡ 1)) × ((bit_at a j ≡ 1) × (bit_at b j ≡ 1) → bit_at (bit_and a b) j ≡ 1)
shared_bits a b j = (
  λ h. (omega (arith, bit_at_and a b j, bit_at-lt a j, bit_at-lt b j, h), omega (arith, bit_at_and a b j, bit_at-lt a j, bit_at-lt b j, h)),
  λ h. omega (arith, bit_at_and a b j, bit_at-lt a j, bit_at-lt b j, h.0, h.1),
)

pub no_bits : (a j : ℕ) → a ≡ 0 → bit_at a j ≡ 1 → ⊥
no_bits a j e h = absurd (omega (arith, bit_at-zero j, subst (λ n. bit_at n j ≡ 1) e h))

-- a number that is not 0 has a bit
pub some_bit : (a : ℕ) → a < 2 ^ 128 → a ≢ 0 → (j : ℕ) × (bit_at a j ≡ 1)
some_bit a small ne = (trailing_zeros w128 a, (bit_at-trailing_zeros w128 a (omega arith) small).1)
