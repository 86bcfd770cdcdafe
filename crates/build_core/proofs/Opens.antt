-- The opening state, one entry more; and what holds of every place of a list of states.
use Rattle.std.proofs.Common.{◌≡◌, ℕ, ◌+◌, zero, suc, ◌<◌, ◌≤◌, ◌⊎◌, [], ◌∷◌, inl, List, length, sym, ◌∙◌, refl, ap, subst, arith, inr}
use Rattle.std.specs.Prelude.{slice_index_or, slice_set}
use Rattle.std.specs.List.{AllWithin, Contains}
use Rattle.std.proofs.lemmas.List.{get_or_default}
use Rattle.std.proofs.lemmas.List.Elements.{Contains-get_or}
use mathlib.Core.Logic.{dite}
use native.Mathlib.Decide.{ℕ_discrete}
use Rattle.vg_base.specs.declared.numbers.DocIx.{DocIx}
use Rattle.build_core.specs.declared.event.DocState.{DocState}
use Rattle.build_core.specs.declared.event.DocState.TheVariants.{Unseen, Wanted}
use Rattle.build_core.specs.Rows.{ix, row}
use Rattle.build_core.specs.Core.{at}
use Rattle.build_core.proofs.Keeps.{changed}

module _ (docs : List DocState) (entries : List DocIx) (i : ℕ) (e : DocIx) (is : e ≡ slice_index_or entries i (ix 0)) (in_list : i < length entries) (here : e.0 < length docs) where
  pub wanted_more : AllWithin (λ (d : DocIx). at docs d.0 ≡ Wanted) entries 0 i → AllWithin (λ (d : DocIx). at (slice_set docs e.0 Wanted) d.0 ≡ Wanted) entries 0 (i + 1)
  wanted_more below j x none h =
      changed docs e.0 Wanted here (λ s. s ≡ Wanted) (slice_index_or entries j x).0 (λ z. refl)
      (λ n. dite (ℕ_discrete j i) (λ z. absurd (n (ap (λ (k : ℕ). (slice_index_or entries k x).0) z ∙ ap (λ (d : DocIx). d.0) (get_or_default entries i x (ix 0) in_list ∙ sym is)))) (λ z. below j x none (omega arith)))

  pub others_more : ((d : ℕ) → (at docs d ≡ Unseen) ⊎ ((at docs d ≡ Wanted) × Contains entries (ix d))) → (d : ℕ) → (at (slice_set docs e.0 Wanted) d ≡ Unseen) ⊎ ((at (slice_set docs e.0 Wanted) d ≡ Wanted) × Contains entries (ix d))
  others_more all d =
      changed docs e.0 Wanted here (λ s. (s ≡ Unseen) ⊎ ((s ≡ Wanted) × Contains entries (ix d))) d
      (λ z. inr (refl, subst (λ (y : DocIx). Contains entries y) (sym is ∙ ap ix (sym z)) (Contains-get_or entries i (ix 0) in_list))) (λ n. all d)

-- the row at a place, whatever stands past the end
pub row_at : (rows : List (List DocIx)) (x : ℕ) (d : List DocIx) → x < length rows → row rows x ≡ slice_index_or rows x d
row_at [] x d low = absurd (omega arith)
row_at (r ∷ rows) zero d low = refl
row_at (r ∷ rows) (suc x) d low = row_at rows x d (omega arith)

-- past the end no row names a document
pub row_past : (rows : List (List DocIx)) (x y : ℕ) → length rows ≤ x → Contains (row rows x) (ix y) → ⊥
row_past [] x y past (i, low, is) = absurd (omega arith)
row_past (r ∷ rows) zero y past st = absurd (omega arith)
row_past (r ∷ rows) (suc x) y past st = row_past rows x y (omega arith) st

pub inside_or_past : (d n : ℕ) → (d < n) ⊎ (n ≤ d)
inside_or_past d zero = inr (omega arith)
inside_or_past zero (suc n) = inl (omega arith)
inside_or_past (suc d) (suc n) = elim (inside_or_past d n) [ inl low ↦ inl (omega arith) | inr past ↦ inr (omega arith) ]
