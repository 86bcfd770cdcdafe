-- The last character before a place, as code knows it: none at the start of a text.
use Rattle.std.proofs.Common.{◌≡◌, ℕ, suc, ◌+◌, ◌-◌, ◌==◌, List, [], ◌∷◌, ◌++◌, Option, Some, length, refl, ap, sym, ◌∙◌, arith, length-append}
use Rattle.std.specs.Prelude.{slice_get}
use Rattle.std.specs.Option.{is_none, unwrap_or}
use Rattle.std.proofs.lemmas.Option.{unwrap_or-slice_get, slice_get-get_or}
use Rattle.std.proofs.Math.Seq.{get_or-append_seam}
use lib.Dec.{eqb-suc-zero}
use Rattle.vg_base.specs.Places.{last_of}

-- the last character of a front, if it has one
abbrev pub last_in : List ℕ → Option ℕ
last_in front = slice_get front (length front - 1)

pub last_in-or : (front : List ℕ) (last : Option ℕ) → last ≡ last_in front → unwrap_or last 0 ≡ last_of front
last_in-or front last e = ap (λ o. unwrap_or o 0) e ∙ unwrap_or-slice_get front (length front - 1) 0

pub last_in-none : (front : List ℕ) (last : Option ℕ) → last ≡ last_in front → is_none last ≡ (length front == 0)
last_in-none front last e = ap is_none e ∙ at front
  where
    at : (front : List ℕ) → is_none (last_in front) ≡ (length front == 0)
    at [] = refl
    at (x ∷ xs) = ap is_none (slice_get-get_or (x ∷ xs) (suc (length xs) - 1) x (omega arith)) ∙ sym (eqb-suc-zero (length xs))

pub last_in-push : (front : List ℕ) (c : ℕ) → Some c ≡ last_in (front ++ c ∷ [])
last_in-push front c =
    let long : length (front ++ c ∷ []) ≡ length front + 1 = omega (arith, length-append front (c ∷ [])) in
    let behind : length front ≡ length (front ++ c ∷ []) - 1 = omega arith in
    let there : slice_get (front ++ c ∷ []) (length front) ≡ Some c = slice_get-get_or (front ++ c ∷ []) (length front) c (omega arith) ∙ ap Some (get_or-append_seam front c [] c) in
    sym there ∙ ap (λ i. slice_get (front ++ c ∷ []) i) behind
