-- Places rise with the characters.
use Rattle.std.proofs.Common.{◌≡◌, ℕ, ◌+◌, Bool, true, false, ◌||◌, List, [], ◌∷◌, ◌++◌, is_gt, refl, sym, ap, ◌∙◌, arith, append_assoc}
use Rattle.std.proofs.lemmas.List.{append-nil}
use Rattle.std.specs.Cmp.{IsTotalOrder, nat_cmp_total, on_total, then_total, upto, alike_right, tied_itself}
use Rattle.std.specs.Ordering.{ordering_then, nat_cmp}
use Rattle.std.specs.declared.cmp.Ordering.{Ordering}
use Rattle.std.specs.declared.cmp.Ordering.TheVariants.{Less, Equal, Greater}
use Rattle.vg_base.specs.declared.place.Place.{Place}
use Rattle.vg_base.specs.Places.{ends_line, last_of, takes_column, moves_on, place_after, place_order}
use Rattle.vg_base.proofs.Lines.{place_after-end, place_after-column, place_after-same}
use Rattle.vg_base.proofs.Order.{nat_cmp-lt}

places_total : IsTotalOrder place_order
places_total = then_total (on_total (λ p. p.line) nat_cmp_total) (on_total (λ p. p.column) nat_cmp_total)

next_line : (p q : Place) → q.line ≡ p.line + 1 → place_order p q ≡ Less
next_line p q e = ap (λ o. ordering_then o (nat_cmp p.column q.column)) (nat_cmp-lt p.line q.line (omega (arith, e)))

next_column : (p q : Place) → q.line ≡ p.line → q.column ≡ p.column + 1 → place_order p q ≡ Less
next_column p q l e =
    ap (λ o. ordering_then o (nat_cmp p.column q.column)) (ap (nat_cmp p.line) l ∙ tied_itself nat_cmp_total p.line) ∙ nat_cmp-lt p.column q.column (omega (arith, e))

-- one character: the place moves on, or stays
step_on : (front : List ℕ) (c : ℕ) → moves_on front c ≡ true → place_order (place_after front) (place_after (front ++ c ∷ [])) ≡ Less
step_on front c m = by_test (ends_line (last_of front) c) (takes_column front c) refl refl m
  where
    by_test : (e t : Bool) → ends_line (last_of front) c ≡ e → takes_column front c ≡ t → (e || t) ≡ true → place_order (place_after front) (place_after (front ++ c ∷ [])) ≡ Less
    by_test true t p q h = next_line (place_after front) (place_after (front ++ c ∷ [])) (ap (λ (r : Place). r.line) (place_after-end front c p))
    by_test false true p q h = next_column (place_after front) (place_after (front ++ c ∷ [])) (ap (λ (r : Place). r.line) (place_after-column front c p q)) (ap (λ (r : Place). r.column) (place_after-column front c p q))
    by_test false false p q h = absurd cc

step_not_back : (front : List ℕ) (c : ℕ) → is_gt (place_order (place_after front) (place_after (front ++ c ∷ []))) ≡ false
step_not_back front c = by_test (ends_line (last_of front) c) (takes_column front c) refl refl
  where
    by_test : (e t : Bool) → ends_line (last_of front) c ≡ e → takes_column front c ≡ t → is_gt (place_order (place_after front) (place_after (front ++ c ∷ []))) ≡ false
    by_test true t p q = ap is_gt (step_on front c (ap (λ b. b || takes_column front c) p))
    by_test false true p q = ap is_gt (step_on front c (ap (λ b. b || takes_column front c) p ∙ q))
    by_test false false p q = ap is_gt (ap (place_order (place_after front)) (place_after-same front c p q) ∙ tied_itself places_total (place_after front))

-- no place lies before that of a shorter front
pub places-not_back : (front more : List ℕ) → is_gt (place_order (place_after front) (place_after (front ++ more))) ≡ false
places-not_back front [] = ap (λ l. is_gt (place_order (place_after front) (place_after l))) (append-nil front) ∙ ap is_gt (tied_itself places_total (place_after front))
places-not_back front (c ∷ more) =
    upto places_total (place_after front) (place_after (front ++ c ∷ [])) (place_after (front ++ c ∷ more)) (step_not_back front c)
    (ap (λ l. is_gt (place_order (place_after (front ++ c ∷ [])) (place_after l))) (sym (append_assoc front (c ∷ []) more)) ∙ places-not_back (front ++ c ∷ []) more)

less_upto : (p q r : Place) (o : Ordering) → place_order q r ≡ o → place_order p q ≡ Less → is_gt o ≡ false → place_order p r ≡ Less
less_upto p q r Less e h k = places_total.trans p q r h e
less_upto p q r Equal e h k = sym (alike_right places_total q r p e) ∙ h
less_upto p q r Greater e h k = absurd cc

-- behind a character that moves on, every place is later
pub places-rise : (front more : List ℕ) (c : ℕ) → moves_on front c ≡ true → place_order (place_after front) (place_after (front ++ c ∷ more)) ≡ Less
places-rise front more c m =
    ap (λ l. place_order (place_after front) (place_after l)) (sym (append_assoc front (c ∷ []) more))
    ∙ less_upto (place_after front) (place_after (front ++ c ∷ [])) (place_after ((front ++ c ∷ []) ++ more)) (place_order (place_after (front ++ c ∷ [])) (place_after ((front ++ c ∷ []) ++ more))) refl (step_on front c m) (places-not_back (front ++ c ∷ []) more)
