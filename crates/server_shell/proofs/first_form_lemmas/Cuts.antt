-- Lemmas on where a text is cut at a character.
use Rattle.std.proofs.Common.{◌≡◌, ℕ, Bool, true, false, List, [], ◌∷◌, ◌++◌, ◌==◌, ◌&&◌, length, refl, sym, ap, ◌∙◌, inl, inr, arith}
use Rattle.std.specs.List.{list_all, slice_split}
use Rattle.std.proofs.lemmas.List.{append_cancel_left}
use Rattle.std.proofs.lemmas.List.Splits.{slice_split_none, slice_split_at, length-slice_split}
use Rattle.std.proofs.lemmas.List.Elements.{All-cons, All-nil}
use Rattle.std.proofs.lemmas.Bool.{eq-eqb}
use Rattle.std.proofs.lemmas.Bool.Decides.{eqb_tells}
use Rattle.server_shell.specs.code.TextCuts.{IsWithout, CutAtFirst}

first_of : (p : List ℕ) (ps : List (List ℕ)) (q : List ℕ) (qs : List (List ℕ)) → p ∷ ps ≡ q ∷ qs
    → p ≡ q
first_of p ps q qs e = cc

others_of : (p : List ℕ) (ps : List (List ℕ)) (q : List ℕ) (qs : List (List ℕ)) → p ∷ ps ≡ q ∷ qs
    → ps ≡ qs
others_of p ps q qs e = cc

behind_of : (c : ℕ) (xs ys : List ℕ) → c ∷ xs ≡ c ∷ ys → xs ≡ ys
behind_of c xs ys e = cc

-- a text is cut at the first of a character in one way alone
pub cut_once : {c : ℕ} {text xs ys xs' ys' : List ℕ} → CutAtFirst c text xs ys
    → CutAtFirst c text xs' ys' → (xs ≡ xs') × (ys ≡ ys')
cut_once {c} {text} {xs} {ys} {xs'} {ys'} p q =
    let at : (c == c) ≡ true = eq-eqb c c refl in
    let e : xs ++ c ∷ ys ≡ xs' ++ c ∷ ys' = sym p.cut ∙ q.cut in
    let same : xs ≡ xs' = first_of xs (slice_split (λ x. x == c) ys) xs'
    (slice_split (λ x. x == c) ys')
    (sym (slice_split_at (λ x. x == c) xs c ys p.none at) ∙ ap (slice_split (λ x. x == c)) e
    ∙ slice_split_at (λ x. x == c) xs' c ys' q.none at) in (
      same,
      behind_of c ys ys' (append_cancel_left xs (c ∷ ys) (c ∷ ys') (e
          ∙ ap (λ l. l ++ c ∷ ys') (sym same))),
    )

-- a text without the character isn't cut at it
pub not_cut : {c : ℕ} {text xs ys : List ℕ} → IsWithout c text → CutAtFirst c text xs ys → ⊥
not_cut {c} {text} {xs} {ys} none p =
    let at : (c == c) ≡ true = eq-eqb c c refl in
    let one : text ∷ [] ≡ xs ∷ slice_split (λ x. x == c) ys =
    sym (slice_split_none (λ x. x == c) text none) ∙ ap (slice_split (λ x. x == c)) p.cut
    ∙ slice_split_at (λ x. x == c) xs c ys p.none at in
    absurd (omega (
      arith,
      ap length (others_of text [] xs (slice_split (λ x. x == c) ys) one),
      length-slice_split (λ x. x == c) ys,
    ))

both : (a b : Bool) → (a && b) ≡ true → (a ≡ true) × (b ≡ true)
both true b h = (refl, h)
both false b h = cc

differs : (p : ℕ → Bool) (c x : ℕ) → p c ≡ false → p x ≡ true → (x == c) ≡ false
differs p c x fails holds = elim (eqb_tells x c) [ inl (e, same) ↦ cc | inr (e, other) ↦ e ]

-- where each character passes a test that c doesn't, c isn't there
pub without_all : (p : ℕ → Bool) (c : ℕ) → p c ≡ false → (xs : List ℕ) → list_all p xs ≡ true
    → IsWithout c xs
without_all p c fails [] h = All-nil (λ x. (x == c) ≡ false)
without_all p c fails (x ∷ xs) h =
    let (here, rest) = both (p x) (list_all p xs) h in
    All-cons (λ y. (y == c) ≡ false) x xs (differs p c x fails here) (without_all p c fails xs rest)
