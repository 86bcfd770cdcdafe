-- A list of one entry is its first.
use Rattle.std.proofs.Common.{◌≡◌, ◌∷◌, [], ℕ, List, refl, sym, ap, ◌∙◌, length, get_or, arith}
use Rattle.std.proofs.lemmas.Bool.Decides.{Decides-eqb}
use Rattle.std.proofs.lemmas.Slice.Eq.{slice_eq-Decides}
use Rattle.server_shell.proofs.first_form.server.is_only.Goals as goal

-- a list of one entry, by the entry
only : (xs : List (List ℕ)) (d : List ℕ) → length xs ≡ 1 → xs ≡ get_or xs 0 d ∷ []
only [] d e = absurd (omega arith)
only (x ∷ []) d e = refl
only (x ∷ y ∷ xs) d e = absurd (omega arith)

first : (x y : List ℕ) → x ∷ [] ≡ y ∷ [] → x ≡ y
first x y e = cc

pub returns-then-entries-eq1 : goal.returns-then-entries-eq1
returns-then-entries-eq1 c =
    let same = slice_eq-Decides Decides-eqb c.index-entries-0.result c.args.uri.now c.eq.result
    c.eq.ensures in
    let one = only c.args.entries.now c.index-entries-0.result c.if-entries-eq1.true
    ∙ ap (λ (x : List ℕ). x ∷ []) (sym c.index-entries-0.is) in (
      λ h. one ∙ ap (λ (x : List ℕ). x ∷ []) (same.0 h),
      λ e. same.1 (first c.index-entries-0.result c.args.uri.now (sym one ∙ e)),
    )
