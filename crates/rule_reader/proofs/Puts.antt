-- What is found in a map behind what is put into it.
use Rattle.std.proofs.Common.{◌≡◌, ℕ, List, [], ◌∷◌, Some, refl, ap, ◌∙◌, sym, cond, nat_cmp}
use Rattle.std.specs.declared.cmp.Ordering.{Ordering}
use Rattle.std.specs.declared.cmp.Ordering.TheVariants.{Less, Equal, Greater}
use Rattle.std.specs.Ordering.{is_eq, match_ordering, ordering_reverse}
use Rattle.std.specs.Cmp.Lexicographic.{slice_cmp, nat_list_cmp_total}
use Rattle.std.proofs.lemmas.Cmp.{tied_itself}
use Rattle.vg_base.specs.Pairs.{find, put}

abbrev pub order : List ℕ → List ℕ → Ordering
order = slice_cmp nat_cmp

pub itself : (k : List ℕ) → order k k ≡ Equal
itself k = tied_itself nat_list_cmp_total k

turned : (k l : List ℕ) (o : Ordering) → order k l ≡ o → order l k ≡ ordering_reverse o
turned k l o e = nat_list_cmp_total.antisymm l k ∙ ap ordering_reverse e

module _ {V : Type 0} where
  abbrev at : Ordering → List ℕ → V → List ℕ × V → List (List ℕ × V) → List (List ℕ × V) → List (List ℕ × V)
  at o k x p ps rest = match_ordering o ((k, x) ∷ p ∷ ps) ((p.0, x) ∷ ps) (p ∷ rest)

  put_at : (o : Ordering) (k : List ℕ) (x : V) (p : List ℕ × V) (ps : List (List ℕ × V)) → order k p.0 ≡ o → put k x (p ∷ ps) ≡ at o k x p ps (put k x ps)
  put_at o k x p ps e = ap (λ o. at o k x p ps (put k x ps)) e

  find_at : (o : Ordering) (k : List ℕ) (p : List ℕ × V) (ps : List (List ℕ × V)) → order k p.0 ≡ o → find k (p ∷ ps) ≡ cond (is_eq o) (Some p.1) (find k ps)
  find_at o k p ps e = ap (λ o. cond (is_eq o) (Some p.1) (find k ps)) e

  put_found_at : (o : Ordering) (k : List ℕ) (x : V) (p : List ℕ × V) (ps : List (List ℕ × V)) → order k p.0 ≡ o → find k (put k x ps) ≡ Some x → find k (put k x (p ∷ ps)) ≡ Some x
  put_found_at Less k x p ps e more = ap (find k) (put_at Less k x p ps e) ∙ find_at Equal k (k, x) (p ∷ ps) (itself k)
  put_found_at Equal k x p ps e more = ap (find k) (put_at Equal k x p ps e) ∙ find_at Equal k (p.0, x) ps e
  put_found_at Greater k x p ps e more = ap (find k) (put_at Greater k x p ps e) ∙ find_at Greater k p (put k x ps) e ∙ more

  pub find-put : (k : List ℕ) (x : V) (ps : List (List ℕ × V)) → find k (put k x ps) ≡ Some x
  find-put k x [] = find_at Equal k (k, x) [] (itself k)
  find-put k x (p ∷ ps) = put_found_at (order k p.0) k x p ps refl (find-put k x ps)

  skipped : (o : Ordering) (l : List ℕ) (p : List ℕ × V) (ps : List (List ℕ × V)) → order l p.0 ≡ o → (o ≡ Equal → ⊥) → find l (p ∷ ps) ≡ find l ps
  skipped Less l p ps e apart = find_at Less l p ps e
  skipped Equal l p ps e apart = absurd (apart refl)
  skipped Greater l p ps e apart = find_at Greater l p ps e

  put_other_at : (o : Ordering) (k l : List ℕ) (x : V) (p : List ℕ × V) (ps : List (List ℕ × V)) → order k p.0 ≡ o → (order l k ≡ Equal → ⊥) → find l (put k x ps) ≡ find l ps
      → find l (put k x (p ∷ ps)) ≡ find l (p ∷ ps)
  put_other_at Less k l x p ps e apart more = ap (find l) (put_at Less k x p ps e) ∙ skipped (order l k) l (k, x) (p ∷ ps) refl apart
  put_other_at Equal k l x p ps e apart more =
      let other : order l p.0 ≡ Equal → ⊥ = λ f. apart (nat_list_cmp_total.congr l p.0 k f ∙ turned k p.0 Equal e) in
      ap (find l) (put_at Equal k x p ps e) ∙ skipped (order l p.0) l (p.0, x) ps refl other ∙ sym (skipped (order l p.0) l p ps refl other)
  put_other_at Greater k l x p ps e apart more =
      ap (find l) (put_at Greater k x p ps e) ∙ ap (λ o. cond (is_eq (order l p.0)) (Some p.1) o) more

  pub find-put_other : (k l : List ℕ) (x : V) (ps : List (List ℕ × V)) → (order l k ≡ Equal → ⊥) → find l (put k x ps) ≡ find l ps
  find-put_other k l x [] apart = skipped (order l k) l (k, x) [] refl apart
  find-put_other k l x (p ∷ ps) apart = put_other_at (order k p.0) k l x p ps refl apart (find-put_other k l x ps apart)
