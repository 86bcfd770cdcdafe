-- Pairs that are put one after another: the later one of a key counts, and the order of two keys doesn't matter.
use Rattle.std.proofs.Common.{◌≡◌, ℕ, List, [], ◌∷◌, Some, refl, ap, ◌∙◌, sym, cond, nat_cmp}
use Rattle.std.specs.declared.cmp.Ordering.{Ordering}
use Rattle.std.specs.declared.cmp.Ordering.TheVariants.{Less, Equal, Greater}
use Rattle.std.specs.Ordering.{is_eq, match_ordering, ordering_reverse}
use Rattle.std.specs.Cmp.Lexicographic.{slice_cmp, nat_list_cmp_total}
use Rattle.std.proofs.lemmas.Cmp.{tied_itself}
use Rattle.vg_base.specs.Pairs.{find, put}

abbrev pub order : List ℕ → List ℕ → Ordering
order = slice_cmp nat_cmp

pub itself : (k : List ℕ) → order k k ≡ Equal
itself k = tied_itself nat_list_cmp_total k

pub turned : (k l : List ℕ) (o : Ordering) → order k l ≡ o → order l k ≡ ordering_reverse o
turned k l o e = nat_list_cmp_total.antisymm l k ∙ ap ordering_reverse e

module _ {V : Type 0} where
  -- a pair in front of others, by how the keys compare
  abbrev at : Ordering → List ℕ → V → List ℕ × V → List (List ℕ × V) → List (List ℕ × V) → List (List ℕ × V)
  at o k x p ps rest = match_ordering o ((k, x) ∷ p ∷ ps) ((p.0, x) ∷ ps) (p ∷ rest)

  put_at : (o : Ordering) (k : List ℕ) (x : V) (p : List ℕ × V) (ps : List (List ℕ × V)) → order k p.0 ≡ o → put k x (p ∷ ps) ≡ at o k x p ps (put k x ps)
  put_at o k x p ps e = ap (λ o. at o k x p ps (put k x ps)) e

  twice_at : (o : Ordering) (k : List ℕ) (x y : V) (p : List ℕ × V) (ps : List (List ℕ × V)) → order k p.0 ≡ o → put k y (put k x ps) ≡ put k y ps
      → put k y (put k x (p ∷ ps)) ≡ put k y (p ∷ ps)
  twice_at Less k x y p ps e more = ap (put k y) (put_at Less k x p ps e) ∙ put_at Equal k y (k, x) (p ∷ ps) (itself k) ∙ sym (put_at Less k y p ps e)
  twice_at Equal k x y p ps e more = ap (put k y) (put_at Equal k x p ps e) ∙ put_at Equal k y (p.0, x) ps e ∙ sym (put_at Equal k y p ps e)
  twice_at Greater k x y p ps e more =
      ap (put k y) (put_at Greater k x p ps e) ∙ put_at Greater k y p (put k x ps) e ∙ ap (λ l. p ∷ l) more ∙ sym (put_at Greater k y p ps e)

  -- of two values put to one key the later one counts
  pub put-put : (k : List ℕ) (x y : V) (ps : List (List ℕ × V)) → put k y (put k x ps) ≡ put k y ps
  put-put k x y [] = put_at Equal k y (k, x) [] (itself k)
  put-put k x y (p ∷ ps) = twice_at (order k p.0) k x y p ps refl (put-put k x y ps)

  module _ (k l : List ℕ) (x y : V) where
    -- the new pair of `l` stands before that of `k`
    before : (ps : List (List ℕ × V)) (p : List ℕ × V) → order l k ≡ Less → order l p.0 ≡ Less → (qs : List (List ℕ × V)) (q : List ℕ × V) → put k x (p ∷ ps) ≡ q ∷ qs → order l q.0 ≡ Less
        → put l y (put k x (p ∷ ps)) ≡ put k x (put l y (p ∷ ps))
    before ps p lk lp qs q e lq =
        ap (put l y) e ∙ put_at Less l y q qs lq ∙ ap (λ r. (l, y) ∷ r) (sym e)
        ∙ sym (put_at Greater k x (l, y) (p ∷ ps) (turned l k Less lk)) ∙ ap (put k x) (sym (put_at Less l y p ps lp))

    -- the new pair of `k` stands before that of `l`
    after : (ps : List (List ℕ × V)) (p : List ℕ × V) → order k l ≡ Less → order k p.0 ≡ Less → (qs : List (List ℕ × V)) (q : List ℕ × V) → put l y (p ∷ ps) ≡ q ∷ qs → order k q.0 ≡ Less
        → put l y (put k x (p ∷ ps)) ≡ put k x (put l y (p ∷ ps))
    after ps p kl kp qs q e kq =
        ap (put l y) (put_at Less k x p ps kp) ∙ put_at Greater l y (k, x) (p ∷ ps) (turned k l Less kl) ∙ ap (λ r. (k, x) ∷ r) e
        ∙ sym (put_at Less k x q qs kq) ∙ ap (put k x) (sym e)

    none_at : (o : Ordering) → order l k ≡ o → (o ≡ Equal → ⊥) → put l y (put k x []) ≡ put k x (put l y [])
    none_at Less e apart = put_at Less l y (k, x) [] e ∙ sym (put_at Greater k x (l, y) [] (turned l k Less e))
    none_at Equal e apart = absurd (apart refl)
    none_at Greater e apart = put_at Greater l y (k, x) [] e ∙ sym (put_at Less k x (l, y) [] (turned l k Greater e))

    both_less : (o : Ordering) (p : List ℕ × V) (ps : List (List ℕ × V)) → order l k ≡ o → (o ≡ Equal → ⊥) → order k p.0 ≡ Less → order l p.0 ≡ Less
        → put l y (put k x (p ∷ ps)) ≡ put k x (put l y (p ∷ ps))
    both_less Less p ps e apart kp lp = before ps p e lp (p ∷ ps) (k, x) (put_at Less k x p ps kp) e
    both_less Equal p ps e apart kp lp = absurd (apart refl)
    both_less Greater p ps e apart kp lp = after ps p (turned l k Greater e) kp (p ∷ ps) (l, y) (put_at Less l y p ps lp) (turned l k Greater e)

    swap_at : (a b : Ordering) (p : List ℕ × V) (ps : List (List ℕ × V)) → order k p.0 ≡ a → order l p.0 ≡ b → (order l k ≡ Equal → ⊥) → put l y (put k x ps) ≡ put k x (put l y ps)
        → put l y (put k x (p ∷ ps)) ≡ put k x (put l y (p ∷ ps))
    swap_at Less Less p ps e f apart more = both_less (order l k) p ps refl apart e f
    swap_at Less Equal p ps e f apart more =
        let kl : order k l ≡ Less = nat_list_cmp_total.antisymm k l ∙ ap ordering_reverse (nat_list_cmp_total.congr l p.0 k f ∙ turned k p.0 Less e) in
        after ps p kl e ps (p.0, y) (put_at Equal l y p ps f) e
    swap_at Less Greater p ps e f apart more =
        let kl : order k l ≡ Less = nat_list_cmp_total.trans k p.0 l e (turned l p.0 Greater f) in
        after ps p kl e (put l y ps) p (put_at Greater l y p ps f) e
    swap_at Equal Less p ps e f apart more =
        let lk : order l k ≡ Less = nat_list_cmp_total.antisymm l k ∙ ap ordering_reverse (nat_list_cmp_total.congr k p.0 l e ∙ turned l p.0 Less f) in
        before ps p lk f ps (p.0, x) (put_at Equal k x p ps e) f
    swap_at Equal Equal p ps e f apart more =
        absurd (apart (nat_list_cmp_total.congr l p.0 k f ∙ turned k p.0 Equal e))
    swap_at Equal Greater p ps e f apart more =
        ap (put l y) (put_at Equal k x p ps e) ∙ put_at Greater l y (p.0, x) ps f
        ∙ sym (put_at Equal k x p (put l y ps) e) ∙ ap (put k x) (sym (put_at Greater l y p ps f))
    swap_at Greater Less p ps e f apart more =
        let lk : order l k ≡ Less = nat_list_cmp_total.trans l p.0 k f (turned k p.0 Greater e) in
        before ps p lk f (put k x ps) p (put_at Greater k x p ps e) f
    swap_at Greater Equal p ps e f apart more =
        ap (put l y) (put_at Greater k x p ps e) ∙ put_at Equal l y p (put k x ps) f
        ∙ sym (put_at Greater k x (p.0, y) ps e) ∙ ap (put k x) (sym (put_at Equal l y p ps f))
    swap_at Greater Greater p ps e f apart more =
        ap (put l y) (put_at Greater k x p ps e) ∙ put_at Greater l y p (put k x ps) f ∙ ap (λ r. p ∷ r) more
        ∙ sym (put_at Greater k x p (put l y ps) e) ∙ ap (put k x) (sym (put_at Greater l y p ps f))

    -- two keys in either order
    pub put-swap : (ps : List (List ℕ × V)) → (order l k ≡ Equal → ⊥) → put l y (put k x ps) ≡ put k x (put l y ps)
    put-swap [] apart = none_at (order l k) refl apart
    put-swap (p ∷ ps) apart = swap_at (order k p.0) (order l p.0) p ps refl refl apart (put-swap ps apart)

  -- ---- what is found

  find_at : (o : Ordering) (k : List ℕ) (p : List ℕ × V) (ps : List (List ℕ × V)) → order k p.0 ≡ o → find k (p ∷ ps) ≡ cond (is_eq o) (Some p.1) (find k ps)
  find_at o k p ps e = ap (λ o. cond (is_eq o) (Some p.1) (find k ps)) e

  put_found_at : (o : Ordering) (k : List ℕ) (x : V) (p : List ℕ × V) (ps : List (List ℕ × V)) → order k p.0 ≡ o → find k (put k x ps) ≡ Some x → find k (put k x (p ∷ ps)) ≡ Some x
  put_found_at Less k x p ps e more = ap (find k) (put_at Less k x p ps e) ∙ find_at Equal k (k, x) (p ∷ ps) (itself k)
  put_found_at Equal k x p ps e more = ap (find k) (put_at Equal k x p ps e) ∙ find_at Equal k (p.0, x) ps e
  put_found_at Greater k x p ps e more = ap (find k) (put_at Greater k x p ps e) ∙ find_at Greater k p (put k x ps) e ∙ more

  pub find-put : (k : List ℕ) (x : V) (ps : List (List ℕ × V)) → find k (put k x ps) ≡ Some x
  find-put k x [] = find_at Equal k (k, x) [] (itself k)
  find-put k x (p ∷ ps) = put_found_at (order k p.0) k x p ps refl (find-put k x ps)

  skipped : (o : Ordering) (l : List ℕ) (p : List ℕ × V) (ps : List (List ℕ × V)) → order l p.0 ≡ o → (o ≡ Equal → ⊥) → find l (p ∷ ps) ≡ find l ps
  skipped Less l p ps e apart = find_at Less l p ps e
  skipped Equal l p ps e apart = absurd (apart refl)
  skipped Greater l p ps e apart = find_at Greater l p ps e

  put_other_at : (o : Ordering) (k l : List ℕ) (x : V) (p : List ℕ × V) (ps : List (List ℕ × V)) → order k p.0 ≡ o → (order l k ≡ Equal → ⊥) → find l (put k x ps) ≡ find l ps
      → find l (put k x (p ∷ ps)) ≡ find l (p ∷ ps)
  put_other_at Less k l x p ps e apart more = ap (find l) (put_at Less k x p ps e) ∙ skipped (order l k) l (k, x) (p ∷ ps) refl apart
  put_other_at Equal k l x p ps e apart more =
      let other : order l p.0 ≡ Equal → ⊥ = λ f. apart (nat_list_cmp_total.congr l p.0 k f ∙ turned k p.0 Equal e) in
      ap (find l) (put_at Equal k x p ps e) ∙ skipped (order l p.0) l (p.0, x) ps refl other ∙ sym (skipped (order l p.0) l p ps refl other)
  put_other_at Greater k l x p ps e apart more =
      ap (find l) (put_at Greater k x p ps e) ∙ ap (λ o. cond (is_eq (order l p.0)) (Some p.1) o) more

  pub find-put_other : (k l : List ℕ) (x : V) (ps : List (List ℕ × V)) → (order l k ≡ Equal → ⊥) → find l (put k x ps) ≡ find l ps
  find-put_other k l x [] apart = skipped (order l k) l (k, x) [] refl apart
  find-put_other k l x (p ∷ ps) apart = put_other_at (order k p.0) k l x p ps refl apart (find-put_other k l x ps apart)
