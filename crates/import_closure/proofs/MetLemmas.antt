-- What is met: none, one more, and then more.
use Rattle.std.proofs.Common.{arith, ◌≡◌, ◌⊎◌, inl, inr, ⊎_elim, refl, sym, ap, subst, ◌∙◌, ℕ, zero, suc, ◌+◌, ◌<◌, Bool, true, false, List, [], ◌∷◌, ◌++◌, length, get_or, take, slice_set, length-append, length-set}
use Rattle.std.specs.Prelude.{Contains}
use Rattle.std.proofs.lemmas.List.Elements.{Contains-append_left, Contains-append_right, Contains-append_cases, Contains-push, Contains-push_cases}
use Rattle.std.proofs.Math.Seq.{take-suc}
use Rattle.vg_base.specs.declared.numbers.DocIx.{DocIx}
use Rattle.rule_reader.specs.Sets.{ix}
use Rattle.import_closure.specs.code.Marks.{IsMarked, unmarked}
use Rattle.import_closure.specs.code.Reach.{Reach, Met, work}

none : (y : ℕ) → Contains [] (ix y) → ⊥
none y c = omega (arith, c.1)

only_one : (x y : ℕ) → Contains (ix x ∷ []) (ix y) → x ≡ y
only_one x y c = at c.0 c.1 c.2
  where
    at : (k : ℕ) → k < length (ix x ∷ []) → get_or (ix x ∷ []) k (ix y) ≡ ix y → x ≡ y
    at zero lt e = ap (λ d. d.0) e
    at (suc k) lt e = absurd (omega arith)

pub meet_none : (r : Reach) → Met [] r r
meet_none r = record {
  sized = refl;
  keeps = λ y m. m;
  all = λ y c. absurd (none y c);
  only = λ y m. inl m;
  stays = λ y c. c;
  came = λ y c. inl c;
  spent = refl;
}

pub meet_then : (row more : List DocIx) (a b c : Reach) → Met row a b → Met more b c → Met (row ++ more) a c
meet_then row more a b c one other = record {
  sized = other.sized ∙ one.sized;
  keeps = λ y m. other.keeps y (one.keeps y m);
  all = λ y d. ⊎_elim (λ l. other.keeps y (one.all y l)) (λ r. other.all y r) (Contains-append_cases row more (ix y) d);
  only = λ y m. ⊎_elim
      (λ l. ⊎_elim (λ k. inl k) (λ k. inr (Contains-append_left row more (ix y) k.0, other.stays y k.1)) (one.only y l))
      (λ r. inr (Contains-append_right row more (ix y) r.0, r.1)) (other.only y m);
  stays = λ y d. other.stays y (one.stays y d);
  came = λ y d. ⊎_elim (λ l. ⊎_elim (λ k. inl k) (λ k. inr (other.keeps y k)) (one.came y l)) (λ r. inr r) (other.came y d);
  spent = other.spent ∙ one.spent;
}

pub meet_next : (row : List DocIx) (i : ℕ) (d : DocIx) (a b c : Reach) → i < length row → Met (take i row) a b → Met (get_or row i d ∷ []) b c → Met (take (i + 1) row) a c
meet_next row i d a b c lt one other =
    let next : i + 1 ≡ suc i = omega arith in
    subst (λ l. Met l a c) (sym (ap (λ j. take j row) next ∙ take-suc row i d lt)) (meet_then (take i row) (get_or row i d ∷ []) a b c one other)

-- ---- one document

kept : (marks : List Bool) (x y : ℕ) → IsMarked marks y → IsMarked (slice_set marks x true) y
kept [] x y m = absurd (cc)
kept (b ∷ marks) zero zero m = refl
kept (b ∷ marks) zero (suc y) m = m
kept (b ∷ marks) (suc x) zero m = m
kept (b ∷ marks) (suc x) (suc y) m = kept marks x y m

came_by : (marks : List Bool) (x y : ℕ) → IsMarked (slice_set marks x true) y → IsMarked marks y ⊎ (x ≡ y)
came_by [] x y m = absurd (cc)
came_by (b ∷ marks) zero zero m = inr refl
came_by (b ∷ marks) zero (suc y) m = inl m
came_by (b ∷ marks) (suc x) zero m = inl m
came_by (b ∷ marks) (suc x) (suc y) m = ⊎_elim (λ l. inl l) (λ e. inr (ap suc e)) (came_by marks x y m)

is_marked : (marks : List Bool) (x : ℕ) → x < length marks → IsMarked (slice_set marks x true) x
is_marked [] x lt = absurd (omega arith)
is_marked (b ∷ marks) zero lt = refl
is_marked (b ∷ marks) (suc x) lt = is_marked marks x (omega arith)

one_fewer : (marks : List Bool) (x : ℕ) → x < length marks → get_or marks x false ≡ false → unmarked (slice_set marks x true) + 1 ≡ unmarked marks
one_fewer [] x lt e = absurd (omega arith)
one_fewer (true ∷ marks) zero lt e = absurd (cc)
one_fewer (false ∷ marks) zero lt e = omega arith
one_fewer (true ∷ marks) (suc x) lt e = one_fewer marks x (omega arith) e
one_fewer (false ∷ marks) (suc x) lt e = let m = one_fewer marks x (omega arith) e in omega arith

pub meet_known : (x : ℕ) (r : Reach) → IsMarked r.marks x → Met (ix x ∷ []) r r
meet_known x r m = record {
  sized = refl;
  keeps = λ y k. k;
  all = λ y c. subst (λ z. IsMarked r.marks z) (only_one x y c) m;
  only = λ y k. inl k;
  stays = λ y c. c;
  came = λ y c. inl c;
  spent = refl;
}

pub meet_new : (x : ℕ) (old now : Reach) → x < length old.marks → get_or old.marks x false ≡ false → now.marks ≡ slice_set old.marks x true → now.left ≡ old.left ++ ix x ∷ []
    → Met (ix x ∷ []) old now
meet_new x old now lt e marks left =
    let here : IsMarked now.marks x = subst (λ l. IsMarked l x) (sym marks) (is_marked old.marks x lt) in
    let last : Contains now.left (ix x) = subst (λ l. Contains l (ix x)) (sym left) (Contains-push old.left (ix x)) in
    record {
      sized = ap length marks ∙ length-set old.marks x true;
      keeps = λ y m. subst (λ l. IsMarked l y) (sym marks) (kept old.marks x y m);
      all = λ y c. subst (λ z. IsMarked now.marks z) (only_one x y c) here;
      only = λ y m. ⊎_elim (λ k. inl k) (λ same. inr (subst (λ z. Contains (ix x ∷ []) (ix z)) same (0, omega arith, refl), subst (λ z. Contains now.left (ix z)) same last))
          (came_by old.marks x y (subst (λ l. IsMarked l y) marks m));
      stays = λ y c. subst (λ l. Contains l (ix y)) (sym left) (Contains-append_left old.left (ix x ∷ []) (ix y) c);
      came = λ y c. ⊎_elim (λ k. inl k) (λ same. inr (subst (λ z. IsMarked now.marks z) (ap (λ d. d.0) same) here))
          (Contains-push_cases old.left (ix x) (ix y) (subst (λ l. Contains l (ix y)) left c));
      spent = spent;
    }
  where
    spent : work now ≡ work old
    spent = omega (arith, one_fewer old.marks x lt e, ap unmarked marks, ap length left, length-append old.left (ix x ∷ []))
