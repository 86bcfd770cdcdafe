-- What is met is reached, and at the end nothing else is.
use Rattle.std.proofs.Common.{arith, ◌≡◌, ◌⊎◌, inl, inr, ⊎_elim, refl, sym, ap, subst, ◌∙◌, ℕ, zero, suc, ◌<◌, Bool, false, List, [], ◌∷◌, ◌++◌, length, map, get_or, All, replicate}
use Rattle.std.specs.Prelude.{Contains, ◌↔◌}
use Rattle.std.specs.List.Sorted.{IsStrictlyIncreasing}
use Rattle.std.proofs.lemmas.List.Elements.{Contains-append_left, Contains-push, Contains-push_cases}
use Rattle.std.proofs.lemmas.List.{get_or_default, length-replicate}
use Rattle.std.proofs.lemmas.Option.{slice_get_within}
use Rattle.vg_base.specs.declared.numbers.DocIx.{DocIx}
use Rattle.grammar_tree.specs.declared.doc_set.DocText.{DocText}
use Rattle.rule_reader.specs.Sets.{HasImport, IsRow, IsWalk, IsReached, IsClosure, last_of, ix}
use Rattle.import_closure.specs.code.Marks.{IsMarked}
use Rattle.import_closure.specs.code.Reach.{Reach, Met, IsWithin}

-- ---- walks

walk_more : (set : List DocText) (x y : ℕ) (walk : List ℕ) → IsWalk set x walk → HasImport set (last_of x walk) y → IsWalk set x (walk ++ y ∷ [])
walk_more set x y [] w h = (h, tt)
walk_more set x y (z ∷ walk) w h = (w.0, walk_more set z y walk w.1 h)

last_more : (x y : ℕ) (walk : List ℕ) → last_of x (walk ++ y ∷ []) ≡ y
last_more x y [] = refl
last_more x y (z ∷ walk) = last_more z y walk

pub one_further : (set : List DocText) (entries : List DocIx) (x y : ℕ) → IsReached set entries x → HasImport set x y → IsReached set entries y
one_further set entries x y r h = record {
  entry = r.entry;
  walk = r.walk ++ y ∷ [];
  is_entry = r.is_entry;
  is_walk = walk_more set r.entry y r.walk r.is_walk (subst (λ z. HasImport set z y) (sym r.ends) h);
  ends = last_more r.entry y r.walk;
}

pub entry_reached : (set : List DocText) (entries : List DocIx) (y : ℕ) → Contains entries (ix y) → IsReached set entries y
entry_reached set entries y c = record { entry = y; walk = []; is_entry = c; is_walk = tt; ends = refl }

-- ---- the beginning

pub begun : (set : List DocText) (entries : List DocIx) (old now : Reach) → length old.marks ≡ length set → ((y : ℕ) → IsMarked old.marks y → ⊥) → old.left ≡ []
    → Met entries old now → IsWithin set entries now
begun set entries old now sized unmarked nothing met = record {
  sized = met.sized ∙ sized;
  entries_met = met.all;
  reached = λ y m. ⊎_elim (λ k. absurd (unmarked y k)) (λ k. entry_reached set entries y k.0) (met.only y m);
  left_met = λ y c. ⊎_elim (λ k. let none = subst (λ l. Contains l (ix y)) nothing k in absurd (omega (arith, none.1))) (λ m. m) (met.came y c);
  followed = λ x m. ⊎_elim (λ k. absurd (unmarked x k)) (λ k. inl k.1) (met.only x m);
}

none_marked : (docs y : ℕ) → IsMarked (replicate docs false) y → ⊥
none_marked zero y m = cc
none_marked (suc docs) zero m = cc
none_marked (suc docs) (suc y) m = none_marked docs y m

pub begun_with_none : (docs : ℕ) (set : List DocText) (entries : List DocIx) (old now : Reach) → old ≡ record { marks = replicate docs false; left = [] } → length set ≡ docs
    → Met entries old now → IsWithin set entries now
begun_with_none docs set entries old now is sized met =
    begun set entries old now (ap (λ r. length r.marks) is ∙ length-replicate docs false ∙ sym sized) (λ y m. none_marked docs y (subst (λ r. IsMarked r.marks y) is m)) (ap (λ r. r.left) is) met

-- ---- one document is followed

marked_within : (marks : List Bool) (y : ℕ) → IsMarked marks y → y < length marks
marked_within [] y m = absurd (cc)
marked_within (b ∷ marks) zero m = omega arith
marked_within (b ∷ marks) (suc y) m = let more = marked_within marks y m in omega arith

pub next_within : (set : List DocText) (entries : List DocIx) (x : DocIx) (old now : Reach) → IsWithin set entries old → old ≡ record now { left = now.left ++ x ∷ [] } → x.0 < length set
next_within set entries x old now w is =
    let here = marked_within old.marks x.0 (w.left_met x.0 (subst (λ l. Contains l x) (sym (ap (λ r. r.left) is)) (Contains-push now.left x))) in omega (arith, w.sized)

pub followed_one : (set : List DocText) (entries : List DocIx) (x : ℕ) (row : List DocIx) (old now : Reach) → IsWithin set entries (record old { left = old.left ++ ix x ∷ [] })
    → IsRow set x row → Met row old now → IsWithin set entries now
followed_one set entries x row old now w is_row met = record {
  sized = met.sized ∙ w.sized;
  entries_met = λ y c. met.keeps y (w.entries_met y c);
  reached = λ y m. ⊎_elim (λ k. w.reached y k) (λ k. one_further set entries x y (w.reached x here) ((is_row.exact y).0 k.0)) (met.only y m);
  left_met = λ y c. ⊎_elim (λ k. met.keeps y (w.left_met y (Contains-append_left old.left (ix x ∷ []) (ix y) k))) (λ m. m) (met.came y c);
  followed = λ z m. ⊎_elim (λ k. of_old z (w.followed z k)) (λ k. inl k.1) (met.only z m);
}
  where
    here : IsMarked old.marks x
    here = w.left_met x (Contains-push old.left (ix x))

    Followed : ℕ → Type 0
    Followed z = Contains now.left (ix z) ⊎ ((y : ℕ) → HasImport set z y → IsMarked now.marks y)

    of_row : (z : ℕ) → x ≡ z → (y : ℕ) → HasImport set z y → IsMarked now.marks y
    of_row z same y h = met.all y ((is_row.exact y).1 (subst (λ v. HasImport set v y) (sym same) h))

    of_old : (z : ℕ) → Contains (old.left ++ ix x ∷ []) (ix z) ⊎ ((y : ℕ) → HasImport set z y → IsMarked old.marks y) → Followed z
    of_old z (inl c) = ⊎_elim (λ k. inl (met.stays z k)) (λ same. inr (of_row z (ap (λ d. d.0) same))) (Contains-push_cases old.left (ix x) (ix z) c)
    of_old z (inr all) = inr (λ y h. met.keeps y (all y h))

pub row_within : (set : List DocText) (x : ℕ) (row : List DocIx) → IsRow set x row → All (λ y. y.0 < length set) row
row_within set x row is_row k d lt =
    let h = (is_row.exact (get_or row k d).0).0 (k, lt, same) in slice_get_within set (get_or row k d).0 h.other h.is_other
  where
    same : get_or row k (ix (get_or row k d).0) ≡ ix (get_or row k d).0
    same = get_or_default row k (ix (get_or row k d).0) d lt

pub row_fits : (set : List DocText) (entries row shown : List DocIx) (x : DocIx) (old now : Reach) → IsWithin set entries old × (old ≡ record now { left = now.left ++ x ∷ [] })
    → IsRow set x.0 row × (shown ≡ row) → All (λ y. y.0 < length now.marks) shown
row_fits set entries row shown x old now w is_row k d lt =
    let within = row_within set x.0 row is_row.0 k d (omega (arith, ap length is_row.1)) in
    let same = ap (λ l. (get_or l k d).0) is_row.1 in
    omega (arith, w.0.sized, ap (λ r. length r.marks) w.1, same)

pub turn : (set : List DocText) (entries row shown : List DocIx) (x : DocIx) (old mid now : Reach) → IsWithin set entries old × (old ≡ record mid { left = mid.left ++ x ∷ [] })
    → IsRow set x.0 row × (shown ≡ row) → Met shown mid now → IsWithin set entries now
turn set entries row shown x old mid now w is_row met =
    followed_one set entries x.0 row mid now (subst (IsWithin set entries) w.1 w.0) is_row.0 (subst (λ l. Met l mid now) is_row.1 met)

-- ---- the end

walked : (set : List DocText) (entries : List DocIx) (r : Reach) → IsWithin set entries r → r.left ≡ [] → (x : ℕ) (walk : List ℕ) → IsMarked r.marks x → IsWalk set x walk → IsMarked r.marks (last_of x walk)
walked set entries r w nothing x [] m walk = m
walked set entries r w nothing x (y ∷ others) m walk =
    walked set entries r w nothing y others
    (⊎_elim (λ c. let none = subst (λ l. Contains l (ix x)) nothing c in absurd (omega (arith, none.1))) (λ all. all y walk.0) (w.followed x m)) walk.1

all_reached : (set : List DocText) (entries : List DocIx) (r : Reach) → IsWithin set entries r → r.left ≡ [] → (y : ℕ) → IsReached set entries y → IsMarked r.marks y
all_reached set entries r w nothing y h =
    subst (λ z. IsMarked r.marks z) h.ends (walked set entries r w nothing h.entry h.walk (w.entries_met h.entry h.is_entry) h.is_walk)

pub is_closure : (set : List DocText) (entries docs : List DocIx) (r : Reach) → IsWithin set entries r → r.left ≡ [] → IsStrictlyIncreasing (map (λ y. y.0) docs)
    → ((y : ℕ) → Contains docs (ix y) ↔ IsMarked r.marks y) → IsClosure set entries docs
is_closure set entries docs r w nothing rising exact = record {
  rising = rising;
  exact = λ y. ((λ c. w.reached y ((exact y).0 c)), (λ h. (exact y).1 (all_reached set entries r w nothing y h)));
}
