-- Rows of a set as the core has them, and what the core has done.
use Rattle.std.proofs.Common.{arith, ◌≡◌, ⊎_elim, refl, sym, ap, subst, ◌∙◌, ℕ, zero, suc, ◌+◌, ◌<◌, ◌≤◌, Bool, List, [], ◌∷◌, ◌++◌, length, map, get_or, length-append}
use Rattle.std.specs.Prelude.{Contains, ◌↔◌}
use Rattle.std.specs.List.Sorted.{IsStrictlyIncreasing}
use Rattle.std.proofs.lemmas.Option.{slice_get_within}
use Rattle.std.proofs.lemmas.Bool.{cases_lt}
use Rattle.vg_base.specs.declared.numbers.DocIx.{DocIx}
use Rattle.grammar_tree.specs.declared.doc_set.DocText.{DocText}
use Rattle.build_core.specs.declared.event.DocState.{DocState}
use Rattle.build_core.specs.declared.event.DocState.TheVariants.{Unseen, Wanted, Held, Done}
use Rattle.build_core.specs.Rows.{ByRows, IsClosed, Reached, entry, import}
use Rattle.build_core.specs.Core.{DoneIsClosure, IsDone}
use Rattle.rule_reader.specs.Sets.{HasImport, IsKeyed, IsRow, AreRows, IsWalk, IsReached, IsClosure, last_of, ix}
use Rattle.import_closure.specs.code.Marks.{IsMarked}
use Rattle.import_closure.specs.code.Cores.{AreFirstRows, done_marks, is_done}
use Rattle.import_closure.proofs.ReachLemmas.{entry_reached, one_further}

-- ---- rows

row_at : (rows : List (List DocIx)) (x : ℕ) (y : DocIx) → Contains (get_or rows x []) y → x < length rows
row_at [] x y c = absurd (omega (arith, c.1))
row_at (row ∷ rows) zero y c = omega arith
row_at (row ∷ rows) (suc x) y c = let more = row_at rows x y c in omega arith

by_rows : (set : List DocText) (rows : List (List DocIx)) (x y : ℕ) → AreRows set rows → ByRows rows x y → HasImport set x y
by_rows set rows x y are h = let lt = row_at rows x (ix y) h in ((are.each x (omega (arith, are.sized))).exact y).0 h

in_rows : (set : List DocText) (rows : List (List DocIx)) (x y : ℕ) → AreRows set rows → HasImport set x y → ByRows rows x y
in_rows set rows x y are h = ((are.each x (slice_get_within set x h.one h.is_one)).exact y).1 h

pub rows_closed : (set : List DocText) (rows : List (List DocIx)) → IsKeyed set → AreRows set rows → IsClosed rows
rows_closed set rows keyed are = record {
  few = omega (arith, are.sized, keyed.few);
  inside = λ x y h. let i = by_rows set rows x y are h in let lt = slice_get_within set y i.other i.is_other in omega (arith, are.sized);
}

-- ---- rows, one after another

pub no_rows : (set : List DocText) → AreFirstRows set 0 []
no_rows set = record { sized = refl; each = λ x lt. absurd (omega (arith, lt)) }

before : (rows : List (List DocIx)) (row : List DocIx) (x : ℕ) → x < length rows → get_or (rows ++ row ∷ []) x [] ≡ get_or rows x []
before [] row x lt = absurd (omega (arith, lt))
before (r ∷ rows) row zero lt = refl
before (r ∷ rows) row (suc x) lt = before rows row x (omega arith)

last : (rows : List (List DocIx)) (row : List DocIx) → get_or (rows ++ row ∷ []) (length rows) [] ≡ row
last [] row = refl
last (r ∷ rows) row = last rows row

pub one_more_row : (set : List DocText) (count : ℕ) (rows : List (List DocIx)) (row : List DocIx) → AreFirstRows set count rows → IsRow set count row → AreFirstRows set (count + 1) (rows ++ row ∷ [])
one_more_row set count rows row are is_row = record {
  sized = omega (arith, length-append rows (row ∷ []), are.sized);
  each = λ x lt. ⊎_elim (λ below. subst (IsRow set x) (sym (before rows row x (omega (arith, are.sized)))) (are.each x below)) (λ past. at_last x lt past) (cases_lt x count);
}
  where
    at_last : (x : ℕ) → x < count + 1 → count ≤ x → IsRow set x (get_or (rows ++ row ∷ []) x [])
    at_last x lt past =
        let here : x ≡ length rows = omega (arith, are.sized) in
        let same : count ≡ x = omega arith in
        subst (IsRow set x) (sym (ap (λ n. get_or (rows ++ row ∷ []) n []) here ∙ last rows row)) (subst (λ n. IsRow set n row) same is_row)

pub all_rows : (set : List DocText) (rows : List (List DocIx)) → AreFirstRows set (length set) rows → AreRows set rows
all_rows set rows are = record { sized = are.sized; each = are.each }

-- ---- what is reached

to : (set : List DocText) (rows : List (List DocIx)) (entries : List DocIx) (y : ℕ) → AreRows set rows → Reached (ByRows rows) entries y → IsReached set entries y
to set rows entries y are (entry c) = entry_reached set entries y c
to set rows entries y are (import {x} r h) = one_further set entries x y (to set rows entries x are r) (by_rows set rows x y are h)

along : (set : List DocText) (rows : List (List DocIx)) (entries : List DocIx) (x : ℕ) (walk : List ℕ) → AreRows set rows → Reached (ByRows rows) entries x → IsWalk set x walk
    → Reached (ByRows rows) entries (last_of x walk)
along set rows entries x [] are r w = r
along set rows entries x (y ∷ walk) are r w = along set rows entries y walk are (import r (in_rows set rows x y are w.0)) w.1

from : (set : List DocText) (rows : List (List DocIx)) (entries : List DocIx) (y : ℕ) → AreRows set rows → IsReached set entries y → Reached (ByRows rows) entries y
from set rows entries y are h = subst (Reached (ByRows rows) entries) h.ends (along set rows entries h.entry h.walk are (entry h.is_entry) h.is_walk)

-- ---- what is done

done_to : (docs : List DocState) (y : ℕ) → IsMarked (done_marks docs) y → IsDone docs y
done_to [] y m = absurd (cc)
done_to (Done k ∷ docs) zero m = (k, refl)
done_to (Unseen ∷ docs) zero m = absurd (cc)
done_to (Wanted ∷ docs) zero m = absurd (cc)
done_to (Held k ∷ docs) zero m = absurd (cc)
done_to (s ∷ docs) (suc y) m = done_to docs y m

done_from : (docs : List DocState) (y : ℕ) (d : IsDone docs y) → IsMarked (done_marks docs) y
done_from [] y d = let e = d.1 in absurd (cc)
done_from (s ∷ docs) zero d = ap is_done d.1
done_from (s ∷ docs) (suc y) d = done_from docs y d

pub done_exact : (docs : List DocState) (marks shown : List Bool) (row : List DocIx) → marks ≡ done_marks docs → shown ≡ marks
    → ((y : ℕ) → Contains row (ix y) ↔ IsMarked shown y) → (y : ℕ) → Contains row (ix y) ↔ IsDone docs y
done_exact docs marks shown row is same exact y =
    ((λ c. done_to docs y (subst (λ l. IsMarked l y) (same ∙ is) ((exact y).0 c))), (λ d. (exact y).1 (subst (λ l. IsMarked l y) (sym (same ∙ is)) (done_from docs y d))))

pub is_closure : (set : List DocText) (rows : List (List DocIx)) (entries docs : List DocIx) (states : List DocState) → AreRows set rows × DoneIsClosure (ByRows rows) entries states
    → IsStrictlyIncreasing (map (λ y. y.0) docs) → ((y : ℕ) → Contains docs (ix y) ↔ IsDone states y) → IsClosure set entries docs
is_closure set rows entries docs states core rising exact = record {
  rising = rising;
  exact = λ y. ((λ c. to set rows entries y core.0 ((core.1 y).0 ((exact y).0 c))), (λ h. (exact y).1 ((core.1 y).1 (from set rows entries y core.0 h))));
}
