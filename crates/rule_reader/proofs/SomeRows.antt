-- Each set has rows: which document imports which is decided, since each text has an answer.
use Rattle.std.proofs.Common.{arith, ◌≡◌, ◌⊎◌, inl, inr, ⊎_elim, refl, sym, ap, subst, ◌∙◌, ℕ, zero, suc, ◌+◌, ◌<◌, ◌≤◌, List, [], ◌∷◌, length, map, get_or, Option, Some, None, Result, Ok, Err, All}
use Rattle.std.specs.Prelude.{Contains, ◌↔◌, slice_get}
use Rattle.std.specs.List.{AllPairs}
use Rattle.std.proofs.lemmas.Bool.{cases_lt}
use Rattle.std.proofs.lemmas.List.Kept.{AllPairs-cons}
use Rattle.std.proofs.lemmas.Option.{slice_get_within}
use Rattle.vg_base.specs.declared.doc_fault.DocFault.{DocFault}
use Rattle.vg_base.specs.declared.numbers.DocIx.{DocIx}
use Rattle.grammar_tree.specs.declared.doc_set.DocText.{DocText}
use Rattle.grammar_tree.specs.declared.document.Doc.{Doc}
use Rattle.rule_reader.specs.Imports.{imported}
use Rattle.rule_reader.specs.Reading.{Reads, IsReading}
use Rattle.rule_reader.specs.Sets.{HasImport, IsRow, AreRows, ix}
use Rattle.rule_reader.proofs.Decisions.{decide_contains}
use Rattle.rule_reader.proofs.OneReading.{not_both}
use Rattle.rule_reader.proofs.OneMeaning.{one_doc}
use Rattle.rule_reader.proofs.SomeReading.{some_reading}

abbrev Decided : Type 0 → Type 0
Decided P = P ⊎ (P → ⊥)

some_same : {A : Type 0} {a b : A} → ◌≡◌ {A = Option A} (Some a) (Some b) → a ≡ b
some_same e = cc

none_some : {A : Type 0} {a : A} → ◌≡◌ {A = Option A} None (Some a) → ⊥
none_some e = cc

-- ---- one document and another

module _ (set : List DocText) (x y : ℕ) where
  -- both stand in the set, and the first reads as this
  of_doc : (one other : DocText) (doc : Doc) → slice_get set x ≡ Some one → slice_get set y ≡ Some other → Reads one.text doc
      → Decided (Contains (imported doc one.key) other.key) → Decided (HasImport set x y)
  of_doc one other doc is_one is_other reads (inl c) = inl (record { one = one; other = other; doc = doc; is_one = is_one; is_other = is_other; reads = reads; refers = c })
  of_doc one other doc is_one is_other reads (inr n) = inr (λ h. n (moved h))
    where
      moved : HasImport set x y → Contains (imported doc one.key) other.key
      moved h =
          let first : h.one ≡ one = some_same (sym h.is_one ∙ is_one) in
          let second : h.other ≡ other = some_same (sym h.is_other ∙ is_other) in
          let read : Reads one.text h.doc = subst (λ (d : DocText). Reads d.text h.doc) first h.reads in
          let same : h.doc ≡ doc = one_doc one.text h.doc doc read reads in
          subst (λ (d : Doc). Contains (imported d one.key) other.key) same
          (subst (λ (d : DocText). Contains (imported h.doc d.key) other.key) first (subst (λ (d : DocText). Contains (imported h.doc h.one.key) d.key) second h.refers))

  of_answer : (one other : DocText) → slice_get set x ≡ Some one → slice_get set y ≡ Some other → (answer : Result Doc DocFault) → IsReading one.text answer → Decided (HasImport set x y)
  of_answer one other is_one is_other (Ok doc) reads = of_doc one other doc is_one is_other reads (decide_contains (imported doc one.key) other.key)
  of_answer one other is_one is_other (Err fault) refused =
      inr (λ h. not_both one.text h.doc fault (subst (λ (d : DocText). Reads d.text h.doc) (some_same (sym h.is_one ∙ is_one)) h.reads) refused)

  of_both : (a b : Option DocText) → slice_get set x ≡ a → slice_get set y ≡ b → Decided (HasImport set x y)
  of_both None b is_one is_other = inr (λ h. none_some (sym is_one ∙ h.is_one))
  of_both (Some one) None is_one is_other = inr (λ h. none_some (sym is_other ∙ h.is_other))
  of_both (Some one) (Some other) is_one is_other = let answer = some_reading one.text in of_answer one other is_one is_other answer.0 answer.1

  decide_import : Decided (HasImport set x y)
  decide_import = of_both (slice_get set x) (slice_get set y) refl refl

-- ---- a row

abbrev numbers : List DocIx → List ℕ
numbers = map (λ y. y.0)

-- of so many places from n on, those that x imports
record IsRowFrom (set : List DocText) (x n count : ℕ) (row : List DocIx) : Type 0 where
  above : All (λ y. n ≤ y) (numbers row)
  rising : AllPairs (λ y z. y < z) (numbers row)
  only : (y : ℕ) → Contains row (ix y) → HasImport set x y
  all : (y : ℕ) → n ≤ y → y < n + count → HasImport set x y → Contains row (ix y)

later : (d : DocIx) (row : List DocIx) (y : ℕ) → Contains row (ix y) → Contains (d ∷ row) (ix y)
later d row y c = (suc c.0, omega (arith, c.1), c.2)

first_or_later : (n : ℕ) (row : List DocIx) (y : ℕ) → Contains (ix n ∷ row) (ix y) → (n ≡ y) ⊎ Contains row (ix y)
first_or_later n row y c = at c.0 c.1 c.2
  where
    at : (k : ℕ) → k < length (ix n ∷ row) → get_or (ix n ∷ row) k (ix y) ≡ ix y → (n ≡ y) ⊎ Contains row (ix y)
    at zero lt e = inl (ap (λ d. d.0) e)
    at (suc k) lt e = inr (k, omega arith, e)

lower : (n : ℕ) (row : List DocIx) → All (λ y. suc n ≤ y) (numbers row) → All (λ y. n ≤ y) (numbers row)
lower n row h k d lt = let above = h k d lt in omega arith

with_it : (set : List DocText) (x n count : ℕ) (row : List DocIx) → HasImport set x n → IsRowFrom set x (suc n) count row → IsRowFrom set x n (suc count) (ix n ∷ row)
with_it set x n count row here h = record {
  above = above;
  rising = AllPairs-cons (λ y z. y < z) n (numbers row) (λ k d lt. h.above k d lt) h.rising;
  only = λ y c. ⊎_elim (λ same. subst (λ z. HasImport set x z) same here) (λ d. h.only y d) (first_or_later n row y c);
  all = all;
}
  where
    above : All (λ y. n ≤ y) (n ∷ numbers row)
    above zero d lt = omega arith
    above (suc k) d lt = let more = h.above k d (omega arith) in omega arith

    all : (y : ℕ) → n ≤ y → y < n + suc count → HasImport set x y → Contains (ix n ∷ row) (ix y)
    all y le lt i = at (cases_lt n y)
      where
        at : (n < y) ⊎ (y ≤ n) → Contains (ix n ∷ row) (ix y)
        at (inl below) = later (ix n) row y (h.all y (omega arith) (omega arith) i)
        at (inr ge) = let same : n ≡ y = omega arith in (0, omega arith, ap ix same)

without_it : (set : List DocText) (x n count : ℕ) (row : List DocIx) → (HasImport set x n → ⊥) → IsRowFrom set x (suc n) count row → IsRowFrom set x n (suc count) row
without_it set x n count row none h = record { above = lower n row h.above; rising = h.rising; only = h.only; all = all }
  where
    all : (y : ℕ) → n ≤ y → y < n + suc count → HasImport set x y → Contains row (ix y)
    all y le lt i = at (cases_lt n y)
      where
        at : (n < y) ⊎ (y ≤ n) → Contains row (ix y)
        at (inl below) = h.all y (omega arith) (omega arith) i
        at (inr ge) = let same : y ≡ n = omega arith in absurd (none (subst (λ z. HasImport set x z) same i))

row_from : (set : List DocText) (x count n : ℕ) → (row : List DocIx) × IsRowFrom set x n count row
row_from set x zero n = (
  [],
  record {
    above = λ k d lt. absurd (omega (arith, lt));
    rising = λ i j d lt within. absurd (omega (arith, within));
    only = λ y c. absurd (omega (arith, c.1));
    all = λ y le lt i. absurd (omega arith);
  },
)
row_from set x (suc count) n = at (decide_import set x n) (row_from set x count (suc n))
  where
    at : Decided (HasImport set x n) → (row : List DocIx) × IsRowFrom set x (suc n) count row → (row : List DocIx) × IsRowFrom set x n (suc count) row
    at (inl here) more = (ix n ∷ more.0, with_it set x n count more.0 here more.1)
    at (inr none) more = (more.0, without_it set x n count more.0 none more.1)

some_row : (set : List DocText) (x : ℕ) → (row : List DocIx) × IsRow set x row
some_row set x =
    let r = row_from set x (length set) 0 in (
      r.0,
      record {
        rising = λ k lt. r.1.rising k (k + 1) 0 (omega arith) lt;
        exact = λ y. (r.1.only y, (λ h. r.1.all y (omega arith) (omega (arith, slice_get_within set y h.other h.is_other)) h));
      },
    )

-- ---- all rows

rows_from : (set : List DocText) (count n : ℕ) → (rows : List (List DocIx)) × (length rows ≡ count) × ((k : ℕ) → k < count → IsRow set (n + k) (get_or rows k []))
rows_from set zero n = ([], refl, (λ k lt. absurd (omega (arith, lt))))
rows_from set (suc count) n = at (some_row set n) (rows_from set count (suc n))
  where
    at : (row : List DocIx) × IsRow set n row → (rows : List (List DocIx)) × (length rows ≡ count) × ((k : ℕ) → k < count → IsRow set (suc n + k) (get_or rows k []))
        → (rows : List (List DocIx)) × (length rows ≡ suc count) × ((k : ℕ) → k < suc count → IsRow set (n + k) (get_or rows k []))
    at row more = (row.0 ∷ more.0, ap suc more.1, each)
      where
        each : (k : ℕ) → k < suc count → IsRow set (n + k) (get_or (row.0 ∷ more.0) k [])
        each zero lt = let same : n ≡ n + 0 = omega arith in subst (λ z. IsRow set z row.0) same row.1
        each (suc k) lt = let same : suc n + k ≡ n + suc k = omega arith in subst (λ z. IsRow set z (get_or more.0 k [])) same (more.2 k (omega arith))

pub some_rows : (set : List DocText) → (rows : List (List DocIx)) × AreRows set rows
some_rows set =
    let r = rows_from set (length set) 0 in
    (r.0, record { sized = r.1; each = λ x lt. let same : 0 + x ≡ x = omega arith in subst (λ z. IsRow set z (get_or r.0 x [])) same (r.2 x lt) })
