-- The documents of a set that have keys among some.
use Rattle.std.proofs.Common.{arith, ◌≡◌, refl, sym, subst, ◌∙◌, ℕ, zero, suc, ◌<◌, Bool, true, List, [], ◌∷◌, Option, Some, None, map, nat_eq}
use Rattle.std.specs.Prelude.{Contains, ◌↔◌, slice_get}
use Rattle.std.specs.List.{list_any}
use Rattle.std.specs.Cmp.Lexicographic.{pointwise, bytes_decides}
use Rattle.std.proofs.lemmas.Cmp.{nat_list_eq_equiv}
use Rattle.std.proofs.lemmas.Map.Views.{list_any-from_Contains}
use Rattle.indexmap.proofs.CallerLemmas.{Contains-list_any}
use Rattle.vg_base.specs.declared.numbers.DocIx.{DocIx}
use Rattle.rule_reader.specs.Sets.{HasImport, IsRow, ix}
use Rattle.grammar_tree.specs.declared.doc_set.DocText.{DocText}
use Rattle.import_closure.specs.code.Marks.{IsMarked}
use Rattle.import_closure.specs.code.Rows.{AreKeysOf, HasKeyAmong, TextReads, marks_by}
use Rattle.grammar_tree.specs.declared.document.Doc.{Doc}
use Rattle.rule_reader.specs.Imports.{imported}
use Rattle.rule_reader.specs.Reading.{Reads}
use Rattle.std.specs.List.Sorted.{IsStrictlyIncreasing}

key_found : (keys : List (List ℕ)) (key : List ℕ) → list_any (pointwise nat_eq key) keys ≡ true → Contains keys key
key_found keys key e = Contains-list_any (pointwise nat_eq) (λ a b t. (bytes_decides a b).0 t) keys key e

key_there : (keys : List (List ℕ)) (key : List ℕ) → Contains keys key → list_any (pointwise nat_eq key) keys ≡ true
key_there keys key c = list_any-from_Contains nat_list_eq_equiv key keys c

marked_to : (keys : List (List ℕ)) (set : List DocText) (y : ℕ) → IsMarked (marks_by keys set) y → HasKeyAmong keys set y
marked_to keys [] y m = absurd (cc)
marked_to keys (doc ∷ set) zero m = (doc, refl, key_found keys doc.key m)
marked_to keys (doc ∷ set) (suc y) m = marked_to keys set y m

marked_from : (keys : List (List ℕ)) (set : List DocText) (y : ℕ) (doc : DocText) → slice_get set y ≡ Some doc → Contains keys doc.key → IsMarked (marks_by keys set) y
marked_from keys [] y doc e c = absurd (cc)
marked_from keys (first ∷ set) zero doc e c = at (cc)
  where
    at : doc ≡ first → IsMarked (marks_by keys (first ∷ set)) zero
    at same = key_there keys first.key (subst (λ (d : DocText). Contains keys d.key) same c)
marked_from keys (first ∷ set) (suc y) doc e c = marked_from keys set y doc e c

pub marked_by : (keys : List (List ℕ)) (set : List DocText) (marks : List Bool) (y : ℕ) → marks ≡ marks_by keys set → IsMarked marks y ↔ HasKeyAmong keys set y
marked_by keys set marks y is =
    subst (λ l. IsMarked l y ↔ HasKeyAmong keys set y) (sym is) ((λ m. marked_to keys set y m), (λ h. marked_from keys set y h.0 h.1 h.2))

pub row_exact : (keys : List (List ℕ)) (set : List DocText) (marks shown : List Bool) (row : List DocIx) → marks ≡ marks_by keys set → shown ≡ marks
    → ((y : ℕ) → Contains row (ix y) ↔ IsMarked shown y) → (y : ℕ) → Contains row (ix y) ↔ HasKeyAmong keys set y
row_exact keys set marks shown row is same exact y =
    let by = marked_by keys set shown y (same ∙ is) in ((λ c. by.0 ((exact y).0 c)), (λ h. (exact y).1 (by.1 h)))

-- ---- rows of documents that are read

pub doc_of_text : (set : List DocText) (x : ℕ) (one : DocText) (doc : Doc) → slice_get set x ≡ Some one → Reads one.text doc → TextReads set x doc
doc_of_text set x one doc is reads = record { one = one; is_one = is; reads = reads }

abbrev OneDoc : Type 0
OneDoc = (text : List ℕ) (a b : Doc) → Reads text a → Reads text b → a ≡ b

abbrev IsRowBy : List DocText → List (List ℕ) → List DocIx → Type 0
IsRowBy set keys row = IsStrictlyIncreasing (map (λ y. y.0) row) × ((y : ℕ) → Contains row (ix y) ↔ HasKeyAmong keys set y)

pub row_of_doc : OneDoc → (set : List DocText) (x : ℕ) (doc : Doc) (row : List DocIx) → TextReads set x doc × ((keys : List (List ℕ)) × AreKeysOf set x doc keys × IsRowBy set keys row) → IsRow set x row
row_of_doc law set x doc row (read, (keys, are, by)) = record {
  rising = by.0;
  exact = λ y. ((λ c. imports y ((by.1 y).0 c)), (λ h. (by.1 y).1 (imported_by y h)));
}
  where
    imports : (y : ℕ) → HasKeyAmong keys set y → HasImport set x y
    imports y h = record {
      one = read.one;
      other = h.0;
      doc = doc;
      is_one = read.is_one;
      is_other = h.1;
      reads = read.reads;
      refers = (are read.one read.is_one h.0.key).0 h.2;
    }

    same_one : (y : ℕ) (h : HasImport set x y) → h.one ≡ read.one
    same_one y h = some_same (sym h.is_one ∙ read.is_one)
      where
        some_same : {a b : DocText} → ◌≡◌ {A = Option DocText} (Some a) (Some b) → a ≡ b
        some_same e = cc

    imported_by : (y : ℕ) → HasImport set x y → HasKeyAmong keys set y
    imported_by y h =
        let one = same_one y h in
        let doc_same : h.doc ≡ doc = law read.one.text h.doc doc (subst (λ (d : DocText). Reads d.text h.doc) one h.reads) read.reads in (
          h.other,
          h.is_other,
          (are read.one read.is_one h.other.key).1
              (subst (λ (d : Doc). Contains (imported d read.one.key) h.other.key) doc_same (subst (λ (d : DocText). Contains (imported h.doc d.key) h.other.key) one h.refers)),
        )

pub row_of_none : (set : List DocText) (x : ℕ) (one : DocText) → slice_get set x ≡ Some one → ((doc : Doc) → Reads one.text doc → ⊥) → IsRow set x []
row_of_none set x one is none = record {
  rising = λ k lt. absurd (omega (arith, lt));
  exact = λ y. ((λ c. absurd (omega (arith, c.1))), (λ h. absurd (none h.doc (subst (λ (d : DocText). Reads d.text h.doc) (some_same (sym h.is_one ∙ is)) h.reads))));
}
  where
    some_same : {a b : DocText} → ◌≡◌ {A = Option DocText} (Some a) (Some b) → a ≡ b
    some_same e = cc

pub keys_at : (set : List DocText) (x : ℕ) (doc : Doc) (keys : List (List ℕ))
    → (shown : DocText) × (slice_get set x ≡ Some shown) × ((uri : List ℕ) × (uri ≡ shown.key) × ((key : List ℕ) → Contains keys key ↔ Contains (imported doc uri) key))
    → AreKeysOf set x doc keys
keys_at set x doc keys (shown, is, (uri, same, all)) one is_one key =
    subst (λ (d : DocText). Contains keys key ↔ Contains (imported doc d.key) key) (some_same (sym is ∙ is_one))
    (subst (λ (u : List ℕ). Contains keys key ↔ Contains (imported doc u) key) same (all key))
  where
    some_same : {a b : DocText} → ◌≡◌ {A = Option DocText} (Some a) (Some b) → a ≡ b
    some_same e = cc
