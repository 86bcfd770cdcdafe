-- Sets of documents, which of them import which, and what is reached from some.
use Rattle.std.specs.Prelude.{◌≡◌, ◌↔◌, ℕ, ◌<◌, ◌≤◌, true, map, List, [], ◌∷◌, length, slice_get, slice_index_or, Some, None, Contains, All}
use Rattle.std.specs.List.Sorted.{IsStrictlyIncreasing}
use Rattle.vg_base.specs.Limits as limits
use Rattle.vg_base.specs.declared.numbers.DocIx.{DocIx}
use Rattle.uri_links.specs.Resolution.{is_absolute}
use Rattle.uri_links.specs.Faults.{reading_fault}
use Rattle.grammar_tree.specs.declared.doc_set.DocText.{DocText}
use Rattle.grammar_tree.specs.declared.document.Doc.{Doc}
use Rattle.grammar_tree.specs.DocSets.{HasDistinctKeys}
use Rattle.rule_reader.specs.Imports.{imported}
use Rattle.rule_reader.specs.Reading.{Reads}

-- a key by which a document may be found: a URI with a scheme and without a fragment
pub record IsKey (key : List ℕ) : Type 0 where
  pub readable : reading_fault key ≡ None
  pub absolute : is_absolute key ≡ true

-- a set that may be published: at most 64 documents, each under a key of its own
pub record IsKeyed (set : List DocText) : Type 0 where
  pub few : length set ≤ limits.documents
  pub keys : All (λ doc. IsKey doc.key) set
  pub distinct : HasDistinctKeys set

-- these are documents of the set
abbrev pub ArePlaces : List DocText → List DocIx → Type 0
ArePlaces set = All (λ doc. doc.0 < length set)

-- ---- imports

-- the text of document x reads as a document with a reference by URI that means the key of document y; a document with a
-- fault imports nothing
pub record HasImport (set : List DocText) (x y : ℕ) : Type 0 where
  pub one : DocText
  pub other : DocText
  pub doc : Doc
  pub is_one : slice_get set x ≡ Some one
  pub is_other : slice_get set y ≡ Some other
  pub reads : Reads one.text doc
  pub refers : Contains (imported doc one.key) other.key

-- ---- rows

abbrev pub ix : ℕ → DocIx
ix x = record { 0 = x }

-- the documents that document x imports, in rising order
pub record IsRow (set : List DocText) (x : ℕ) (row : List DocIx) : Type 0 where
  pub rising : IsStrictlyIncreasing (map (λ y. y.0) row)
  pub exact : (y : ℕ) → Contains row (ix y) ↔ HasImport set x y

-- a row for each document of the set
pub record AreRows (set : List DocText) (rows : List (List DocIx)) : Type 0 where
  pub sized : length rows ≡ length set
  pub each : (x : ℕ) → x < length set → IsRow set x (slice_index_or rows x [])

-- ---- walks and what they reach

-- each imports the next one
abbrev pub IsWalk : List DocText → ℕ → List ℕ → Type 0
IsWalk set x [] = Unit {0}
IsWalk set x (y ∷ walk) = HasImport set x y × IsWalk set y walk

abbrev pub last_of : ℕ → List ℕ → ℕ
last_of x [] = x
last_of x (y ∷ walk) = last_of y walk

-- the last document of some walk from an entry
pub record IsReached (set : List DocText) (entries : List DocIx) (y : ℕ) : Type 0 where
  pub entry : ℕ
  pub walk : List ℕ
  pub is_entry : Contains entries (ix entry)
  pub is_walk : IsWalk set entry walk
  pub ends : last_of entry walk ≡ y

-- the documents that are reached, in rising order
pub record IsClosure (set : List DocText) (entries closure : List DocIx) : Type 0 where
  pub rising : IsStrictlyIncreasing (map (λ y. y.0) closure)
  pub exact : (y : ℕ) → Contains closure (ix y) ↔ IsReached set entries y
