-- Which documents of a set have keys that are among some.
use Rattle.std.specs.Prelude.{◌≡◌, ◌↔◌, ℕ, Bool, List, slice_get, Option, Some, None, Contains, map, nat_eq}
use Rattle.std.specs.List.{list_any}
use Rattle.std.specs.Cmp.Lexicographic.{pointwise}
use Rattle.grammar_tree.specs.declared.doc_set.DocText.{DocText}
use Rattle.grammar_tree.specs.declared.document.Doc.{Doc}
use Rattle.rule_reader.specs.Imports.{imported}
use Rattle.rule_reader.specs.Reading.{Reads}

-- the document there has one of the keys
abbrev pub HasKeyAmong : List (List ℕ) → List DocText → ℕ → Type 0
HasKeyAmong keys set y = (doc : DocText) × (slice_get set y ≡ Some doc) × Contains keys doc.key

-- the same of each document, as a mark
abbrev pub marks_by : List (List ℕ) → List DocText → List Bool
marks_by keys = map (λ doc. list_any (pointwise nat_eq doc.key) keys)

-- the document that a text reads as, or none
abbrev pub IsDocOf : List ℕ → Option Doc → Type 0
IsDocOf text (Some doc) = Reads text doc
IsDocOf text None = (doc : Doc) → Reads text doc → ⊥

-- document x of the set reads as this
pub record TextReads (set : List DocText) (x : ℕ) (doc : Doc) : Type 0 where
  pub one : DocText
  pub is_one : slice_get set x ≡ Some one
  pub reads : Reads one.text doc

-- these are the keys that it imports
abbrev pub AreKeysOf : List DocText → ℕ → Doc → List (List ℕ) → Type 0
AreKeysOf set x doc keys =
    (one : DocText) → slice_get set x ≡ Some one → (key : List ℕ) → Contains keys key ↔ Contains (imported doc one.key) key
