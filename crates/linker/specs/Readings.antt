-- What the documents of a set read as, as far as the entries of a publish lead to them.
use Rattle.std.specs.Prelude.{◌≡◌, ℕ, Bool, List, [], ◌∷◌, Option, Some, None, length, filter, is_none, nat_eq, slice_get}
use Rattle.std.specs.List.{position}
use Rattle.std.specs.Option.{option_map_or}
use Rattle.std.specs.Cmp.Lexicographic.{pointwise}
use Rattle.indexmap.specs.IndexSet.{insert_all}
use Rattle.vg_base.specs.declared.numbers.DocIx.{DocIx}
use Rattle.grammar_tree.specs.declared.doc_set.DocText.{DocText}
use Rattle.grammar_tree.specs.declared.document.ReadDoc.{ReadDoc}
use Rattle.grammar_tree.specs.declared.document.ReadDoc.TheVariants as read
use Rattle.grammar_tree.specs.DocSets.{is_under}
use Rattle.rule_reader.specs.Reading.{Reads, IsFirstFault}
use Rattle.rule_reader.specs.Sets.{ix, IsReached}

-- ---- entries

-- where the document under the key stands
abbrev pub place_of : List DocText → List ℕ → Option ℕ
place_of set key = position (is_under key) set

-- the entries that are staged, in their order
abbrev pub staged : List DocText → List (List ℕ) → List DocIx
staged set [] = []
staged set (entry ∷ entries) = option_map_or (λ x. ix x ∷ staged set entries) (place_of set entry) (staged set entries)

-- the entries that aren't, in their order, each once
abbrev pub missing : List DocText → List (List ℕ) → List (List ℕ)
missing set entries = insert_all (pointwise nat_eq) [] (filter (λ entry. is_none (place_of set entry)) entries)

-- ---- readings. What is said of them below is said of a publish only with `HaveReadings`.

-- a reading for each document of the set, or none
abbrev pub Readings : Type 0
Readings = List (Option ReadDoc)

-- the text reads as this document, or this is its first fault
abbrev pub IsReadAs : List ℕ → ReadDoc → Type 0
IsReadAs text (read.Good doc) = Reads text doc
IsReadAs text (read.Bad fault) = IsFirstFault text fault

-- the document at the place is there with what it reads as
pub record HasReading (set : List DocText) (docs : Readings) (x : ℕ) : Type 0 where
  pub doc : DocText
  pub reading : ReadDoc
  pub is_staged : slice_get set x ≡ Some doc
  pub is_there : slice_get docs x ≡ Some (Some reading)
  pub reads : IsReadAs doc.text reading

-- the documents that are reached from the entries have their readings, and no other one has any
pub record HaveReadings (set : List DocText) (entries : List DocIx) (docs : Readings) : Type 0 where
  pub sized : length docs ≡ length set
  pub each : (x : ℕ) → IsReached set entries x → HasReading set docs x
  pub others : (x : ℕ) (reading : ReadDoc) → slice_get docs x ≡ Some (Some reading) → IsReached set entries x
