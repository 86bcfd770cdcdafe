-- How far a search has come: the documents that were met, and those of them whose imports are still to be followed.
use Rattle.std.specs.Prelude.{◌≡◌, ◌⊎◌, ℕ, ◌+◌, Bool, List, length, Contains}
use Rattle.vg_base.specs.declared.numbers.DocIx.{DocIx}
use Rattle.grammar_tree.specs.declared.doc_set.DocText.{DocText}
use Rattle.rule_reader.specs.Sets.{HasImport, IsReached, ix}
use Rattle.import_closure.specs.code.Marks.{IsMarked, unmarked}

pub record Reach : Type 0 where
  pub marks : List Bool
  pub left : List DocIx

-- what is left to do: each turn takes one document off, and each document comes once
abbrev pub work : Reach → ℕ
work r = unmarked r.marks + length r.left

-- the documents of this row were met
pub record Met (row : List DocIx) (old now : Reach) : Type 0 where
  pub sized : length now.marks ≡ length old.marks
  pub keeps : (y : ℕ) → IsMarked old.marks y → IsMarked now.marks y
  pub all : (y : ℕ) → Contains row (ix y) → IsMarked now.marks y
  pub only : (y : ℕ) → IsMarked now.marks y → IsMarked old.marks y ⊎ (Contains row (ix y) × Contains now.left (ix y))
  pub stays : (y : ℕ) → Contains old.left (ix y) → Contains now.left (ix y)
  pub came : (y : ℕ) → Contains now.left (ix y) → Contains old.left (ix y) ⊎ IsMarked now.marks y
  pub spent : work now ≡ work old

-- all that was met is reached; the entries are; of what was met, the imports are too, or are still to be followed
pub record IsWithin (set : List DocText) (entries : List DocIx) (r : Reach) : Type 0 where
  pub sized : length r.marks ≡ length set
  pub entries_met : (y : ℕ) → Contains entries (ix y) → IsMarked r.marks y
  pub reached : (y : ℕ) → IsMarked r.marks y → IsReached set entries y
  pub left_met : (y : ℕ) → Contains r.left (ix y) → IsMarked r.marks y
  pub followed : (x : ℕ) → IsMarked r.marks x → Contains r.left (ix x) ⊎ ((y : ℕ) → HasImport set x y → IsMarked r.marks y)
