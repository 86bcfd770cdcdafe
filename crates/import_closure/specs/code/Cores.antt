-- The rows of a set as far as they were read, and the documents that a core has done.
use Rattle.std.specs.Prelude.{◌≡◌, ℕ, ◌<◌, Bool, true, false, List, [], length, slice_index_or, map}
use Rattle.vg_base.specs.declared.numbers.DocIx.{DocIx}
use Rattle.grammar_tree.specs.declared.doc_set.DocText.{DocText}
use Rattle.build_core.specs.declared.event.DocState.{DocState}
use Rattle.build_core.specs.declared.event.DocState.TheVariants.{Unseen, Wanted, Held, Done}
use Rattle.rule_reader.specs.Sets.{IsRow}

-- a row for each of the first documents of the set
pub record AreFirstRows (set : List DocText) (count : ℕ) (rows : List (List DocIx)) : Type 0 where
  pub sized : length rows ≡ count
  pub each : (x : ℕ) → x < count → IsRow set x (slice_index_or rows x [])

abbrev pub is_done : DocState → Bool
is_done Unseen = false
is_done Wanted = false
is_done (Held k) = false
is_done (Done k) = true

abbrev pub done_marks : List DocState → List Bool
done_marks = map is_done
