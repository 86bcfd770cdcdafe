-- What putting a document into a set and taking one out change, and what they leave.
use Rattle.std.specs.Prelude.{◌≡◌, ◌≢◌, ℕ, List, [], ◌∷◌, ◌++◌, Some, None, if◌then◌else◌, slice_get}
use Rattle.std.specs.List.{find}
use Rattle.grammar_tree.specs.declared.doc_set.DocText.{DocText}
use Rattle.grammar_tree.specs.DocSets.{HasDistinctKeys, is_under, put, without}

-- what was put is found under its key
abbrev pub PutIsFound : Type 0
PutIsFound = (doc : DocText) (docs : List DocText) → find (is_under doc.key) (put doc docs) ≡ Some doc

-- each document stays in its place, and gives it to the new one where their keys are equal
abbrev pub PutKeepsPlaces : Type 0
PutKeepsPlaces =
    (doc other : DocText) (docs : List DocText) (k : ℕ) → HasDistinctKeys docs → slice_get docs k ≡ Some other →
    slice_get (put doc docs) k ≡ Some (if is_under doc.key other then doc else other)

-- a document with a new key goes last
abbrev pub NewGoesLast : Type 0
NewGoesLast = (doc : DocText) (docs : List DocText) → find (is_under doc.key) docs ≡ None → put doc docs ≡ docs ++ doc ∷ []

-- nothing is found under a key that was taken out
abbrev pub RemovedIsGone : Type 0
RemovedIsGone = (key : List ℕ) (docs : List DocText) → HasDistinctKeys docs → find (is_under key) (without key docs) ≡ None

-- under every other key there is what there was
abbrev pub OthersAreFound : Type 0
OthersAreFound = (key other : List ℕ) (docs : List DocText) → key ≢ other → find (is_under other) (without key docs) ≡ find (is_under other) docs
