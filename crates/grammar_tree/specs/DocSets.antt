-- Documents under keys, in the order in which they were staged.
use Rattle.std.specs.Prelude.{◌≢◌, ℕ, Bool, List, ◌∷◌, ◌++◌, map, nat_eq}
use Rattle.std.specs.List.{AllPairs, before_first, after_first}
use Rattle.std.specs.Cmp.Lexicographic.{pointwise}
use Rattle.grammar_tree.specs.declared.doc_set.DocText.{DocText}

-- no key stands twice
abbrev pub HasDistinctKeys : List DocText → Type 0
HasDistinctKeys docs = AllPairs (λ one later. one ≢ later) (map (λ doc. doc.key) docs)

-- whether this is the document under the key
abbrev pub is_under : List ℕ → DocText → Bool
is_under key doc = pointwise nat_eq doc.key key

-- the document in place of the one under its key, or last where there is none
abbrev pub put : DocText → List DocText → List DocText
put doc docs = before_first (is_under doc.key) docs ++ doc ∷ after_first (is_under doc.key) docs

-- all but the document under the key, in their order
abbrev pub without : List ℕ → List DocText → List DocText
without key docs = before_first (is_under key) docs ++ after_first (is_under key) docs
