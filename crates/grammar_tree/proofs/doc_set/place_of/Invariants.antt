use Rattle.std.proofs.Common.{ℕ, ◌<◌, ◌≡◌, false, get_or}
use Rattle.grammar_tree.specs.declared.doc_set.DocText.{DocText}
use Rattle.grammar_tree.specs.DocSets.{is_under}
use Rattle.grammar_tree.proofs.doc_set.place_of.Given as goal

-- none of the documents so far stands under the key
abbrev pub invariant-loop-at : goal.invariant-loop-at
invariant-loop-at l = (k : ℕ) (d : DocText) → k < l.at → is_under l.key (get_or l.docs k d) ≡ false
