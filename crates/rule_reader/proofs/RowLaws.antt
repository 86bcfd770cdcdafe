-- The rows of a set are one, and so is what is reached.
use Rattle.std.proofs.Common.{arith, ◌≡◌, sym, ◌∙◌, ℕ, List, [], get_or}
use Rattle.std.proofs.lemmas.List.{ext_get_or}
use Rattle.vg_base.specs.declared.numbers.DocIx.{DocIx}
use Rattle.grammar_tree.specs.declared.doc_set.DocText.{DocText}
use Rattle.rule_reader.specs.Sets.{IsRow, AreRows, IsClosure}
use Rattle.rule_reader.proofs.RisingLists.{one_list}

one_row : (set : List DocText) (x : ℕ) (one other : List DocIx) → IsRow set x one → IsRow set x other → one ≡ other
one_row set x one other h g =
    one_list one other h.rising g.rising (λ y c. (g.exact y).1 ((h.exact y).0 c)) (λ y c. (h.exact y).1 ((g.exact y).0 c))

pub rows_are_one : (set : List DocText) (one other : List (List DocIx)) → AreRows set one → AreRows set other → one ≡ other
rows_are_one set one other h g =
    ext_get_or [] one other (h.sized ∙ sym g.sized) (λ x lt. one_row set x (get_or one x []) (get_or other x []) (h.each x (omega (arith, h.sized))) (g.each x (omega (arith, h.sized))))

pub closures_are_one : (set : List DocText) (entries one other : List DocIx) → IsClosure set entries one → IsClosure set entries other → one ≡ other
closures_are_one set entries one other h g =
    one_list one other h.rising g.rising (λ y c. (g.exact y).1 ((h.exact y).0 c)) (λ y c. (h.exact y).1 ((g.exact y).0 c))
