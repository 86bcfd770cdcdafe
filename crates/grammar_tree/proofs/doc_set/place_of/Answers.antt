use Rattle.std.proofs.Common.{◌≤◌, ◌≡◌, ◌∙◌, true, [], length, sym, subst, arith}
use Rattle.std.proofs.lemmas.List.Sums.{position_or_len_is}
use Rattle.grammar_tree.specs.declared.doc_set.DocText.{DocText}
use Rattle.grammar_tree.specs.DocSets.{is_under}
use Rattle.grammar_tree.proofs.doc_set.place_of.Goals as goal

blank : DocText
blank = record { key = []; text = [] }

pub returns-then-eq : goal.returns-then-eq
returns-then-eq c =
    let key = c.args.key.now in
    let docs = c.args.docs.now in
    let within : c.loop-at.at ≤ length docs = omega (arith, c.loop-at-test.true) in
    sym
    (position_or_len_is (is_under key) docs c.loop-at.at c.index-docs-at.result within
    (λ k lt. c.loop-at.invariant k c.index-docs-at.result lt)
    (λ lt. subst (λ doc. is_under key doc ≡ true) c.index-docs-at.is (sym c.eq.ensures ∙ c.if-eq.true)))

pub returns : goal.returns
returns c =
    let key = c.args.key.now in
    let docs = c.args.docs.now in
    sym
    (position_or_len_is (is_under key) docs (length docs) blank (omega arith)
    (λ k lt. c.loop-at.invariant k blank (omega (arith, c.loop-at-test.false)))
    (λ lt. absurd (omega arith)))
