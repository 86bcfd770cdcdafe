-- One node more stands before what is numbered: its parts are the first of the rows behind it, and the other rows stay.
use Rattle.std.proofs.Common.{ℕ, zero, suc, ◌+◌, ◌-◌, ◌≡◌, ◌<◌, List, [], ◌∷◌, ◌++◌, Some, length, refl, sym, ap, ◌∙◌, subst, arith, length-set}
use Rattle.std.proofs.lemmas.List.{reverse-append}
use Rattle.std.specs.Prelude.{slice_get, slice_set, reverse}
use Rattle.vg_base.specs.declared.numbers.NodeIx.{NodeIx}
use Rattle.grammar_tree.specs.declared.linked.Node.{Node}
use Rattle.grammar_tree.specs.Links.{parts}
use Rattle.grammar_tree.specs.ReadingOrder.{subtree, AreSubtrees, no_subtree, next_subtree}
use Rattle.grammar_tree.proofs.Numbering.{row_grows, row_stays}
use Rattle.earley_chart.proofs.tests.grammars.numbered.Goals as goal

set_here : {X : Type 0} (xs : List X) (k : ℕ) (x : X) → k < length xs → slice_get (slice_set xs k x) k ≡ Some x
set_here [] k x lt = absurd (omega arith)
set_here (y ∷ xs) zero x lt = refl
set_here (y ∷ xs) (suc k) x lt = set_here xs k x (omega arith)

set_before : {X : Type 0} (xs : List X) (k j : ℕ) (x : X) → k < j → slice_get xs j ≡ slice_get (slice_set xs k x) j
set_before [] k j x lt = refl
set_before (y ∷ xs) zero zero x lt = absurd (omega arith)
set_before (y ∷ xs) zero (suc j) x lt = refl
set_before (y ∷ xs) (suc k) zero x lt = absurd (omega arith)
set_before (y ∷ xs) (suc k) (suc j) x lt = set_before xs k j x (omega arith)

-- a row of subtrees, cut in two
cut : (nodes : List Node) (ps qs : List NodeIx) (start end : ℕ) → AreSubtrees nodes (ps ++ qs) start end →
    (middle : ℕ) × AreSubtrees nodes ps start middle × AreSubtrees nodes qs middle end
cut nodes [] qs start end row = (start, no_subtree refl, row)
cut nodes (p ∷ ps) qs start end (next_subtree middle e one more) =
    let rest = cut nodes ps qs middle end more in (rest.0, next_subtree middle e one rest.1, rest.2)

one_more : (nodes : List Node) (x : Node) (n : NodeIx) (rest : List NodeIx) → n.0 < length nodes →
    AreSubtrees nodes (parts x ++ rest) (n.0 + 1) (length nodes) →
    AreSubtrees (slice_set nodes n.0 x) (n ∷ rest) n.0 (length (slice_set nodes n.0 x))
one_more nodes x n rest lt row =
    let two = cut nodes (parts x) rest (n.0 + 1) (length nodes) row in
    let others = slice_set nodes n.0 x in
    let later = row_grows nodes (parts x) (n.0 + 1) two.0 two.1 in
    let same : length nodes ≡ length others = sym (simp length-set) in
    subst (λ end. AreSubtrees others (n ∷ rest) n.0 end) same
    (next_subtree two.0 refl
    (subtree x (set_here nodes n.0 x lt) (row_stays nodes others (parts x) (n.0 + 1) two.0 (λ k le lt'. set_before nodes n.0 k x (omega arith)) two.1))
    (row_stays nodes others rest two.0 (length nodes) (λ k le lt'. set_before nodes n.0 k x (omega (arith, later, le))) two.2))

pub loop-at-init : goal.loop-at-init
loop-at-init c = record {
  same = omega arith;
  within = omega arith;
  row = subst (λ ps. AreSubtrees c.loop.nodes (reverse ps) (length c.args.row.now) (length c.loop.nodes)) (sym c.new-whole.ensures) (no_subtree (omega arith));
}

pub loop-at-preserved : goal.loop-at-preserved
loop-at-preserved c =
    let nodes = c.loop-at.nodes in
    let x = c.in_ok-node.field-0 in
    let n : NodeIx = record { 0 = c.loop-at.at - 1 } in
    let rest = reverse c.node.new.whole in
    let here : n.0 + 1 ≡ c.loop-at.at = omega arith in
    let within : n.0 < length nodes = omega arith in
    let before : AreSubtrees nodes (parts x ++ rest) (n.0 + 1) (length nodes) =
    subst (λ ps. AreSubtrees nodes ps (n.0 + 1) (length nodes)) c.in_ok-node.ensures
    (subst (λ k. AreSubtrees nodes (reverse c.loop-at.whole) k (length nodes)) (sym here) c.loop-at.invariant.row) in
    let first : reverse c.push-in-loop-at.new.self ≡ n ∷ rest = ap reverse c.in_ok-push-2.ensures.ok ∙ simp reverse-append in
    let others : slice_set nodes n.0 x ≡ c.set.new.self = sym c.set.ensures in
    record {
      same = ap length c.set.ensures ∙ (simp length-set c.loop-at.invariant.same);
      within = omega arith;
      row = subst (λ xs. AreSubtrees xs (reverse c.push-in-loop-at.new.self) n.0 (length xs)) others
          (subst (λ ps. AreSubtrees (slice_set nodes n.0 x) ps n.0 (length (slice_set nodes n.0 x))) (sym first) (one_more nodes x n rest within before));
    }
