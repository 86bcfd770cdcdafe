use Rattle.std.proofs.Common.{ℕ, ◌≡◌, List, length, arith, ap, ◌∙◌, subst}
use Rattle.std.specs.declared.cmp.Ordering.{Ordering}
use Rattle.std.specs.declared.cmp.Ordering.TheVariants.{Equal}
use Rattle.std.specs.Ordering.{nat_cmp}
use Rattle.grammar_tree.specs.declared.parse_tree.ParseTree.{ParseTree}
use Rattle.grammar_tree.specs.Comparing.{ComparesTrees, ComparesFronts}
use Rattle.grammar_tree.proofs.Lockstep.{decided_itself, fronts_end, compares_Seq, compares_Rep, compares_Alt, compares_Rule, compares_Garbage}
use Rattle.grammar_tree.proofs.comparing.+compare.Goals as goal

fronts : (xs ys ts us : List ParseTree) (o : Ordering) → xs ≡ ts → ys ≡ us → ComparesFronts xs ys o → ComparesFronts ts us o
fronts xs ys ts us o e f h = subst (λ k. ComparesFronts k us o) e (subst (λ k. ComparesFronts xs k o) f h)

trees : (x y t u : ParseTree) (o : Ordering) → x ≡ t → y ≡ u → ComparesTrees x y o → ComparesTrees t u o
trees x y t u o e f h = subst (λ k. ComparesTrees k u o) e (subst (λ k. ComparesTrees x k o) f h)

lengths : (a b m n : ℕ) (o : Ordering) → o ≡ nat_cmp a b → a ≡ m → b ≡ n → o ≡ nat_cmp m n
lengths a b m n o e p q = e ∙ ap (λ k. nat_cmp k b) p ∙ ap (nat_cmp m) q

pub compare-returns-in-Seq-other : goal.compare-returns-in-Seq-other
compare-returns-in-Seq-other t c =
    compares_Seq c.args.one.now c.args.other.now c.in-Seq.own c.in-Seq-other.others c.compare_fronts.result c.in-Seq.is c.in-Seq-other.is
    (fronts _ _ c.in-Seq.own c.in-Seq-other.others c.compare_fronts.result c.as_slice.ensures c.as_slice-in-Seq-other.ensures c.compare_fronts.ensures)

pub compare-returns-then-taken-other_taken : goal.compare-returns-then-taken-other_taken
compare-returns-then-taken-other_taken t c =
    compares_Alt c.args.one.now c.args.other.now c.in-Alt.taken c.in-Alt-other.other_taken c.in-Alt.inner c.in-Alt-other.other_inner c.compare.result c.in-Alt.is c.in-Alt-other.is c.if-taken-other_taken.true
    (trees _ _ c.in-Alt.inner c.in-Alt-other.other_inner c.compare.result c.get.ensures c.get-then-taken-other_taken.ensures c.compare.ensures)

pub compare-returns-in-Rule-other : goal.compare-returns-in-Rule-other
compare-returns-in-Rule-other t c =
    compares_Rule c.args.one.now c.args.other.now c.in-Rule.rule c.in-Rule-other.rule c.in-Rule.inner c.in-Rule-other.other_inner c.compare-in-Rule-other.result c.in-Rule.is c.in-Rule-other.is
    (trees _ _ c.in-Rule.inner c.in-Rule-other.other_inner c.compare-in-Rule-other.result c.get-in-Rule-other.ensures c.get-in-Rule-other-2.ensures c.compare-in-Rule-other.ensures)

pub compare-returns-in-Equal : goal.compare-returns-in-Equal
compare-returns-in-Equal t c =
    compares_Rep c.args.one.now c.args.other.now c.in-Rep.own c.in-Rep-other.others Equal c.cmp-in-Equal.result c.in-Rep.is c.in-Rep-other.is
    (fronts _ _ c.in-Rep.own c.in-Rep-other.others Equal c.as_slice-in-Rep-other.ensures c.as_slice-in-Rep-other-2.ensures c.in-Equal.ensures)
    (lengths _ _ _ _ c.cmp-in-Equal.result c.cmp-in-Equal.ensures c.len.ensures c.len-in-Equal.ensures)

pub compare-returns-in_default-compare_fronts : goal.compare-returns-in_default-compare_fronts
compare-returns-in_default-compare_fronts t c =
    let o = c.compare_fronts-in-Rep-other.result in
    compares_Rep c.args.one.now c.args.other.now c.in-Rep.own c.in-Rep-other.others o o c.in-Rep.is c.in-Rep-other.is
    (fronts _ _ c.in-Rep.own c.in-Rep-other.others o c.as_slice-in-Rep-other.ensures c.as_slice-in-Rep-other-2.ensures c.compare_fronts-in-Rep-other.ensures)
    (decided_itself o (length c.in-Rep.own) (length c.in-Rep-other.others) c.in_default-compare_fronts.not-Equal)

pub compare-returns-in-Garbage-other : goal.compare-returns-in-Garbage-other
compare-returns-in-Garbage-other t c =
    compares_Garbage c.args.one.now c.args.other.now c.in-Garbage.own c.in-Garbage-other.others c.cmp-in-Garbage-other.result c.in-Garbage.is c.in-Garbage-other.is
    (lengths _ _ _ _ c.cmp-in-Garbage-other.result c.cmp-in-Garbage-other.ensures c.len-in-Garbage-other.ensures c.len-in-Garbage-other-2.ensures)

pub compare_fronts-returns : goal.compare_fronts-returns
compare_fronts-returns t c = c.loop-k.invariant Equal (fronts_end c.args.own.now c.args.others.now c.loop-k.k (omega (arith, c.min-shared.ensures)))
