use Rattle.std.proofs.Common.{◌∙◌, ap, refl, nat_eq, arith}
use Rattle.std.proofs.lemmas.List.{ext_get_or}
use Rattle.std.specs.Cmp.Lexicographic.{pointwise}
use Rattle.grammar_tree.specs.declared.parse_tree.ParseTree.TheVariants as tree
use Rattle.grammar_tree.proofs.LeavesAlike.{same_Token, same_Garbage, leaves_same}
use Rattle.grammar_tree.proofs.sameness.+is_same.Goals as goal

pub is_same-returns-in-Token-other : goal.is_same-returns-in-Token-other
is_same-returns-in-Token-other t c =
    leaves_same tree.Token same_Token c.args.one.now c.args.other.now c.in-Token.own c.in-Token-other.others c.eq.result c.in-Token.is c.in-Token-other.is
    (c.eq.ensures ∙ ap (λ ws. pointwise (pointwise nat_eq) ws c.as_slice-in-Token-other.result.now) c.as_slice.ensures
    ∙ ap (pointwise (pointwise nat_eq) c.in-Token.own) c.as_slice-in-Token-other.ensures)

pub is_same-returns-in-Garbage-other : goal.is_same-returns-in-Garbage-other
is_same-returns-in-Garbage-other t c =
    leaves_same tree.Garbage same_Garbage c.args.one.now c.args.other.now c.in-Garbage.own c.in-Garbage-other.others c.eq-in-Garbage-other.result c.in-Garbage.is c.in-Garbage-other.is
    (c.eq-in-Garbage-other.ensures ∙ ap (λ ws. pointwise (pointwise nat_eq) ws c.as_slice-in-Garbage-other-2.result.now) c.as_slice-in-Garbage-other.ensures
    ∙ ap (pointwise (pointwise nat_eq) c.in-Garbage.own) c.as_slice-in-Garbage-other-2.ensures)

pub are_same-returns : goal.are_same-returns
are_same-returns t c = (
  λ yes.
      ext_get_or tree.Null c.args.own.now c.args.others.now (omega (arith, c.if-own-others.false))
      (λ i lt. c.loop-k.invariant i tree.Null (omega (arith, lt, c.loop-k-test.false))),
  λ same. refl,
)
