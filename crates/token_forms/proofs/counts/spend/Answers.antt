use Rattle.std.proofs.Common.{IsUtf8, not, ap, sym, ◌∙◌, subst}
use Rattle.std.specs.Str.{chars}
use Rattle.std.specs.Str.Iter.{chars_rest}
use Rattle.vg_base.proofs.Walk.{chars-turn, chars-end}
use Rattle.token_forms.proofs.CountLemmas.{Spent, begin, one_more, too_much, all_paid}
use Rattle.token_forms.proofs.counts.spend.Goals as goal

pub loop-c-init : goal.loop-c-init
loop-c-init c =
    let bytes = ap chars_rest c.into_iter-c-iterator.ensures.into_iter_gives ∙ c.chars-c-items.ensures.rest in
    record {
      utf8 = subst IsUtf8 (sym bytes) c.as_str.utf8;
      spent = subst (Spent c.args.most c.args.most c.args.text.now _) (sym (ap chars bytes ∙ c.as_str.ensures.characters)) (begin c.args.most c.args.text.now);
    }

pub loop-c-preserved : goal.loop-c-preserved
loop-c-preserved c =
    let turn = chars-turn c.loop-c.c-iterator c.next.new.self c.next.result c.in-Some.c c.loop-c.invariant.utf8 c.in-Some.is c.next.ensures.steps in
    let before = subst (Spent c.args.most c.loop-c.left c.args.text.now c.loop-c.in_word) turn.0 c.loop-c.invariant.spent in
    record {
      utf8 = turn.1;
      spent = one_more before c.in-Some-pay.after (not c.is_space-in_word.result) (ap not c.is_space-in_word.ensures) c.in-Some-pay.ensures.some.0 c.in-Some-pay.ensures.some.1;
    }

pub returns-in_default : goal.returns-in_default
returns-in_default c =
    let turn = chars-turn c.loop-c.c-iterator c.next.new.self c.next.result c.in-Some.c c.loop-c.invariant.utf8 c.in-Some.is c.next.ensures.steps in
    let before = subst (Spent c.args.most c.loop-c.left c.args.text.now c.loop-c.in_word) turn.0 c.loop-c.invariant.spent in
    λ words own. too_much before words own c.in_default.ensures.none

pub returns : goal.returns
returns c =
    let over = chars-end c.loop-c.c-iterator c.next.new.self c.next.result c.in-None.is c.next.ensures.steps in
    all_paid (subst (Spent c.args.most c.loop-c.left c.args.text.now c.loop-c.in_word) over c.loop-c.invariant.spent)
