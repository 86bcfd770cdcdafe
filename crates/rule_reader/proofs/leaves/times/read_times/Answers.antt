use Rattle.std.proofs.Common.{◌≡◌, ℕ, List, sym, subst, ◌∙◌}
use Rattle.abnf_lexer.specs.Repeats.{IsRepeat, most_of}
use Rattle.std.specs.Option.{option_copied}
use Rattle.rule_reader.proofs.Insides.{one_slice}
use Rattle.rule_reader.proofs.ReadTimes.{times_read}
use Rattle.rule_reader.proofs.leaves.times.read_times.Goals as goal

pub returns-in_default : goal.returns-in_default
returns-in_default c =
    let has = c.requires.has in
    let same = one_slice c.args.text.now c.args.span has.slice c.in_ok-slice.slice.items has.stands c.in_ok-slice.ensures ∙ sym c.as_slice.ensures.value in
    absurd (c.in_default.ensures c.requires.least c.requires.most c.requires.chance (subst (λ (s : List ℕ). IsRepeat s c.requires.least c.requires.most c.requires.chance) same has.is_repeat))

pub returns : goal.returns
returns c =
    times_read c.args.span
    (record { slice = c.in_ok-slice.slice.items; stands = c.in_ok-slice.ensures; is_repeat = subst (λ (s : List ℕ). IsRepeat s c.in-Some.repeat.least.now (most_of c.in-Some.repeat.most) (option_copied c.in-Some.repeat.chance)) c.as_slice.ensures.value c.in-Some.ensures })
    (record { order_is = c.is_out_of_order.ensures; large_is = c.is_too_large.ensures; good_is = c.in_ok-good.ensures })
    (c.tell.ensures, (c.tell-2.ensures, c.tell-3.ensures)) c.turns_of.ensures
