use Rattle.std.proofs.Common.{Option, ℕ, Some, subst}
use Rattle.token_forms.specs.code.Taken.{TakesSign}
use Rattle.token_forms.proofs.KeyLemmas.{key_more, space_more}
use Rattle.token_forms.proofs.keys.spelled.Goals as goal

pub loop-key-preserved-in_ok-push : goal.loop-key-preserved-in_ok-push
loop-key-preserved-in_ok-push c =
    let P : Option ℕ → Type 0 = λ key. TakesSign c.loop-key.rest.now key c.in-Some.after.now in
    let t : P (Some c.in-Some-key.key) = subst P c.in-Some-key.is c.in-Some.ensures.sign in
    rw (c.in_ok-push.ensures.ok, c.in_ok-word_of.ensures) (key_more c.args.text.now c.loop-key.keys c.loop-key.rest.now c.in-Some.after.now c.loop-key.invariant c.in-Some-key.key t)

pub loop-key-preserved : goal.loop-key-preserved
loop-key-preserved c =
    let P : Option ℕ → Type 0 = λ key. TakesSign c.loop-key.rest.now key c.in-Some.after.now in
    space_more c.args.text.now c.loop-key.keys c.loop-key.rest.now c.in-Some.after.now c.loop-key.invariant (subst P c.in_default-key.is c.in-Some.ensures.sign)
