use Rattle.std.proofs.Common.{◌≡◌, ℕ, ◌+◌, Option, Some, None, ap, refl, sym, ◌∙◌, subst}
use Rattle.std.specs.Option.{is_some}
use mir.Val.{bool_byte}
use Rattle.token_forms.proofs.KeyLemmas.{SoMany, flagged, many_more}
use Rattle.token_forms.proofs.keys.unspelled.Goals as goal

is_flagged : (key : Option ℕ) → flagged key ≡ bool_byte (is_some key)
is_flagged None = refl
is_flagged (Some key) = refl

pub loop-key-preserved : goal.loop-key-preserved
loop-key-preserved c =
    let count = is_flagged c.in-Some.key ∙ (ap bool_byte (sym c.is_some.ensures) ∙ sym c.from-number.ensures) in
    subst (λ n. SoMany c.args.text.now (c.loop-key.number + n) c.in-Some.after.now) count
    (many_more c.args.text.now c.loop-key.number c.loop-key.rest.now c.in-Some.after.now c.in-Some.key c.loop-key.invariant c.in-Some.ensures.sign)
