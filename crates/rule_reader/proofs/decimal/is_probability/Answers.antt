use Rattle.std.proofs.Common.{◌≡◌, ◌⊎◌, ℕ, List, [], ◌∷◌, sym, subst}
use Rattle.token_forms.specs.Words.{AreWords}
use Rattle.rule_reader.specs.Numbers.{IsDecimal}
use Rattle.rule_reader.proofs.DecimalLemmas.{no_number, chance_decided}
use Rattle.rule_reader.proofs.decimal.is_probability.Goals as goal

pub returns-in_default : goal.returns-in_default
returns-in_default c = λ p. (rw c.in_default.is at c.in_ok-word.ensures) p.2.0 p.2.1

pub returns-in-Some-decimal_of : goal.returns-in-Some-decimal_of
returns-in-Some-decimal_of c =
    chance_decided c.args.text.now c.as_slice.result.now c.in-Some-decimal_of.decimal.whole.now c.in-Some-decimal_of.decimal.behind.now
    (subst (λ (v : List ℕ). AreWords (v ∷ []) c.args.text.now) (sym c.as_slice.ensures.value) (rw c.in-Some.is at c.in_ok-word.ensures)) c.in-Some-decimal_of.ensures c.is_at_most_one.result c.is_at_most_one.ensures

pub returns : goal.returns
returns c =
    no_number c.args.text.now c.as_slice.result.now
    (subst (λ (v : List ℕ). AreWords (v ∷ []) c.args.text.now) (sym c.as_slice.ensures.value) (rw c.in-Some.is at c.in_ok-word.ensures)) c.in-None.ensures
