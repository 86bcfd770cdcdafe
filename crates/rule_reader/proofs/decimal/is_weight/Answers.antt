use Rattle.std.proofs.Common.{◌≡◌, ℕ, List, [], ◌∷◌, sym, subst}
use Rattle.token_forms.specs.Words.{AreWords}
use Rattle.rule_reader.specs.Numbers.{IsDecimal}
use Rattle.rule_reader.proofs.DecimalLemmas.{no_weight}
use Rattle.rule_reader.proofs.decimal.is_weight.Goals as goal

pub returns-in_default : goal.returns-in_default
returns-in_default c = λ w. (rw c.in_default.is at c.in_ok-word.ensures) w.2.0 w.2.1

pub returns : goal.returns
returns c =
    no_weight c.args.text.now c.as_slice.result.now
    (subst (λ (v : List ℕ). AreWords (v ∷ []) c.args.text.now) (sym c.as_slice.ensures.value) (rw c.in-Some.is at c.in_ok-word.ensures)) c.in-None.ensures
