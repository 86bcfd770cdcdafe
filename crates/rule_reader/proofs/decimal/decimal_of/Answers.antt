use Rattle.std.proofs.Common.{◌≡◌, ◌≢◌, ℕ, List, [], ◌++◌, Some, sym, ◌∙◌, ap, subst}
use Rattle.rule_reader.specs.Numbers.{IsDecimal}
use Rattle.rule_reader.specs.code.Numbers.{digits, dotted}
use Rattle.rule_reader.proofs.DecimalLemmas.{decimal_is, no_decimal, no_digit}
use Rattle.rule_reader.proofs.decimal.decimal_of.Goals as goal

pub returns-in_default : goal.returns-in_default
returns-in_default c = λ whole behind. no_decimal c.args.text.now whole behind (ap dotted (sym c.behind_digits.ensures) ∙ sym c.in_default.ensures)

pub returns-then-are_empty : goal.returns-then-are_empty
returns-then-are_empty c = λ whole behind.
    no_digit c.args.text.now whole behind c.in-Some.behind.now (ap dotted (sym c.behind_digits.ensures) ∙ sym c.in-Some.ensures)
    (ap (λ (w : List ℕ). w ++ c.in-Some.behind.now) (sym c.digits-whole.ensures) ∙ c.if-are_empty.ensures)

pub returns-else-are_empty : goal.returns-else-are_empty
returns-else-are_empty c =
    subst (λ (w : List ℕ). IsDecimal c.args.text.now w c.in-Some.behind.now) (sym c.digits-whole.ensures)
    (decimal_is c.args.text.now c.in-Some.behind.now (ap dotted (sym c.behind_digits.ensures) ∙ sym c.in-Some.ensures)
    (subst (λ (w : List ℕ). w ++ c.in-Some.behind.now ≢ []) c.digits-whole.ensures c.if-are_empty.ensures))
