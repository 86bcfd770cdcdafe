use Rattle.std.proofs.Common.{◌≡◌, sym, ◌∙◌, ap}
use Rattle.rule_reader.specs.code.Numbers.{only}
use Rattle.rule_reader.proofs.DecimalLemmas.{not_only}
use Rattle.rule_reader.proofs.decimal.only_word.Goals as goal

pub returns : goal.returns
returns c = λ word. not_only c.in_ok-words.words c.args.text.now word (ap only (sym c.as_slice.ensures) ∙ sym c.in-None.ensures) c.in_ok-words.ensures
