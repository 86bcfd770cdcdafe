use Rattle.std.proofs.Common.{Option, [], refl, subst}
use Rattle.abnf_lexer.specs.declared.lexemes.Spanned.{Spanned}
use Rattle.rule_reader.specs.DocumentFaults.{ArgumentFaults}
use Rattle.rule_reader.proofs.Told.{adds_none}
use Rattle.rule_reader.proofs.declarations.read_argument.Goals as goal

pub returns-in_default : goal.returns-in_default
returns-in_default c =
    record { faults = []; are = subst (λ (s : Option Spanned). ArgumentFaults c.args.text.now c.args.declaration.now.keyword s []) c.in_default.ensures refl; adds = adds_none c.args.found.now }
