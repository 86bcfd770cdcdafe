use Rattle.std.proofs.Common.{◌≡◌, List, [], Option, Some, None, refl, sym, subst}
use Rattle.abnf_lexer.specs.declared.lexemes.Spanned.{Spanned}
use Rattle.rule_reader.specs.DocumentFaults.{RootFaults}
use Rattle.rule_reader.specs.Meaning.{IsThere}
use Rattle.rule_reader.specs.code.Walks.{IsReadAs}
use Rattle.rule_reader.proofs.Told.{adds_none}
use Rattle.rule_reader.proofs.NamesRead.{root_read}
use Rattle.rule_reader.proofs.document.read_root.Goals as goal

pub returns-in_default : goal.returns-in_default
returns-in_default c = λ those kept.
    subst (λ (s : Option Spanned). IsReadAs (RootFaults c.args.text.now those s) (IsThere c.args.text.now s) c.args.found.now c.args.found.now None) (sym c.in_default.is)
    (record { faults = []; are = refl; adds = adds_none c.args.found.now; is = λ n. tt })

pub returns : goal.returns
returns c = λ those kept.
    subst (λ (s : Option Spanned). IsReadAs (RootFaults c.args.text.now those s) (IsThere c.args.text.now s) c.args.found.now c.tell.new.found (Some c.in_ok-root.root)) (sym c.in-Some.is)
    (root_read c.in-Some.span those c.args.names.now c.in_ok-root.ensures kept c.contains.ensures c.tell.ensures)
