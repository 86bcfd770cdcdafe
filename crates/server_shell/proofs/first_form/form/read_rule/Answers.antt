-- What isn't cut as the form wants is no rule.
use Rattle.std.proofs.Common.{◌++◌, sym, subst}
use Rattle.server_shell.specs.first_form.Forms.{IsFormName}
use Rattle.server_shell.proofs.first_form_lemmas.Formed.{rule-cut, rule-again, rule-rest}
use Rattle.server_shell.proofs.first_form.form.read_rule.Goals as goal

pub returns-then-not-is_name : goal.returns-then-not-is_name
returns-then-not-is_name c = λ name alternatives s.
    let (is, tail) = rule-cut c.in-Some.ensures s in
    let h = c.if-not-is_name.ensures.1 (subst IsFormName (sym is) s.is_name) in
    cc

pub returns-in_default-strip : goal.returns-in_default-strip
returns-in_default-strip c = λ name alternatives s.
    let (is, tail) = rule-cut c.in-Some.ensures s in
    c.in_default-strip.ensures (name ++ s.rest) tail

pub returns-in_default-strip-2 : goal.returns-in_default-strip-2
returns-in_default-strip-2 c = λ name alternatives s.
    c.in_default-strip-2.ensures s.rest (rule-again c.in-Some.ensures c.in-Some-strip.ensures s)

pub returns-in-None : goal.returns-in-None
returns-in-None c = λ name alternatives s.
    c.in-None.ensures alternatives
    (rule-rest c.in-Some-strip-2.rest.now c.in-Some.ensures c.in-Some-strip.ensures
    c.in-Some-strip-2.ensures s)
