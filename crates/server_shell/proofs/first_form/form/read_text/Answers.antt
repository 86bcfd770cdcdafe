-- Behind the head stands a rule, or the text is not of the form.
use Rattle.server_shell.proofs.first_form_lemmas.Formed.{text-read}
use Rattle.server_shell.proofs.first_form.form.read_text.Goals as goal

pub returns-in-Some : goal.returns-in-Some
returns-in-Some c =
    text-read c.args.text.now c.in-Some.rest.now c.in-Some.ensures c.read_rule.result
    c.read_rule.ensures

pub returns-in-None : goal.returns-in-None
returns-in-None c = λ name alternatives s. c.in-None.ensures s.rest s.cut
