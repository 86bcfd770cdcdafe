-- What std says of prefixes, in the words of lists.
use Rattle.server_shell.proofs.first_form_lemmas.Stripped.{stripped}
use Rattle.server_shell.proofs.first_form.form.strip.Goals as goal

pub returns : goal.returns
returns c = stripped c.args.text.now c.args.front.now c.strip_prefix.result
    c.strip_prefix.ensures.cases
