-- The law is a lemma on the definitions.
use Rattle.server_shell.proofs.first_form_lemmas.OneReply.{told_input}
use Rattle.server_shell.proofs.first_form.laws.each_line_has_its_reply.Goals as goal

pub returns : goal.returns
returns c input replies answers = told_input input replies answers
