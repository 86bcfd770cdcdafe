-- A text that isn't read is not of the form.
use Rattle.std.proofs.Common.{sym, ◌∙◌, subst}
use Rattle.server_shell.specs.first_form.Forms.{SpellsForm}
use Rattle.server_shell.proofs.first_form.server.read_characters.Goals as goal

pub returns-in-None : goal.returns-in-None
returns-in-None c = λ form.
    c.in-None.ensures form.name form.alternatives
    (subst (λ l. SpellsForm l form.name form.alternatives)
    (sym (c.deref.ensures.value ∙ c.in_ok-characters.ensures)) form.spells)
