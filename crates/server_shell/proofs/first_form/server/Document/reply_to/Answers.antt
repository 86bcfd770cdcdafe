-- A document's text is of the form, so it is read.
use Rattle.std.proofs.Common.{sym, subst}
use Rattle.server_shell.specs.first_form.Forms.{SpellsForm}
use Rattle.server_shell.proofs.first_form.server.Document.reply_to.Goals as goal

pub unreachable-requires : goal.unreachable-requires
unreachable-requires c =
    let form = c.self.invariant in
    c.in_default.ensures form.name form.alternatives
    (subst (λ l. SpellsForm l form.name form.alternatives)
    (sym c.deref.ensures.value) form.spells)
