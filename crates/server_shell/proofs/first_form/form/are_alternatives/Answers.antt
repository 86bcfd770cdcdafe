-- The first part is tested, and then those behind the bar.
use Rattle.std.proofs.Common.{◌&&◌, Bool, sym, ap, ◌∙◌}
use Rattle.std.specs.List.{list_all}
use Rattle.server_shell.specs.first_form.Forms.{is_alternative, parts_of}
use Rattle.server_shell.proofs.first_form_lemmas.Formed.{parts_of-at, parts_of-none, and-true_right}
use Rattle.server_shell.proofs.first_form.form.are_alternatives.Goals as goal

pub returns-then-not-is_alternative : goal.returns-then-not-is_alternative
returns-then-not-is_alternative c =
    ap (λ (b : Bool). b && list_all is_alternative (parts_of c.in-Some.behind.now))
    c.if-not-is_alternative.ensures
    ∙ sym (c.loop-part.invariant ∙ ap (list_all is_alternative) (parts_of-at c.in-Some.ensures))

pub loop-part-preserved : goal.loop-part-preserved
loop-part-preserved c =
    c.loop-part.invariant ∙ ap (list_all is_alternative) (parts_of-at c.in-Some.ensures)
    ∙ ap (λ (b : Bool). b && list_all is_alternative (parts_of c.in-Some.behind.now))
    (sym c.if-not-is_alternative.ensures)

pub returns : goal.returns
returns c =
    c.is_alternative-2.ensures
    ∙ sym (c.loop-part.invariant
    ∙ ap (list_all is_alternative) (parts_of-none c.loop-part.rest.now c.in_default.ensures)
    ∙ and-true_right _)
