-- The parts of the text are alternatives where those of the rest are.
use Rattle.std.proofs.Common.{◌≡◌, length}
use Rattle.std.specs.List.{list_all}
use Rattle.server_shell.specs.first_form.Forms.{is_alternative, parts_of}
use Rattle.server_shell.proofs.first_form.form.are_alternatives.Given as goal

abbrev pub invariant-loop-part : goal.invariant-loop-part
invariant-loop-part l = list_all is_alternative (parts_of l.text) ≡ list_all is_alternative
    (parts_of l.rest)

abbrev pub decreases-loop-part : goal.decreases-loop-part
decreases-loop-part l = length l.rest
