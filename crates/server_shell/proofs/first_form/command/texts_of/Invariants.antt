-- Texts so far, and those to come.
use Rattle.std.proofs.Common.{◌≡◌, ◌++◌, drop, option_map}
use Rattle.serde_json.specs.View.{items_view}
use Rattle.server_shell.specs.first_form.Commands.{texts_of}
use Rattle.server_shell.proofs.first_form.command.texts_of.Given as goal

-- the texts of all the values are those so far and those of the rest
abbrev pub invariant-loop-value : goal.invariant-loop-value
invariant-loop-value l = texts_of (items_view l.values) ≡ option_map (λ ts. l.texts ++ ts)
    (texts_of (items_view (drop l.value-index l.values)))
