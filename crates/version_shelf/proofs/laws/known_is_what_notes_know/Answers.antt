-- From the note at a place to its pair, and back.
use Rattle.std.proofs.Common.{◌≡◌, ◌↔◌, ℕ, ◌+◌, List, subst}
use Rattle.std.specs.List.{Contains}
use Rattle.std.specs.declared.sync.Arc.{Arc}
use Rattle.std.specs.declared.alloc.Global.{Global}
use Rattle.once_cell.specs.declared.race.note.Note.{Note}
use Rattle.version_shelf.specs.Known.{KnowsAt, facts, known, values}
use Rattle.version_shelf.proofs.Knowing.{least, pair_at}
use Rattle.version_shelf.proofs.Values.{known_value, pair_of_value}
use Rattle.version_shelf.proofs.laws.known_is_what_notes_know.Goals as goal

note_and_pair : {V : Type 0} (notes : List (Note (Arc V Global))) (number k : ℕ) (x : V) → Contains (known number notes) (number + k, x) ↔ ((a : Arc V Global) × KnowsAt notes k a × (a.value ≡ x))
note_and_pair {V} notes number k x = (
  λ h. known_value (facts notes) k x (pair_at number (values (facts notes)) k x h),
  λ r. subst (λ (v : V). Contains (known number notes) (number + k, v)) r.2 (pair_of_value number (facts notes) k r.0 r.1),
)

pub returns-clause-pairs : goal.returns-clause-pairs
returns-clause-pairs g c = λ notes number k x. note_and_pair notes number k x

pub returns-clause-least : goal.returns-clause-least
returns-clause-least g c = λ notes number. least number (values (facts notes))
