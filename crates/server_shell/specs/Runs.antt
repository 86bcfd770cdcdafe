-- A run over batches: a fold that is generic in what one batch's replies have to be, and in what
-- stands after them.
use Rattle.std.specs.Prelude.{◌≡◌, List, [], ◌∷◌, ◌++◌}

-- Batches answered one after another, from a state to a state. `answers s b now` says which replies
-- batch b may have at state s; `after s b now` is what stands then. The state is a function of the
-- batches and their replies, never a choice.
abbrev pub Runs : {S B R : Type 0} → (S → B → List R → Type 0) → (S → B → List R → S)
    → S → List B → List R → S → Type 0
Runs answers after s [] replies t = (replies ≡ []) × (t ≡ s)
Runs {S} {B} {R} answers after s (b ∷ bs) replies t =
    (now later : List R) × (replies ≡ now ++ later) × answers s b now
    × Runs answers after (after s b now) bs later t
