-- What is reached by edges, also by none.
use Rattle.std.specs.Prelude.{ℕ}
use Rattle.graph_cycles.specs.Graphs.{Rows, LeadsTo}

pub data Reaches (rows : Rows) : ℕ → ℕ → Type 0 where
  here : {x : ℕ} → Reaches rows x x
  onward : {x y z : ℕ} → LeadsTo rows x y → Reaches rows y z → Reaches rows x z
