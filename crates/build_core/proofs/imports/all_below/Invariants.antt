use Rattle.std.proofs.Common.{◌<◌, ℕ, length}
use Rattle.build_core.specs.Rows.{ByRows}
use Rattle.build_core.proofs.imports.all_below.Given as goal

abbrev pub invariant-loop-row : goal.invariant-loop-row
invariant-loop-row l = (x y : ℕ) → x < l.row-index → ByRows l.rows x y → y < length l.rows
