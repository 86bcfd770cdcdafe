-- The law of a sound state at its end.
use Rattle.build_core.specs.Rows.{ByRows}
use Rattle.build_core.proofs.Ends.{done_is_closure}
use Rattle.build_core.proofs.laws.done_is_closure.Goals as goal

pub returns : goal.returns
returns c = λ rows entries docs s end. done_is_closure (ByRows rows) entries docs s end
