use Rattle.std.proofs.Common.{length, arith}
use Rattle.build_core.specs.Rows.{ByRows}
use Rattle.build_core.specs.Core.{after_all}
use Rattle.build_core.proofs.Ends.{opening_sound, run_keeps, spent_few, length_after_all, done_is_closure}
use Rattle.build_core.proofs.Once.{claimed_once}
use Rattle.build_core.proofs.laws.every_run.Goals as goal

pub returns-clause-claimed_once : goal.returns-clause-claimed_once
returns-clause-claimed_once c = λ rows entries core events o r. claimed_once (ByRows rows) core events r

pub returns-clause-few : goal.returns-clause-few
returns-clause-few c = λ rows entries core events o r. omega (arith, spent_few (ByRows rows) core events r, length_after_all core events, o.sized)

pub returns-clause-sound : goal.returns-clause-sound
returns-clause-sound c = λ rows entries core events o r. run_keeps (ByRows rows) entries core events r (opening_sound (ByRows rows) (length rows) entries core.docs o)

pub returns-clause-closure : goal.returns-clause-closure
returns-clause-closure c = λ rows entries core events o r end.
    done_is_closure (ByRows rows) entries (after_all core events).docs (run_keeps (ByRows rows) entries core events r (opening_sound (ByRows rows) (length rows) entries core.docs o)) end
