use Rattle.std.proofs.Common.{◌≡◌, []}
use Rattle.std.specs.Prelude.{drop}
use Rattle.tag_script.specs.Execution as spec
use Rattle.tag_script.proofs.execute.steps.Given as goal

-- the rest of the keys, behind the steps so far, gives what all of them give
abbrev pub invariant-loop-key : goal.invariant-loop-key
invariant-loop-key l = spec.steps (drop l.key-index l.keys) l.env l.path ≡ spec.steps l.keys l.env []
