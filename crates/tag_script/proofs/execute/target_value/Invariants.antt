use Rattle.std.proofs.Common.{◌≡◌}
use Rattle.std.specs.Prelude.{drop}
use Rattle.tag_script.specs.declared.tag_kind.TagKind.TheVariants as tag
use Rattle.tag_script.specs.Execution as spec
use Rattle.tag_script.specs.Outcomes.{and_then, or_fault}
use Rattle.tag_script.specs.code.Seen.{seen}
use Rattle.tag_script.proofs.execute.target_value.Given as goal

-- the rest of the path, from what was seen, gives what the whole path gives
abbrev pub invariant-loop-step : goal.invariant-loop-step
invariant-loop-step l = spec.read (drop l.step-index l.path) (seen l.seen) ≡ and_then (or_fault tag.Unknown (spec.at_root l.root l.env)) (spec.read l.path)
