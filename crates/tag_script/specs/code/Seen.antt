-- The value that an expression gives, lent or made.
use Rattle.std.specs.Prelude.{◌≡◌, Result, Ok, Err}
use Rattle.script_value.specs.declared.value.Value.{Value}
use Rattle.tag_script.specs.declared.seen.Seen.{Seen}
use Rattle.tag_script.specs.declared.seen.Seen.TheVariants as s
use Rattle.vg_base.specs.declared.refused.Refused.{Refused}
use Rattle.vg_base.specs.declared.refused.Refused.TheVariants as refused
use Rattle.tag_script.specs.declared.tag_kind.TagKind.{TagKind}
use Rattle.tag_script.specs.Outcomes.{Outcome, tested}

abbrev pub seen : Seen → Value
seen (s.Lent value) = value.now
seen (s.Made value) = value

-- an evaluation's answer is this outcome; want of memory is free
abbrev pub Shows : Result Seen (Refused TagKind) → Outcome Value → Type 0
Shows (Ok x) outcome = outcome ≡ Ok (seen x)
Shows (Err (refused.Fault fault)) outcome = outcome ≡ Err fault
Shows (Err refused.Memory) outcome = Unit {0}

-- the value is known to be within the limits of values
abbrev pub IsTested : Value → Type 0
IsTested x = tested x ≡ Ok x
