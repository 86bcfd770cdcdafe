-- What an evaluation gives: a value, or the first fault.
use Rattle.std.specs.Prelude.{Result, Ok, Err, Option, Some, None}
use Rattle.script_value.specs.declared.value.Value.{Value}
use Rattle.script_value.specs.Limits.{first_limit}
use Rattle.script_value.specs.declared.limits.Limit.{Limit}
use Rattle.script_value.specs.declared.limits.Limit.TheVariants as limit
use Rattle.tag_script.specs.declared.tag_kind.TagKind.{TagKind}
use Rattle.tag_script.specs.declared.tag_kind.TagKind.TheVariants as tag

abbrev pub Outcome : Type 0 → Type 0
Outcome A = Result A TagKind

-- what follows goes on from the value; the first fault ends it
abbrev pub and_then : {A B : Type 0} → Outcome A → (A → Outcome B) → Outcome B
and_then (Ok x) next = next x
and_then (Err kind) next = Err kind

-- the value, or this fault where there is none
abbrev pub or_fault : {A : Type 0} → TagKind → Option A → Outcome A
or_fault fault None = Err fault
or_fault fault (Some x) = Ok x

abbrev pub fault_of : Limit → TagKind
fault_of limit.TextLong = tag.TextLong
fault_of limit.Wide = tag.Wide
fault_of limit.DeepValue = tag.DeepValue

abbrev pub within : Value → Option Limit → Outcome Value
within v None = Ok v
within v (Some l) = Err (fault_of l)

-- the value, where it is within the limits of values
abbrev pub tested : Value → Outcome Value
tested v = within v (first_limit v)
