-- The limits of script values.
use Rattle.std.specs.Prelude.{◌≤◌, nat_lt, ◌||◌, if◌then◌else◌, Option, Some, None}
use Rattle.vg_base.specs.Limits as most
use Rattle.script_value.specs.declared.value.Value.{Value}
use Rattle.script_value.specs.declared.limits.Limit.{Limit}
use Rattle.script_value.specs.declared.limits.Limit.TheVariants.{TextLong, Wide, DeepValue}
use Rattle.script_value.specs.declared.measures.Measures.{Measures}
use Rattle.script_value.specs.Measures.{held, text_bytes, longest_text, depth}

pub record IsWithinLimits (value : Value) : Type 0 where
  pub texts : longest_text value ≤ most.string_bytes
  pub values : held value ≤ most.values
  pub bytes : text_bytes value ≤ most.value_bytes
  pub deep : depth value ≤ most.value_depth

-- the first limit that a value passes
abbrev pub first_limit : Value → Option Limit
first_limit value =
    if nat_lt most.string_bytes (longest_text value) then Some TextLong
    else if nat_lt most.values (held value) || nat_lt most.value_bytes (text_bytes value) then Some Wide
    else if nat_lt most.value_depth (depth value) then Some DeepValue
    else None

-- the same of a value that is so large
abbrev pub limit_of : Measures → Option Limit
limit_of large =
    if nat_lt most.string_bytes large.text then Some TextLong
    else if nat_lt most.values large.values || nat_lt most.value_bytes large.bytes then Some Wide
    else if nat_lt most.value_depth large.depth then Some DeepValue
    else None
