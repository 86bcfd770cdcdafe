-- What values say as tests, and which are the same by `==`.
use Rattle.std.specs.Prelude.{pos, negsuc, nat_lt, nat_eq, Bool, true, false, not, if◌then◌else◌, length, Option, Some, None}
use Rattle.std.specs.Ordering.{int_eq}
use Rattle.std.specs.Cmp.Lexicographic.{pointwise}
use Rattle.script_value.specs.declared.value.Value.{Value, out-Value}
use Rattle.script_value.specs.declared.value.Value.TheOpen.{Value-F}

abbrev pub is_true_level : Value-F Value → Bool
is_true_level Value-F.Null = false
is_true_level (Value-F.Truth truth) = truth
is_true_level (Value-F.Number (pos n)) = nat_lt 0 n
is_true_level (Value-F.Number (negsuc n)) = true
is_true_level (Value-F.Str text) = nat_lt 0 (length text)
is_true_level (Value-F.List values) = true
is_true_level (Value-F.Record members) = true

-- all but false, 0, the empty string and null
abbrev pub is_true : Value → Bool
is_true value = is_true_level (out-Value value)

abbrev pub same_levels : Value-F Value → Value-F Value → Option Bool
same_levels Value-F.Null Value-F.Null = Some true
same_levels (Value-F.Truth this) (Value-F.Truth that) = Some (if this then that else not that)
same_levels (Value-F.Number this) (Value-F.Number that) = Some (int_eq this that)
same_levels (Value-F.Str this) (Value-F.Str that) = Some (pointwise nat_eq this that)
same_levels (Value-F.List these) (Value-F.List those) = None
same_levels (Value-F.Record these) (Value-F.Record those) = None
same_levels this that = Some false

-- `==`: values of one kind are the same where they are equal, values of two kinds never; two lists or two records have no answer
abbrev pub same : Value → Value → Option Bool
same this that = same_levels (out-Value this) (out-Value that)
