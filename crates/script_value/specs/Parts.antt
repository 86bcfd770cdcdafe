-- The parts of a value.
use Rattle.std.specs.Prelude.{ℕ, ℤ, pos, negsuc, List, slice_get, Option, None}
use Rattle.vg_base.specs.Pairs.{find}
use Rattle.script_value.specs.declared.value.Value.{Value, out-Value}
use Rattle.script_value.specs.declared.value.Value.TheOpen.{Value-F}

abbrev pub member_of_level : List ℕ → Value-F Value → Option Value
member_of_level key (Value-F.Record members) = find key members
member_of_level key other = None

-- the member of a record at a key
abbrev pub member : List ℕ → Value → Option Value
member key value = member_of_level key (out-Value value)

abbrev pub item_of_level : ℤ → Value-F Value → Option Value
item_of_level (pos n) (Value-F.List values) = slice_get values n
item_of_level (pos n) other = None
item_of_level (negsuc n) value = None

-- the item of a list at a number, counted from 0
abbrev pub item : ℤ → Value → Option Value
item number value = item_of_level number (out-Value value)
