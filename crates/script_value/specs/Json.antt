-- The JSON of a script's value.
use Rattle.std.specs.Prelude.{ℕ, List, [], ◌∷◌, map}
use Rattle.std.specs.Str.{encode_utf8_all}
use Rattle.serde_json.specs.Data.{Data, null, boolean, number, string, array, object, Items, Members, no_members, put}
use Rattle.serde_json.specs.Find.{of_integer}
use Rattle.serde_json.specs.View.{items_of}
use Rattle.script_value.specs.declared.value.Value.{Value, fold-Value}
use Rattle.script_value.specs.declared.value.Value.TheOpen.{Value-F}

-- an object's members, with these put to it one after another: they stand in the order of their keys' bytes
abbrev pub put_all : Members → List (List ℕ × Data) → Members
put_all all [] = all
put_all all (m ∷ ms) = put_all (put (encode_utf8_all m.0) m.1 all) ms

-- one level, with the JSON of each inner value in its place
abbrev pub json_of_level : Value-F Data → Data
json_of_level Value-F.Null = null
json_of_level (Value-F.Truth truth) = boolean truth
json_of_level (Value-F.Number n) = number (of_integer n)
json_of_level (Value-F.Str text) = string (encode_utf8_all text)
json_of_level (Value-F.List values) = array (items_of values)
json_of_level (Value-F.Record members) = object (put_all no_members members)

abbrev pub json : Value → Data
json = fold-Value Data json_of_level

abbrev pub json_list : List Value → Items
json_list values = items_of (map json values)

-- each member's key with the JSON of its value
abbrev pub shown : List (List ℕ × Value) → List (List ℕ × Data)
shown members = map (λ m. (m.0, json m.1)) members

abbrev pub json_members : List (List ℕ × Value) → Members
json_members members = put_all no_members (shown members)
