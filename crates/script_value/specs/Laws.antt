-- What JSON tells of the value that it shows, and how values are measured in parts.
use Rattle.std.specs.Prelude.{◌≡◌, ◌≤◌, ℕ, List, [], ◌∷◌, ◌++◌, None}
use Rattle.serde_json.specs.Written.{compact_text}
use Rattle.script_value.specs.declared.value.Value.{Value}
use Rattle.script_value.specs.declared.value.Value.TheVariants as v
use Rattle.script_value.specs.Json.{json}
use Rattle.script_value.specs.Kept.{IsKept}
use Rattle.script_value.specs.Limits.{first_limit, limit_of}
use Rattle.script_value.specs.Measures.{depth, measures, of_items, of_members, both, with_key, around}
use Rattle.vg_base.specs.Pairs.{find, put}

-- values with one JSON are one
abbrev pub JsonTellsValues : Type 0
JsonTellsValues = (this that : Value) → IsKept this → IsKept that → json this ≡ json that → this ≡ that

-- values with one text are one, at twice the depth that scripts may give
abbrev pub TextsTellValues : Type 0
TextsTellValues = (this that : Value) → IsKept this → IsKept that → depth this ≤ 128 → depth that ≤ 128
    → compact_text (json this) ≡ compact_text (json that) → this ≡ that

-- a list measures what its items do, one after another
pub record ListsAreMeasured : Type 0 where
  pub more : (items : List Value) (item : Value) → both (of_items items) (measures item) ≡ of_items (items ++ item ∷ [])
  pub whole : (items : List Value) → around (of_items items) ≡ measures (v.List items)

-- a record measures what its members do, in whatever order they are put
pub record RecordsAreMeasured : Type 0 where
  pub more : (key : List ℕ) (member : Value) (members : List (List ℕ × Value)) → find key members ≡ None
      → both (with_key key (of_members members)) (measures member) ≡ of_members (put key member members)
  pub whole : (members : List (List ℕ × Value)) → around (of_members members) ≡ measures (v.Record members)

-- the measures of a value tell the first limit that it passes
abbrev pub MeasuresTellLimits : Type 0
MeasuresTellLimits = (value : Value) → limit_of (measures value) ≡ first_limit value
