-- Parts of values that are read: `v.word` and `v[index]`.
use Rattle.std.specs.Prelude.{ℕ, pos, Bool, List, length, if◌then◌else◌, Option, Some, None, Ok, Err, codes, nat_eq}
use Rattle.std.specs.Cmp.Lexicographic.{pointwise}
use Rattle.std.specs.Fmt.{signed_decimal}
use Rattle.vg_base.specs.Pairs.{find}
use Rattle.script_value.specs.declared.value.Value.{Value, out-Value}
use Rattle.script_value.specs.declared.value.Value.TheVariants as v
use Rattle.script_value.specs.declared.value.Value.TheOpen.{Value-F}
use Rattle.script_value.specs.Parts.{item_of_level}
use Rattle.tag_script.specs.declared.step.Step.{Step}
use Rattle.tag_script.specs.declared.step.Step.TheVariants as step
use Rattle.tag_script.specs.declared.tag_kind.TagKind.TheVariants as tag
use Rattle.tag_script.specs.Outcomes.{Outcome}
use Rattle.tag_script.specs.Operators.{Opened, number}

-- what is there, or null
abbrev pub or_null : Option Value → Value
or_null None = v.Null
or_null (Some x) = x

abbrev pub is_length : List ℕ → Bool
is_length word = pointwise nat_eq word (codes "length")

-- a record's member or null; the length of a list or a string
abbrev pub member : List ℕ → Opened → Outcome Value
member word (Value-F.Record members) = Ok (or_null (find word members))
member word (Value-F.List items) = if is_length word then number (pos (length items)) else Err tag.Kind
member word (Value-F.Str s) = if is_length word then number (pos (length s)) else Err tag.Kind
member word x = Err tag.Kind

-- the key that an index names in a record; a number's is its decimal text
abbrev pub key_of : Opened → Option (List ℕ)
key_of (Value-F.Str s) = Some s
key_of (Value-F.Number n) = Some (signed_decimal n)
key_of x = None

abbrev pub member_at : List (List ℕ × Value) → Option (List ℕ) → Outcome Value
member_at members None = Err tag.Kind
member_at members (Some key) = Ok (or_null (find key members))

-- an item of a list, or a member of a record, or null
abbrev pub indexed : Opened → Opened → Outcome Value
indexed (Value-F.List items) (Value-F.Number n) = Ok (or_null (item_of_level n (Value-F.List items)))
indexed (Value-F.Record members) index = member_at members (key_of index)
indexed x index = Err tag.Kind

abbrev pub part : Value → Step → Outcome Value
part x (step.Word word) = member word (out-Value x)
part x (step.Index index) = indexed (out-Value x) (out-Value index)
