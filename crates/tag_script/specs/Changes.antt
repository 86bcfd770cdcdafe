-- What an assignment makes of a value: the steps of its target are walked, and the last one sets a part.
use Rattle.std.specs.Prelude.{ℕ, ℤ, pos, negsuc, nat_lt, ◌==◌, List, [], ◌∷◌, ◌++◌, length, slice_set, if◌then◌else◌, Option, Some, None, option_and_then, Ok, Err}
use Rattle.vg_base.specs.Pairs.{find, put}
use Rattle.script_value.specs.declared.value.Value.{Value, out-Value}
use Rattle.script_value.specs.declared.value.Value.TheVariants as v
use Rattle.script_value.specs.declared.value.Value.TheOpen.{Value-F}
use Rattle.tag_script.specs.declared.step.Step.{Step}
use Rattle.tag_script.specs.declared.step.Step.TheVariants as step
use Rattle.tag_script.specs.declared.tag_kind.TagKind.TheVariants as tag
use Rattle.tag_script.specs.Outcomes.{Outcome, and_then, or_fault}
use Rattle.script_value.specs.Parts.{item_of_level}
use Rattle.tag_script.specs.Operators.{Opened, number_of}
use Rattle.tag_script.specs.Parts.{key_of}

-- the key that a step names in a record, and the number that it names in a list
abbrev pub key_of_step : Step → Option (List ℕ)
key_of_step (step.Word word) = Some word
key_of_step (step.Index index) = key_of (out-Value index)

abbrev pub number_of_step : Step → Option ℤ
number_of_step (step.Word word) = None
number_of_step (step.Index index) = number_of (out-Value index)

-- ---- the last step

-- an item below the list's length is set, and one at its length is appended
abbrev pub with_item : List Value → ℤ → Value → Outcome Value
with_item items (negsuc n) new = Err tag.Range
with_item items (pos n) new =
    if nat_lt n (length items) then Ok (v.List (slice_set items n new))
    else (if n == length items then Ok (v.List (items ++ new ∷ [])) else Err tag.Range)

-- a member of a record is set or made
abbrev pub with_part : Step → Value → Opened → Outcome Value
with_part s new (Value-F.Record members) = and_then (or_fault tag.Kind (key_of_step s)) (λ key. Ok (v.Record (put key new members)))
with_part s new (Value-F.List items) = and_then (or_fault tag.Kind (number_of_step s)) (λ n. with_item items n new)
with_part s new x = Err tag.Kind

-- ---- the steps before it

-- what a step reaches, which must be there
abbrev pub reached : Step → Opened → Outcome Value
reached s (Value-F.Record members) = or_fault tag.Kind (option_and_then (λ key. find key members) (key_of_step s))
reached s (Value-F.List items) = or_fault tag.Kind (option_and_then (λ n. item_of_level n (Value-F.List items)) (number_of_step s))
reached s x = Err tag.Kind

-- the value with `new` behind these steps
abbrev pub walked : Step → List Step → Value → Value → Outcome Value
walked s [] new old = with_part s new (out-Value old)
walked s (next ∷ more) new old =
    and_then (reached s (out-Value old)) (λ inner. and_then (walked next more new inner) (λ changed. with_part s changed (out-Value old)))

-- the same of the member at a key, and of the item at a number
abbrev pub walked_member : List (List ℕ × Value) → List ℕ → Step → List Step → Value → Outcome Value
walked_member members key next more new =
    and_then (or_fault tag.Kind (find key members)) (λ inner. and_then (walked next more new inner) (λ changed. Ok (v.Record (put key changed members))))

abbrev pub walked_item : List Value → ℤ → Step → List Step → Value → Outcome Value
walked_item items n next more new =
    and_then (or_fault tag.Kind (item_of_level n (Value-F.List items))) (λ inner. and_then (walked next more new inner) (λ changed. with_item items n changed))

-- the root with `new` behind the steps of a target; with steps it must be there
abbrev pub changed : List Step → Value → Option Value → Outcome Value
changed [] new old = Ok new
changed (s ∷ more) new None = Err tag.Kind
changed (s ∷ more) new (Some old) = walked s more new old
