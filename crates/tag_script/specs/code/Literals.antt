-- Literals keep their parts while they fit, and from then on measure them alone.
use Rattle.std.specs.Prelude.{ℕ, ◌+◌, ◌==◌, Bool, false, is_none, Option, Some, None, List, [], ◌∷◌, ◌++◌, if◌then◌else◌, Ok}
use Rattle.script_value.specs.declared.value.Value.{Value}
use Rattle.script_value.specs.declared.value.Value.TheVariants as v
use Rattle.script_value.specs.declared.measures.Measures.{Measures}
use Rattle.script_value.specs.Measures.{measures, of_items, of_members, both, with_key, around, no_parts}
use Rattle.vg_base.specs.Pairs.{find, put}
use Rattle.script_value.specs.Limits.{limit_of}
use Rattle.tag_script.specs.declared.env.Env.{Env}
use Rattle.tag_script.specs.declared.literals.ListParts.{ListParts}
use Rattle.tag_script.specs.declared.literals.RecordParts.{RecordParts}
use Rattle.tag_script.specs.Outcomes.{Outcome, and_then, within}
use Rattle.tag_script.specs.Evaluation.{Meaning}

-- whether parts so large fit in one value
abbrev pub fit : Measures → Bool
fit parts = is_none (limit_of (around parts))

-- ---- lists

abbrev pub no_items : ListParts
no_items = record { values = []; measures = no_parts }

-- what is kept of these items
abbrev pub parts_of : List Value → ListParts
parts_of values = record { values = if fit (of_items values) then values else []; measures = of_items values }

abbrev pub with_item : ListParts → Value → ListParts
with_item parts x =
    let all = both parts.measures (measures x) in
    record { values = if fit all then parts.values ++ x ∷ [] else []; measures = all }

abbrev pub each_kept : List Meaning → Env → ListParts → Outcome ListParts
each_kept [] env parts = Ok parts
each_kept (e ∷ more) env parts = and_then (e env) (λ x. each_kept more env (with_item parts x))

abbrev pub list_of : ListParts → Outcome Value
list_of parts = within (v.List parts.values) (limit_of (around parts.measures))

-- ---- records

abbrev pub no_members : RecordParts
no_members = record { members = []; measures = no_parts }

-- what is kept of these members
abbrev pub members_of : List (List ℕ × Value) → RecordParts
members_of members = record { members = if fit (of_members members) then members else []; measures = of_members members }

abbrev pub with_member : List ℕ → Value → RecordParts → RecordParts
with_member key x parts =
    let all = both (with_key key parts.measures) (measures x) in
    record { members = if fit all then put key x parts.members else []; measures = all }

-- of equal keys only the last is kept
abbrev pub with_last : Bool → List ℕ → Value → RecordParts → RecordParts
with_last last key x parts = if last then with_member key x parts else parts

-- the number of the last pair of each key, put to those that are there
abbrev pub places : List (List ℕ) → ℕ → List (List ℕ × ℕ) → List (List ℕ × ℕ)
places [] at all = all
places (key ∷ more) at all = places more (at + 1) (put key at all)

abbrev pub is_at : Option ℕ → ℕ → Bool
is_at None at = false
is_at (Some last) at = last == at

abbrev pub members_kept : List (List ℕ × ℕ) → List (List ℕ × Meaning) → ℕ → Env → RecordParts → Outcome RecordParts
members_kept last [] at env parts = Ok parts
members_kept last (m ∷ more) at env parts =
    and_then (m.1 env) (λ x. members_kept last more (at + 1) env (with_last (is_at (find m.0 last) at) m.0 x parts))

abbrev pub record_of : RecordParts → Outcome Value
record_of parts = within (v.Record parts.members) (limit_of (around parts.measures))
