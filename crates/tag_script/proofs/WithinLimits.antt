-- What passes the test of limits is within them.
use Rattle.std.proofs.Common.{◌≡◌, Bool, true, false, nat_lt, ◌||◌, if◌then◌else◌, Option, Some, None, Ok, rules, refl, sym, subst}
use Rattle.std.proofs.lemmas.Bool.{or_parts, ltb-false}
use Rattle.script_value.specs.declared.value.Value.{Value, the_lemmas}
use Rattle.script_value.specs.declared.value.Value.TheVariants as v
use Rattle.script_value.specs.declared.limits.Limit.{Limit}
use Rattle.script_value.specs.Limits.{first_limit, IsWithinLimits}
use Rattle.vg_base.specs.Limits as most
use Rattle.script_value.specs.Measures.{held, text_bytes, longest_text, depth}
use Rattle.tag_script.specs.Outcomes.{tested, within}

passes : (b : Bool) (l : Limit) (rest : Option Limit) → (if b then Some l else rest) ≡ None → (b ≡ false) × (rest ≡ None)
passes true l rest e = absurd (cc)
passes false l rest e = (refl, e)

none_passed : (value : Value) → first_limit value ≡ None → IsWithinLimits value
none_passed value e =
    let first = passes (nat_lt most.string_bytes (longest_text value)) _ _ e in
    let second = passes (nat_lt most.values (held value) || nat_lt most.value_bytes (text_bytes value)) _ _ first.1 in
    let third = passes (nat_lt most.value_depth (depth value)) _ _ second.1 in
    let wide = or_parts (nat_lt most.values (held value)) _ second.0 in
    record { texts = ltb-false _ _ first.0; values = ltb-false _ _ wide.0; bytes = ltb-false _ _ wide.1; deep = ltb-false _ _ third.0 }

passed : (value kept : Value) (limit : Option Limit) → limit ≡ first_limit value → within value limit ≡ Ok kept → (value ≡ kept) × IsWithinLimits value
passed value kept None is e = (cc, none_passed value (sym is))
passed value kept (Some l) is e = absurd (cc)

pub kept_within : (value kept : Value) → tested value ≡ Ok kept → IsWithinLimits kept
kept_within value kept e = let p = passed value kept (first_limit value) refl e in subst IsWithinLimits p.0 p.1

pub null_within : IsWithinLimits v.Null
null_within = none_passed v.Null (search (rules, the_lemmas))
