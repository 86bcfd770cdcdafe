-- A list's literal that keeps what fits gives what one that keeps all gives. `literal_gives` carries the clause of `evaluate_list`.
use Rattle.std.proofs.Common.{◌≡◌, ℕ, ◌+◌, ◌-◌, ◌^◌, ◌<◌, ◌≤◌, List, [], ◌∷◌, ◌++◌, Bool, true, false, nat_lt, ◌||◌, if◌then◌else◌, is_none, Option, Some, None, Ok, Err, refl, sym, ap, ap₂, ◌∙◌, arith}
use Rattle.std.proofs.lemmas.Bool.{or_parts}
use Rattle.std.proofs.lemmas.Bool.Decides.{nat_tests}
use Rattle.vg_base.specs.Limits as most
use Rattle.script_value.specs.declared.measures.Measures.{Measures}
use Rattle.script_value.specs.declared.limits.Limit.{Limit}
use Rattle.script_value.specs.declared.value.Value.{Value}
use Rattle.script_value.specs.declared.value.Value.TheVariants as v
use Rattle.script_value.specs.Limits.{limit_of}
use Rattle.script_value.specs.Measures.{capped, measures, of_items, both, around}
use Rattle.script_value.proofs.Together.{items-more, measures-List, limit-measures}
use Rattle.tag_script.specs.declared.env.Env.{Env}
use Rattle.tag_script.specs.declared.literals.ListParts.{ListParts}
use Rattle.tag_script.specs.Outcomes.{Outcome, and_then, within, tested}
use Rattle.tag_script.specs.Evaluation.{Meaning, each}
use Rattle.tag_script.specs.code.Literals.{fit, no_items, parts_of, with_item, each_kept, list_of}

-- ---- parts that don't fit don't fit with more

passes : (b : Bool) (l : Limit) (rest : Option Limit) → is_none (if b then Some l else rest) ≡ true → (b ≡ false) × (is_none rest ≡ true)
passes true l rest e = absurd (cc)
passes false l rest e = (refl, e)

let_by : (b : Bool) (l : Limit) (rest : Option Limit) → b ≡ false → is_none rest ≡ true → is_none (if b then Some l else rest) ≡ true
let_by true l rest e f = absurd (cc)
let_by false l rest e f = f

smaller : (limit n m : ℕ) → n ≤ m → nat_lt limit m ≡ false → nat_lt limit n ≡ false
smaller limit n m h e = grind (arith, nat_tests)

-- a sum that is counted up to the greatest number of 64 bits
smaller_sum : (limit n m : ℕ) → limit < 2 ^ 64 - 1 → nat_lt limit (capped (n + m)) ≡ false → nat_lt limit n ≡ false
smaller_sum limit n m low e = grind (arith, nat_tests)

neither : (a b : Bool) → a ≡ false → b ≡ false → (a || b) ≡ false
neither true b e f = absurd (cc)
neither false b e f = f

pub fit-fewer : (these more : Measures) → fit (both these more) ≡ true → fit these ≡ true
fit-fewer these more e =
    let all = around (both these more) in
    let few = around these in
    let texts = passes (nat_lt most.string_bytes all.text) _ _ e in
    let wide = passes (nat_lt most.values all.values || nat_lt most.value_bytes all.bytes) _ _ texts.1 in
    let deep = passes (nat_lt most.value_depth all.depth) _ _ wide.1 in
    let parts = or_parts (nat_lt most.values all.values) (nat_lt most.value_bytes all.bytes) wide.0 in
    let_by (nat_lt most.string_bytes few.text) _ _ (smaller most.string_bytes few.text all.text (omega arith) texts.0)
    (let_by (nat_lt most.values few.values || nat_lt most.value_bytes few.bytes) _ _
    (neither _ _ (smaller most.values few.values all.values (omega arith) parts.0) (smaller_sum most.value_bytes these.bytes more.bytes (omega arith) parts.1))
    (let_by (nat_lt most.value_depth few.depth) _ _ (smaller most.value_depth few.depth all.depth (omega arith) deep.0) refl))

pub fit-key : (bytes : ℕ) (these : Measures) → fit (record these { bytes = capped (these.bytes + bytes) }) ≡ true → fit these ≡ true
fit-key bytes these e =
    let few = around these in
    let texts = passes (nat_lt most.string_bytes few.text) _ _ e in
    let wide = passes (nat_lt most.values few.values || nat_lt most.value_bytes (capped (these.bytes + bytes))) _ _ texts.1 in
    let deep = passes (nat_lt most.value_depth few.depth) _ _ wide.1 in
    let parts = or_parts (nat_lt most.values few.values) (nat_lt most.value_bytes (capped (these.bytes + bytes))) wide.0 in
    let_by (nat_lt most.string_bytes few.text) _ _ texts.0
    (let_by (nat_lt most.values few.values || nat_lt most.value_bytes few.bytes) _ _
    (neither _ _ parts.0 (smaller_sum most.value_bytes these.bytes bytes (omega arith) parts.1))
    (let_by (nat_lt most.value_depth few.depth) _ _ deep.0 refl))

-- ---- one item more

abbrev kept : Bool → List Value → List Value
kept b values = if b then values else []

kept_more : (all before : Bool) (values : List Value) (x : Value) → (all ≡ true → before ≡ true) → kept all (kept before values ++ x ∷ []) ≡ kept all (values ++ x ∷ [])
kept_more false before values x h = refl
kept_more true true values x h = refl
kept_more true false values x h = absurd (let e : false ≡ true = h refl in cc)

more_kept : (values : List Value) (x : Value) → with_item (parts_of values) x ≡ parts_of (values ++ x ∷ [])
more_kept values x =
    ap₂ (λ vs m. record { values = vs; measures = m })
    (kept_more (fit (both (of_items values) (measures x))) (fit (of_items values)) values x (fit-fewer (of_items values) (measures x))
    ∙ ap (λ m. kept (fit m) (values ++ x ∷ [])) (items-more values x))
    (items-more values x)

-- ---- all of them

whole_at : (values : List Value) (limit : Option Limit) → within (v.List (kept (is_none limit) values)) limit ≡ within (v.List values) limit
whole_at values None = refl
whole_at values (Some l) = refl

whole : (values : List Value) → list_of (parts_of values) ≡ tested (v.List values)
whole values =
    whole_at values (limit_of (around (of_items values)))
    ∙ ap (within (v.List values)) (ap limit_of (measures-List values) ∙ limit-measures (v.List values))

abbrev gives : Outcome (List Value) → Outcome Value
gives o = and_then o (λ values. tested (v.List values))

next : (o : Outcome Value) (f : Value → Outcome ListParts) (g : Value → Outcome (List Value)) → ((x : Value) → and_then (f x) list_of ≡ gives (g x))
    → and_then (and_then o f) list_of ≡ gives (and_then o g)
next (Ok x) f g h = h x
next (Err fault) f g h = refl

behind : (es : List Meaning) (env : Env) (values : List Value) → and_then (each_kept es env (parts_of values)) list_of ≡ gives (each es env values)
behind [] env values = whole values
behind (e ∷ es) env values =
    next (e env) (λ x. each_kept es env (with_item (parts_of values) x)) (λ x. each es env (values ++ x ∷ []))
    (λ x. ap (λ parts. and_then (each_kept es env parts) list_of) (more_kept values x) ∙ behind es env (values ++ x ∷ []))

pub literal_gives : (es : List Meaning) (env : Env) → and_then (each_kept es env no_items) list_of ≡ gives (each es env [])
literal_gives es env = behind es env []

-- what the literal gives, once its parts are known
pub list_done : (es : List Meaning) (env : Env) (parts : Outcome ListParts) → each_kept es env no_items ≡ parts → and_then parts list_of ≡ gives (each es env [])
list_done es env parts h = ap (λ o. and_then o list_of) (sym h) ∙ literal_gives es env
