-- What a change of one variable does to the weight. `put-weighed` carries the clause `room` of `change_variable`.
use Rattle.std.proofs.Common.{◌≡◌, ℕ, ◌+◌, ◌*◌, List, [], ◌∷◌, map, sum, Option, Some, None, Ok, refl, sym, ap, ◌∙◌, cond, nat_cmp, arith}
use Rattle.std.proofs.lemmas.List.Sums.{sum_by-cons}
use Rattle.std.specs.Cmp.Lexicographic.{slice_cmp}
use Rattle.std.specs.List.Sorted.{IsStrictlySortedBy}
use Rattle.std.specs.Map.{keys_of, values_of}
use Rattle.std.specs.Ordering.{is_eq, match_ordering}
use Rattle.std.specs.declared.cmp.Ordering.{Ordering}
use Rattle.std.specs.declared.cmp.Ordering.TheVariants.{Less, Equal, Greater}
use Rattle.vg_base.specs.Characters.{byte_len}
use Rattle.vg_base.specs.Pairs.{find, put, IsRising}
use Rattle.script_value.specs.declared.value.Value.{Value}
use Rattle.script_value.specs.declared.value.Value.TheVariants as v
use Rattle.script_value.specs.declared.limits.Limit.{Limit}
use Rattle.script_value.specs.Limits.{first_limit}
use Rattle.script_value.specs.Measures.{capped, held, text_bytes, key_bytes}
use Rattle.script_value.proofs.Levels.{held-Record, text_bytes-Record}
use Rattle.tag_script.specs.Outcomes.{and_then, within, tested}
use Rattle.tag_script.specs.Weight.{weight}
use Rattle.tag_script.specs.code.Weights.{variable_weight}
use Rattle.tag_script.proofs.Putting.{IsBelow, below, same_key}

abbrev same : ℕ → ℕ
same n = n

-- the weight of variables, one after another
abbrev total : List (List ℕ × Value) → ℕ
total [] = 0
total (m ∷ ms) = byte_len m.0 + weight m.1 + total ms

-- a key below all others isn't among them
not_below : (key : List ℕ) (ms : List (List ℕ × Value)) → IsBelow key (keys_of ms) → find key ms ≡ None
not_below key [] h = refl
not_below key (m ∷ ms) h = ap (λ o. cond (is_eq o) (Some m.1) (find key ms)) h.0 ∙ not_below key ms h.1

at_head : (o : Ordering) (key : List ℕ) (x : Value) (m : List ℕ × Value) (ms : List (List ℕ × Value)) → slice_cmp nat_cmp key m.0 ≡ o → IsBelow m.0 (keys_of ms)
    → total (put key x ms) + variable_weight key (find key ms) ≡ total ms + (byte_len key + weight x)
    → total (put key x (m ∷ ms)) + variable_weight key (find key (m ∷ ms)) ≡ total (m ∷ ms) + (byte_len key + weight x)
at_head Less key x m ms e low more =
    let none = ap (λ o. cond (is_eq o) (Some m.1) (find key ms)) e ∙ not_below key ms (below key m.0 (keys_of ms) e low) in
    let front = ap (λ o. match_ordering o ((key, x) ∷ m ∷ ms) ((m.0, x) ∷ ms) (m ∷ put key x ms)) e in
    let weighs = ap total front in
    let nothing = ap (variable_weight key) none in
    omega arith
at_head Equal key x m ms e low more =
    let some = ap (λ o. cond (is_eq o) (Some m.1) (find key ms)) e in
    let front = ap (λ o. match_ordering o ((key, x) ∷ m ∷ ms) ((m.0, x) ∷ ms) (m ∷ put key x ms)) e in
    let weighs = ap total front in
    let old = ap (variable_weight key) some in
    let one = ap byte_len (same_key key m.0 e) in
    omega arith
at_head Greater key x m ms e low more =
    let other = ap (λ o. cond (is_eq o) (Some m.1) (find key ms)) e in
    let front = ap (λ o. match_ordering o ((key, x) ∷ m ∷ ms) ((m.0, x) ∷ ms) (m ∷ put key x ms)) e in
    let weighs = ap total front in
    let old = ap (variable_weight key) other in
    omega arith

put_total : (key : List ℕ) (x : Value) (ms : List (List ℕ × Value)) → IsRising ms
    → total (put key x ms) + variable_weight key (find key ms) ≡ total ms + (byte_len key + weight x)
unfolding IsStrictlySortedBy
put_total key x [] h = omega arith
put_total key x (m ∷ ms) h = at_head (slice_cmp nat_cmp key m.0) key x m ms refl h.0 (put_total key x ms h.1)

sums_total : (ms : List (List ℕ × Value)) → key_bytes ms + sum (map text_bytes (values_of ms)) + 128 * sum (map held (values_of ms)) ≡ total ms
sums_total [] = refl
sums_total (m ∷ ms) =
    omega (arith, sums_total ms, sum_by-cons same (byte_len m.0) (map byte_len (keys_of ms)), sum_by-cons same (text_bytes m.1) (map text_bytes (values_of ms)), sum_by-cons same (held m.1) (map held (values_of ms)))

record_total : (ms : List (List ℕ × Value)) → weight (v.Record ms) ≡ 128 + total ms
record_total ms = omega (arith, held-Record ms, text_bytes-Record ms, sums_total ms)

-- a variable is exchanged for another of its name
pub put-weighed : (key : List ℕ) (x : Value) (ms : List (List ℕ × Value)) → IsRising ms
    → weight (v.Record (put key x ms)) + variable_weight key (find key ms) ≡ weight (v.Record ms) + (byte_len key + weight x)
put-weighed key x ms up = omega (arith, record_total ms, record_total (put key x ms), put_total key x ms up)

weighed_at : (value : Value) (limit : Option Limit) (n : ℕ) → and_then (within value limit) (λ kept. Ok (capped (weight kept))) ≡ Ok n → n ≡ capped (weight value)
weighed_at value None n e = let same : capped (weight value) ≡ n = cc in sym same
weighed_at value (Some l) n e = absurd (cc)

-- what is weighed of a tested value is its weight
pub tested_weighs : (value : Value) (n : ℕ) → and_then (tested value) (λ kept. Ok (capped (weight kept))) ≡ Ok n → n ≡ capped (weight value)
tested_weighs value n e = weighed_at value (first_limit value) n e
