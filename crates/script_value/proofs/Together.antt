-- The measures of parts, one after another. `both-items` and `both-members` carry the loops of `of_items` and `of_members`.
use Rattle.std.proofs.Common.{◌≡◌, ℕ, ◌+◌, ◌-◌, ◌^◌, ◌<◌, min, max, sum, List, [], ◌∷◌, ◌++◌, map, refl, sym, ap, ◌∙◌, nat_lt, cond, Some, None, nat_cmp, arith}
use Rattle.std.proofs.lemmas.List.Sums.{sum_by-cons}
use Rattle.std.proofs.lemmas.Bool.Decides.{nat_tests}
use Rattle.std.specs.Cmp.Lexicographic.{slice_cmp}
use Rattle.std.specs.Map.{keys_of, values_of}
use Rattle.std.specs.Ordering.{is_eq, match_ordering}
use Rattle.std.specs.declared.cmp.Ordering.{Ordering}
use Rattle.std.specs.declared.cmp.Ordering.TheVariants.{Less, Equal, Greater}
use Rattle.vg_base.specs.Pairs.{find, put}
use Rattle.vg_base.specs.Characters.{byte_len}
use Rattle.script_value.specs.declared.measures.Measures.{Measures}
use Rattle.script_value.specs.declared.value.Value.{Value, Record, List as List_value}
use Rattle.script_value.specs.Limits.{first_limit, limit_of}
use Rattle.script_value.specs.Measures.{capped, largest, held, text_bytes, key_bytes, longest_text, depth, measures, of_items, of_members, both, with_key, around, no_parts}
use Rattle.script_value.proofs.Levels.{longest_text-Record, held-Record, text_bytes-Record, depth-Record, longest_text-List, held-List, text_bytes-List, depth-List}

abbrev same : ℕ → ℕ
same n = n

equal_parts : (t v b d t' v' b' d' : ℕ) → t ≡ t' → v ≡ v' → b ≡ b' → d ≡ d'
    → ◌≡◌ {A = Measures} (record { text = t; values = v; bytes = b; depth = d }) (record { text = t'; values = v'; bytes = b'; depth = d' })
equal_parts t v b d t' v' b' d' p q r s = cc

same_measures : (a b : Measures) → a.text ≡ b.text → a.values ≡ b.values → a.bytes ≡ b.bytes → a.depth ≡ b.depth → a ≡ b
same_measures a b p q r s = equal_parts a.text a.values a.bytes a.depth b.text b.values b.bytes b.depth p q r s

-- an item between the parts so far and the rest
pub both-items : (m : Measures) (v : Value) (vs : List Value) → both (both m (measures v)) (of_items vs) ≡ both m (of_items (v ∷ vs))
both-items m v vs =
    same_measures (both (both m (measures v)) (of_items vs)) (both m (of_items (v ∷ vs)))
    (omega arith) (omega (arith, sum_by-cons same (held v) (map held vs))) (omega (arith, sum_by-cons same (text_bytes v) (map text_bytes vs))) (omega arith)

-- a member between the parts so far and the rest
pub both-members : (m : Measures) (key : List ℕ) (v : Value) (ms : List (List ℕ × Value))
    → both (both (with_key key m) (measures v)) (of_members ms) ≡ both m (of_members ((key, v) ∷ ms))
both-members m key v ms =
    same_measures (both (both (with_key key m) (measures v)) (of_members ms)) (both m (of_members ((key, v) ∷ ms)))
    (omega arith) (omega (arith, sum_by-cons same (held v) (map held (values_of ms))))
    (omega (arith, sum_by-cons same (text_bytes v) (map text_bytes (values_of ms)), sum_by-cons same (byte_len key) (map byte_len (keys_of ms)))) (omega arith)

-- nothing before them, and nothing behind
pub both-first : (vs : List Value) → both no_parts (of_items vs) ≡ of_items vs
both-first vs = same_measures (both no_parts (of_items vs)) (of_items vs) (omega arith) (omega arith) (omega arith) (omega arith)

pub both-first_members : (ms : List (List ℕ × Value)) → both no_parts (of_members ms) ≡ of_members ms
both-first_members ms = same_measures (both no_parts (of_members ms)) (of_members ms) (omega arith) (omega arith) (omega arith) (omega arith)

pub both-last : (m : Measures) → m.values < 2 ^ 64 → m.bytes < 2 ^ 64 → both m no_parts ≡ m
both-last m p q = same_measures (both m no_parts) m (omega arith) (omega arith) (omega arith) (omega arith)

-- a record is around its members
pub measures-Record : (members : List (List ℕ × Value)) → around (of_members members) ≡ measures (Record members)
measures-Record members =
    same_measures (around (of_members members)) (measures (Record members))
    (omega (arith, longest_text-Record members)) (omega (arith, held-Record members)) (omega (arith, text_bytes-Record members)) (omega (arith, depth-Record members))

-- one item more behind the others
pub items-more : (vs : List Value) (v : Value) → both (of_items vs) (measures v) ≡ of_items (vs ++ v ∷ [])
items-more [] v = same_measures (both (of_items []) (measures v)) (of_items (v ∷ [])) (omega arith) (omega (arith, sum_by-cons same (held v) [])) (omega (arith, sum_by-cons same (text_bytes v) [])) (omega arith)
items-more (w ∷ vs) v =
    let more = items-more vs v in
    let texts = ap (λ (m : Measures). m.text) more in
    let values = ap (λ (m : Measures). m.values) more in
    let bytes = ap (λ (m : Measures). m.bytes) more in
    let depths = ap (λ (m : Measures). m.depth) more in
    same_measures (both (of_items (w ∷ vs)) (measures v)) (of_items (w ∷ (vs ++ v ∷ [])))
    (omega arith)
    (omega (arith, sum_by-cons same (held w) (map held vs), sum_by-cons same (held w) (map held (vs ++ v ∷ []))))
    (omega (arith, sum_by-cons same (text_bytes w) (map text_bytes vs), sum_by-cons same (text_bytes w) (map text_bytes (vs ++ v ∷ []))))
    (omega arith)

-- ---- members are put by their keys

-- the two measures that are sums
members_of_put : (o : Ordering) (m : Measures) (key : List ℕ) (v : Value) (p : List ℕ × Value) (ps : List (List ℕ × Value)) → slice_cmp nat_cmp key p.0 ≡ o
    → find key (p ∷ ps) ≡ None → (find key ps ≡ None → both (with_key key (of_members ps)) (measures v) ≡ of_members (put key v ps))
    → both (with_key key (of_members (p ∷ ps))) (measures v) ≡ of_members (put key v (p ∷ ps))
members_of_put Less m key v p ps e absent more =
    front_put ∙ ap of_members (sym (ap (λ o. match_ordering o ((key, v) ∷ p ∷ ps) ((p.0, v) ∷ ps) (p ∷ put key v ps)) e))
  where
    front_put : both (with_key key (of_members (p ∷ ps))) (measures v) ≡ of_members ((key, v) ∷ p ∷ ps)
    front_put =
        same_measures (both (with_key key (of_members (p ∷ ps))) (measures v)) (of_members ((key, v) ∷ p ∷ ps))
        (omega arith)
        (omega (arith, sum_by-cons same (held v) (map held (values_of (p ∷ ps)))))
        (omega (arith, sum_by-cons same (byte_len key) (map byte_len (keys_of (p ∷ ps))), sum_by-cons same (text_bytes v) (map text_bytes (values_of (p ∷ ps)))))
        (omega arith)
members_of_put Equal m key v p ps e absent more =
    let found : Some p.1 ≡ None = sym (ap (λ o. cond (is_eq o) (Some p.1) (find key ps)) e) ∙ absent in absurd (cc)
members_of_put Greater m key v p ps e absent more =
    let others = more (sym (ap (λ o. cond (is_eq o) (Some p.1) (find key ps)) e) ∙ absent) in
    let texts = ap (λ (m : Measures). m.text) others in
    let values = ap (λ (m : Measures). m.values) others in
    let bytes = ap (λ (m : Measures). m.bytes) others in
    let depths = ap (λ (m : Measures). m.depth) others in
    same_measures (both (with_key key (of_members (p ∷ ps))) (measures v)) (of_members (p ∷ put key v ps))
    (omega arith)
    (omega (arith, sum_by-cons same (held p.1) (map held (values_of ps)), sum_by-cons same (held p.1) (map held (values_of (put key v ps)))))
    (omega (
      arith,
      sum_by-cons same (byte_len p.0) (map byte_len (keys_of ps)),
      sum_by-cons same (byte_len p.0) (map byte_len (keys_of (put key v ps))),
      sum_by-cons same (text_bytes p.1) (map text_bytes (values_of ps)),
      sum_by-cons same (text_bytes p.1) (map text_bytes (values_of (put key v ps))),
    ))
    (omega arith)
    ∙ ap of_members (sym (ap (λ o. match_ordering o ((key, v) ∷ p ∷ ps) ((p.0, v) ∷ ps) (p ∷ put key v ps)) e))

-- a member whose key isn't among the others
pub members-more : (key : List ℕ) (v : Value) (ms : List (List ℕ × Value)) → find key ms ≡ None
    → both (with_key key (of_members ms)) (measures v) ≡ of_members (put key v ms)
members-more key v [] absent =
    same_measures (both (with_key key (of_members [])) (measures v)) (of_members ((key, v) ∷ []))
    (omega arith) (omega (arith, sum_by-cons same (held v) []))
    (omega (arith, sum_by-cons same (byte_len key) [], sum_by-cons same (text_bytes v) [])) (omega arith)
members-more key v (p ∷ ps) absent = members_of_put (slice_cmp nat_cmp key p.0) no_parts key v p ps refl absent (members-more key v ps)

-- ---- the whole of a list, and what passes a limit

pub measures-List : (values : List Value) → around (of_items values) ≡ measures (List_value values)
measures-List values =
    same_measures (around (of_items values)) (measures (List_value values))
    (omega (arith, longest_text-List values)) (omega (arith, held-List values)) (omega (arith, text_bytes-List values)) (omega (arith, depth-List values))

capped_test : (limit n : ℕ) → limit < 2 ^ 64 - 1 → nat_lt limit (capped n) ≡ nat_lt limit n
capped_test limit n small = grind (arith, nat_tests)

pub limit-measures : (value : Value) → limit_of (measures value) ≡ first_limit value
limit-measures value =
    let texts = capped_test 65536 (longest_text value) (omega arith) in
    let values = capped_test 4096 (held value) (omega arith) in
    let bytes = capped_test 262144 (text_bytes value) (omega arith) in
    let deep = capped_test 64 (depth value) (omega arith) in
    cc
