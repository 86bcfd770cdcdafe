-- The JSON of a kept value has whole numbers, and is no deeper than the value.
use Rattle.std.proofs.Common.{◌≡◌, ℕ, max, ◌≤◌, ℤ, pos, negsuc, List, [], ◌∷◌, map, FitsSigned, Ordering, Less, Equal, Greater, nat_cmp, encode_utf8_all, sym, subst, arith}
use Rattle.std.specs.Int.{w64}
use Rattle.std.specs.Cmp.Lexicographic.{slice_cmp}
use Rattle.std.specs.List.{AllByRecursion}
use Rattle.std.specs.Map.{values_of}
use Rattle.std.specs.Ordering.{match_ordering}
use Rattle.serde_json.specs.Data as shape
use Rattle.serde_json.specs.Data.{Data, number, array, object, Members, no_members, member, put, items_depth, members_depth}
use Rattle.serde_json.specs.Find.{of_integer}
use Rattle.serde_json.specs.View.{items_of}
use Rattle.script_value.specs.Json.{json, json_of_level, put_all, shown}
use Rattle.script_value.specs.Kept.{IsKept}
use Rattle.script_value.specs.Measures.{largest, depth, depth_of_level}
use Rattle.script_value.specs.declared.value.Value.{Value, roll-Value, fold-roll-Value, ind-Value}
use Rattle.script_value.specs.declared.value.Value.TheOpen.{Value-F}
use Rattle.script_value.specs.declared.value.Value.TheFolds as folds
use Rattle.script_value.proofs.Kept.{number_fits, items_kept, members_kept}
use Rattle.script_value.proofs.Whole.{IsWhole, ItemsAreWhole, MembersAreWhole}

-- ---- whole numbers

whole-put_at : (o : Ordering) (k l : List ℕ) (d e : Data) (ms : Members) → IsWhole d → MembersAreWhole (member l e ms) → MembersAreWhole (put k d ms)
    → MembersAreWhole (match_ordering o (member k d (member l e ms)) (member l d ms) (member l e (put k d ms)))
whole-put_at Less k l d e ms h all more = (h, all)
whole-put_at Equal k l d e ms h all more = (h, all.1)
whole-put_at Greater k l d e ms h all more = (all.0, more)

whole-put : (k : List ℕ) (d : Data) (ms : Members) → IsWhole d → MembersAreWhole ms → MembersAreWhole (put k d ms)
whole-put k d no_members h all = (h, tt)
whole-put k d (member l e ms) h all = whole-put_at (slice_cmp nat_cmp k l) k l d e ms h all (whole-put k d ms h all.1)

whole_number : (z : ℤ) → FitsSigned w64 z → IsWhole (number (of_integer z))
whole_number (pos n) h = let small = h.sfits in omega arith
whole_number (negsuc n) h = let small = h.sfits in omega arith

abbrev IsShownWhole : Value → Type 0
IsShownWhole v = IsKept v → IsWhole (json v)

abbrev With : Type 0
With = (v : Value) × IsShownWhole v

abbrev members_of : List (List ℕ × With) → List (List ℕ × Value)
members_of ys = map (λ (q : List ℕ × With). (q.0, q.1.0)) ys

whole_items : (ys : List With) → AllByRecursion IsKept (map (λ y. y.0) ys) → ItemsAreWhole (items_of (map json (map (λ y. y.0) ys)))
whole_items [] all = tt
whole_items (y ∷ ys) all = (y.1 all.0, whole_items ys all.1)

whole_members : (ys : List (List ℕ × With)) (ms : Members) → AllByRecursion IsKept (values_of (members_of ys)) → MembersAreWhole ms → MembersAreWhole (put_all ms (shown (members_of ys)))
whole_members [] ms all h = h
whole_members (y ∷ ys) ms all h = whole_members ys (put (encode_utf8_all y.0) (json y.1.0) ms) all.1 (whole-put (encode_utf8_all y.0) (json y.1.0) ms (y.1.1 all.0) h)

json_roll : (x : Value-F Value) → json (roll-Value x) ≡ json_of_level (folds.map-Value Value Data json x)
json_roll x = fold-roll-Value Data json_of_level x

whole_level : (y : Value-F With) → IsKept (roll-Value (folds.map-Value With Value (λ e. e.0) y)) → IsWhole (json_of_level (folds.map-Value Value Data json (folds.map-Value With Value (λ e. e.0) y)))
whole_level Value-F.Null kept = tt
whole_level (Value-F.Truth b) kept = tt
whole_level (Value-F.Number z) kept = whole_number z (number_fits z kept)
whole_level (Value-F.Str text) kept = tt
whole_level (Value-F.List ys) kept = whole_items ys (items_kept (map (λ (y : With). y.0) ys) kept)
whole_level (Value-F.Record ys) kept = whole_members ys no_members (members_kept (members_of ys) kept) tt

whole_layer : (y : Value-F With) → IsShownWhole (roll-Value (folds.map-Value With Value (λ e. e.0) y))
whole_layer y = λ kept. subst IsWhole (sym (json_roll (folds.map-Value With Value (λ e. e.0) y))) (whole_level y kept)

pub json_whole : (v : Value) → IsKept v → IsWhole (json v)
json_whole = ind-Value IsShownWhole (λ x y e. subst (λ x. IsShownWhole (roll-Value x)) e (whole_layer y))

-- ---- depth

depth-put_at : (o : Ordering) (k l : List ℕ) (d e : Data) (ms : Members) → members_depth (put k d ms) ≤ max (shape.depth d) (members_depth ms)
    → members_depth (match_ordering o (member k d (member l e ms)) (member l d ms) (member l e (put k d ms))) ≤ max (shape.depth d) (members_depth (member l e ms))
depth-put_at Less k l d e ms more = omega arith
depth-put_at Equal k l d e ms more = omega arith
depth-put_at Greater k l d e ms more = omega arith

depth-put : (k : List ℕ) (d : Data) (ms : Members) → members_depth (put k d ms) ≤ max (shape.depth d) (members_depth ms)
depth-put k d no_members = omega arith
depth-put k d (member l e ms) = depth-put_at (slice_cmp nat_cmp k l) k l d e ms (depth-put k d ms)

abbrev IsShownShallow : Value → Type 0
IsShownShallow v = shape.depth (json v) ≤ depth v

abbrev Shallow : Type 0
Shallow = (v : Value) × IsShownShallow v

shallow_items : (ys : List Shallow) → items_depth (items_of (map json (map (λ y. y.0) ys))) ≤ largest (map depth (map (λ y. y.0) ys))
shallow_items [] = omega arith
shallow_items (y ∷ ys) = omega (arith, y.1, shallow_items ys)

abbrev shallow_of : List (List ℕ × Shallow) → List (List ℕ × Value)
shallow_of ys = map (λ (q : List ℕ × Shallow). (q.0, q.1.0)) ys

abbrev depths : List (List ℕ × Value) → List (List ℕ × ℕ)
depths members = map (λ m. (m.0, depth m.1)) members

shallow_members : (ys : List (List ℕ × Shallow)) (ms : Members) → members_depth (put_all ms (shown (shallow_of ys))) ≤ max (members_depth ms) (largest (values_of (depths (shallow_of ys))))
shallow_members [] ms = omega arith
shallow_members (y ∷ ys) ms =
    let next = put (encode_utf8_all y.0) (json y.1.0) ms in
    omega (arith, y.1.1, depth-put (encode_utf8_all y.0) (json y.1.0) ms, shallow_members ys next)

shallow_level : (y : Value-F Shallow) → shape.depth (json_of_level (folds.map-Value Value Data json (folds.map-Value Shallow Value (λ e. e.0) y)))
    ≤ depth_of_level (folds.map-Value Value ℕ depth (folds.map-Value Shallow Value (λ e. e.0) y))
shallow_level Value-F.Null = omega arith
shallow_level (Value-F.Truth b) = omega arith
shallow_level (Value-F.Number z) = omega arith
shallow_level (Value-F.Str text) = omega arith
shallow_level (Value-F.List ys) = omega (arith, shallow_items ys)
shallow_level (Value-F.Record ys) = omega (arith, shallow_members ys no_members)

shallow_layer : (y : Value-F Shallow) → IsShownShallow (roll-Value (folds.map-Value Shallow Value (λ e. e.0) y))
shallow_layer y =
    let x = folds.map-Value Shallow Value (λ e. e.0) y in
    subst (λ d. shape.depth d ≤ depth (roll-Value x)) (sym (json_roll x)) (subst (λ n. shape.depth (json_of_level (folds.map-Value Value Data json x)) ≤ n) (sym (fold-roll-Value ℕ depth_of_level x)) (shallow_level y))

pub json_shallow : (v : Value) → shape.depth (json v) ≤ depth v
json_shallow = ind-Value IsShownShallow (λ x y e. subst (λ x. IsShownShallow (roll-Value x)) e (shallow_layer y))
