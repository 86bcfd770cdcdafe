-- Kept values with one JSON are one.
use Rattle.std.proofs.Common.{◌≡◌, ℕ, ℤ, pos, negsuc, List, [], ◌∷◌, map, true, nat_cmp, refl, sym, ap, ap₂, subst, ◌∙◌}
use Rattle.std.specs.Cmp.Lexicographic.{slice_cmp}
use Rattle.std.specs.List.{AllByRecursion}
use Rattle.std.specs.List.Sorted.{IsStrictlySortedBy}
use Rattle.std.specs.Map.{keys_of, values_of}
use Rattle.std.specs.Str.{all_scalars}
use Rattle.serde_json.specs.Data.{Data}
use Rattle.serde_json.specs.Find.{of_integer}
use Rattle.serde_json.specs.View.{items_of}
use Rattle.script_value.specs.Json.{json, json_of_level, shown}
use Rattle.script_value.specs.Kept.{AreKeys, IsKept}
use Rattle.script_value.specs.declared.value.Value.{Value, out-Value, roll-Value, roll-out-Value, fold-roll-Value, ind-Value}
use Rattle.script_value.specs.declared.value.Value.TheOpen.{Value-F}
use Rattle.script_value.specs.declared.value.Value.TheFolds as folds
use Rattle.script_value.proofs.Kept.{text_scalars, record_keys, items_kept, members_kept}
use Rattle.script_value.proofs.Members.{AreTexts, Rise, same_texts, same_pairs}

-- the value is the only one with its JSON
abbrev Tells : Value → Type 0
Tells v = (w : Value) → IsKept v → IsKept w → json v ≡ json w → v ≡ w

abbrev With : Type 0
With = (v : Value) × Tells v

abbrev plain : Value-F With → Value-F Value
plain y = folds.map-Value With Value (λ e. e.0) y

abbrev members_of : List (List ℕ × With) → List (List ℕ × Value)
members_of ys = map (λ (q : List ℕ × With). (q.0, q.1.0)) ys

same_numbers : (m n : ℤ) → of_integer m ≡ of_integer n → m ≡ n
same_numbers (pos m) (pos n) e = cc
same_numbers (pos m) (negsuc n) e = absurd (cc)
same_numbers (negsuc m) (pos n) e = absurd (cc)
same_numbers (negsuc m) (negsuc n) e = cc

same_items : (ys : List With) (values : List Value) → AllByRecursion IsKept (map (λ y. y.0) ys) → AllByRecursion IsKept values
    → items_of (map json (map (λ y. y.0) ys)) ≡ items_of (map json values) → map (λ y. y.0) ys ≡ values
same_items [] [] p q e = refl
same_items [] (w ∷ values) p q e = absurd (cc)
same_items (y ∷ ys) [] p q e = absurd (cc)
same_items (y ∷ ys) (w ∷ values) p q e = ap₂ (λ v vs. v ∷ vs) (y.1 w p.0 q.0 (cc)) (same_items ys values p.1 q.1 (cc))

same_values : (ys : List (List ℕ × With)) (members : List (List ℕ × Value)) → AllByRecursion IsKept (values_of (members_of ys)) → AllByRecursion IsKept (values_of members)
    → shown (members_of ys) ≡ shown members → members_of ys ≡ members
same_values [] [] p q e = refl
same_values [] (w ∷ members) p q e = absurd (cc)
same_values (y ∷ ys) [] p q e = absurd (cc)
same_values (y ∷ ys) (w ∷ members) p q e =
    let heads : ◌≡◌ {A = List ℕ × Data} (y.0, json y.1.0) (w.0, json w.1) = cc in
    ap₂ (λ m ms. m ∷ ms) (ap₂ (λ k v. (k, v)) (ap (λ m. m.0) heads) (y.1.1 w.1 p.0 q.0 (ap (λ m. m.1) heads))) (same_values ys members p.1 q.1 (cc))

keys_shown : (members : List (List ℕ × Value)) → keys_of (shown members) ≡ keys_of members
keys_shown [] = refl
keys_shown (m ∷ members) = ap (λ ks. m.0 ∷ ks) (keys_shown members)

shown_rise : (members : List (List ℕ × Value)) → AreKeys members → Rise (shown members)
shown_rise members keys = subst (IsStrictlySortedBy (slice_cmp nat_cmp)) (sym (keys_shown members)) keys.0

shown_texts : (members : List (List ℕ × Value)) → AreKeys members → AreTexts (shown members)
shown_texts members keys = subst (AllByRecursion (λ key. all_scalars key ≡ true)) (sym (keys_shown members)) keys.1

json_roll : (x : Value-F Value) → json (roll-Value x) ≡ json_of_level (folds.map-Value Value Data json x)
json_roll x = fold-roll-Value Data json_of_level x

-- one level against another
levels : (y : Value-F With) (x : Value-F Value) → IsKept (roll-Value (plain y)) → IsKept (roll-Value x)
    → json_of_level (folds.map-Value Value Data json (plain y)) ≡ json_of_level (folds.map-Value Value Data json x) → plain y ≡ x
levels Value-F.Null Value-F.Null p q e = refl
levels (Value-F.Truth a) (Value-F.Truth b) p q e = let same : a ≡ b = cc in ap Value-F.Truth same
levels (Value-F.Number m) (Value-F.Number n) p q e = ap Value-F.Number (same_numbers m n (cc))
levels (Value-F.Str these) (Value-F.Str those) p q e = ap Value-F.Str (same_texts these those (text_scalars these p) (text_scalars those q) (cc))
levels (Value-F.List ys) (Value-F.List values) p q e = ap Value-F.List (same_items ys values (items_kept (map (λ (y : With). y.0) ys) p) (items_kept values q) (cc))
levels (Value-F.Record ys) (Value-F.Record members) p q e =
    let own = record_keys (members_of ys) p in
    let others = record_keys members q in
    let pairs = same_pairs (shown (members_of ys)) (shown members) (shown_rise _ own) (shown_rise members others) (shown_texts _ own) (shown_texts members others) (cc) in
    ap Value-F.Record (same_values ys members (members_kept (members_of ys) p) (members_kept members q) pairs)
levels y x p q e = absurd (cc)

layer : (y : Value-F With) → Tells (roll-Value (plain y))
layer y = λ w p q e.
    let rolled = roll-out-Value w in
    ap roll-Value (levels y (out-Value w) p (subst IsKept (sym rolled) q) (sym (json_roll (plain y)) ∙ e ∙ ap json (sym rolled) ∙ json_roll (out-Value w))) ∙ rolled

pub json_tells : (v w : Value) → IsKept v → IsKept w → json v ≡ json w → v ≡ w
json_tells = ind-Value Tells (λ x y e. subst (λ x. Tells (roll-Value x)) e (layer y))
