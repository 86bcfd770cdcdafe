-- A value is kept where its level is and its parts are.
use Rattle.std.proofs.Common.{◌≡◌, ℕ, ℤ, List, [], ◌∷◌, map, Bool, true, FitsSigned, refl, ap, subst, ◌∙◌}
use Rattle.std.specs.Int.{w64}
use Rattle.std.specs.List.{AllByRecursion}
use Rattle.std.specs.Map.{values_of}
use Rattle.std.specs.Str.{all_scalars}
use Rattle.script_value.specs.Kept.{AreKeys, IsKept, IsKeptLevel}
use Rattle.script_value.specs.declared.value.Value.{Value, Null, Truth, Number, Str, List as List_value, Record, roll-Value, out-roll-Value, every_made-Value, every_here-Value, every_held-Value}
use Rattle.script_value.specs.declared.value.Value.TheVariants.{rolls-Null, rolls-Truth, rolls-Number, rolls-Str, rolls-List, rolls-Record}
use Rattle.script_value.specs.declared.value.Value.TheOpen.{Value-F}
use Rattle.script_value.specs.declared.value.Value.TheFolds as folds

abbrev pub KeptValue : Type 0
KeptValue = (v : Value) × IsKept v

-- one level of kept values, as a level of values
abbrev plain : Value-F KeptValue → Value-F Value
plain y = folds.map-Value KeptValue Value (λ e. e.0) y

pub kept-Null : IsKept Null
kept-Null = subst IsKept rolls-Null (every_made-Value IsKeptLevel Value-F.Null Value-F.Null refl tt)

pub kept-Truth : (truth : Bool) → IsKept (Truth truth)
kept-Truth truth = subst IsKept (rolls-Truth truth) (every_made-Value IsKeptLevel (Value-F.Truth truth) (Value-F.Truth truth) refl tt)

pub kept-Number : (n : ℤ) → FitsSigned w64 n → IsKept (Number n)
kept-Number n fits = subst IsKept (rolls-Number n) (every_made-Value IsKeptLevel (Value-F.Number n) (Value-F.Number n) refl fits)

pub kept-Str : (text : List ℕ) → all_scalars text ≡ true → IsKept (Str text)
kept-Str text scalars = subst IsKept (rolls-Str text) (every_made-Value IsKeptLevel (Value-F.Str text) (Value-F.Str text) refl scalars)

with_facts : (values : List Value) → AllByRecursion IsKept values → (ys : List KeptValue) × (map (λ y. y.0) ys ≡ values)
with_facts [] all = ([], refl)
with_facts (v ∷ values) all = let rest = with_facts values all.1 in ((v, all.0) ∷ rest.0, ap (λ l. v ∷ l) rest.1)

pub kept-List : (values : List Value) → AllByRecursion IsKept values → IsKept (List_value values)
kept-List values all =
    let ys = with_facts values all in
    subst IsKept (rolls-List values) (every_made-Value IsKeptLevel (Value-F.List values) (Value-F.List ys.0) (ap Value-F.List ys.1) tt)

abbrev plain_members : List (List ℕ × KeptValue) → List (List ℕ × Value)
plain_members ys = map (λ (q : List ℕ × KeptValue). (q.0, q.1.0)) ys

members_with_facts : (members : List (List ℕ × Value)) → AllByRecursion IsKept (values_of members) → (ys : List (List ℕ × KeptValue)) × (plain_members ys ≡ members)
members_with_facts [] all = ([], refl)
members_with_facts (m ∷ members) all = let rest = members_with_facts members all.1 in ((m.0, (m.1, all.0)) ∷ rest.0, ap (λ l. m ∷ l) rest.1)

pub kept-Record : (members : List (List ℕ × Value)) → AreKeys members → AllByRecursion IsKept (values_of members) → IsKept (Record members)
kept-Record members keys all =
    let ys = members_with_facts members all in
    subst IsKept (rolls-Record members) (every_made-Value IsKeptLevel (Value-F.Record members) (Value-F.Record ys.0) (ap Value-F.Record ys.1) keys)

-- ---- and the other way

level_of : (x : Value-F Value) → IsKept (roll-Value x) → IsKeptLevel x
level_of x kept = subst IsKeptLevel (out-roll-Value x) (every_here-Value IsKeptLevel (roll-Value x) kept)

held_of : (x : Value-F Value) → IsKept (roll-Value x) → (y : Value-F KeptValue) × (plain y ≡ x)
held_of x kept = let y = every_held-Value IsKeptLevel (roll-Value x) kept in (y.0, y.1 ∙ out-roll-Value x)

all_kept : (ys : List KeptValue) → AllByRecursion IsKept (map (λ y. y.0) ys)
all_kept [] = tt
all_kept (y ∷ ys) = (y.1, all_kept ys)

all_members_kept : (ys : List (List ℕ × KeptValue)) → AllByRecursion IsKept (values_of (plain_members ys))
all_members_kept [] = tt
all_members_kept (y ∷ ys) = (y.1.1, all_members_kept ys)

items_of_level : (y : Value-F KeptValue) (values : List Value) → plain y ≡ Value-F.List values → AllByRecursion IsKept values
items_of_level (Value-F.List ys) values e = let same : map (λ y. y.0) ys ≡ values = cc in subst (AllByRecursion IsKept) same (all_kept ys)
items_of_level other values e = absurd (cc)

members_of_level : (y : Value-F KeptValue) (members : List (List ℕ × Value)) → plain y ≡ Value-F.Record members → AllByRecursion IsKept (values_of members)
members_of_level (Value-F.Record ys) members e = let same : plain_members ys ≡ members = cc in subst (λ ms. AllByRecursion IsKept (values_of ms)) same (all_members_kept ys)
members_of_level other members e = absurd (cc)

pub number_fits : (n : ℤ) → IsKept (roll-Value (Value-F.Number n)) → FitsSigned w64 n
number_fits n = level_of (Value-F.Number n)

pub text_scalars : (text : List ℕ) → IsKept (roll-Value (Value-F.Str text)) → all_scalars text ≡ true
text_scalars text = level_of (Value-F.Str text)

pub record_keys : (members : List (List ℕ × Value)) → IsKept (roll-Value (Value-F.Record members)) → AreKeys members
record_keys members = level_of (Value-F.Record members)

pub items_kept : (values : List Value) → IsKept (roll-Value (Value-F.List values)) → AllByRecursion IsKept values
items_kept values kept = let y = held_of (Value-F.List values) kept in items_of_level y.0 values y.1

pub members_kept : (members : List (List ℕ × Value)) → IsKept (roll-Value (Value-F.Record members)) → AllByRecursion IsKept (values_of members)
members_kept members kept = let y = held_of (Value-F.Record members) kept in members_of_level y.0 members y.1
