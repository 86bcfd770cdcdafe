-- The strings of a JSON value that a program holds are of UTF-8.
use Rattle.std.proofs.Common.{List, [], ◌∷◌, map, String, Global, IsUtf8, sym, subst}
use Rattle.std.proofs.lemmas.Str.{IsUtf8-string_bytes}
use Rattle.std.specs.Bool.{⊤}
use Rattle.serde_json.specs.Data.{Data, null, boolean, number, string, array, object, Items, no_items, item, Members, no_members, member}
use Rattle.serde_json.specs.View.{view, view_step, items_of, members_of}
use Rattle.serde_json.specs.declared.value.Value.{Value, ind-Value, map-Value, fold-roll-Value}
use Rattle.serde_json.specs.declared.value.Value.TheOpen.{Value-F}

abbrev mutual
  pub HasTexts : Data → Type 0
  HasTexts null = ⊤
  HasTexts (boolean b) = ⊤
  HasTexts (number n) = ⊤
  HasTexts (string s) = IsUtf8 s
  HasTexts (array ds) = ItemsHaveTexts ds
  HasTexts (object ms) = MembersHaveTexts ms

  pub ItemsHaveTexts : Items → Type 0
  ItemsHaveTexts no_items = ⊤
  ItemsHaveTexts (item d ds) = HasTexts d × ItemsHaveTexts ds

  pub MembersHaveTexts : Members → Type 0
  MembersHaveTexts no_members = ⊤
  MembersHaveTexts (member k d ms) = HasTexts d × MembersHaveTexts ms

module _ {A : Type 0} (to : A → Value) (holds : (a : A) → HasTexts (view (to a))) where
  items_have_texts : (xs : List A) → ItemsHaveTexts (items_of (map view (map to xs)))
  items_have_texts [] = tt
  items_have_texts (x ∷ xs) = (holds x, items_have_texts xs)

  members_have_texts : (ms : List (String Global × A))
      → MembersHaveTexts (members_of (map (λ (m : String Global × Value). (m.0, view m.1)) (map (λ (m : String Global × A). (m.0, to m.1)) ms)))
  members_have_texts [] = tt
  members_have_texts (m ∷ ms) = (holds m.1, members_have_texts ms)

  level_has_texts : (y : Value-F A) → HasTexts (view_step (map-Value Value Data view (map-Value A Value to y)))
  level_has_texts Value-F.Null = tt
  level_has_texts (Value-F.Bool b) = tt
  level_has_texts (Value-F.Number x) = tt
  level_has_texts (Value-F.String s) = IsUtf8-string_bytes s
  level_has_texts (Value-F.Array v) = items_have_texts v.items
  level_has_texts (Value-F.Object m) = members_have_texts m.entries

pub HasTexts-view : (v : Value) → HasTexts (view v)
HasTexts-view v = ind-Value (λ w. HasTexts (view w))
    (λ x y e. subst HasTexts (sym (fold-roll-Value Data view_step x))
    (subst (λ w. HasTexts (view_step (map-Value Value Data view w))) e (level_has_texts (λ a. a.0) (λ a. a.1) y))) v
