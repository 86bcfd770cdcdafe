-- The names of an object's members.
use Rattle.std.proofs.Common.{◌≡◌, ◌&&◌, ◌||◌, ℕ, Bool, List, [], ◌∷◌, map, String, Global, string_bytes, refl, ap}
use Rattle.std.specs.List.{list_any, list_all}
use Rattle.std.specs.Map.{keys_of}
use Rattle.std.specs.Str.{bytes_eq}
use Rattle.serde_json.specs.View.{members_view}
use Rattle.serde_json.specs.declared.value.Value.{Value}
use Rattle.command_reader.specs.Members.{named_within}

pub list_any-map : {A B : Type 0} (p : B → Bool) (f : A → B) (xs : List A) → list_any p (map f xs) ≡ list_any (λ x. p (f x)) xs
list_any-map p f [] = refl
list_any-map p f (x ∷ xs) = ap (λ b. p (f x) || b) (list_any-map p f xs)

-- each key is one of the names
pub named_within-members_view : (names : List (List ℕ)) (es : List (String Global × Value))
    → list_all (λ key. list_any (bytes_eq (string_bytes key)) names) (keys_of es) ≡ named_within names (members_view es)
named_within-members_view names [] = refl
named_within-members_view names (e ∷ es) = ap (λ b. list_any (bytes_eq (string_bytes e.0)) names && b) (named_within-members_view names es)
