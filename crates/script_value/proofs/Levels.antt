-- What is found of a record, by what is found of its members' values.
use Rattle.std.proofs.Common.{◌≡◌, ℕ, ◌+◌, List, [], ◌∷◌, map, sum, refl, sym, ap, ap₂, ◌∙◌}
use Rattle.std.specs.Map.{keys_of, values_of}
use Rattle.vg_base.specs.Characters.{byte_len}
use Rattle.vg_base.proofs.Values.{values_mapped}
use Rattle.script_value.specs.Measures.{largest, longest_text, longest_text_of_level, held, held_of_level, key_bytes, text_bytes, text_bytes_of_level, depth, depth_of_level}
use Rattle.script_value.specs.declared.value.Value.{Value, Record, List as List_value, fold-roll-Value}
use Rattle.script_value.specs.declared.value.Value.TheVariants.{rolls-Record, rolls-List}
use Rattle.script_value.specs.declared.value.Value.TheOpen.{Value-F}

pub longest_text-Record : (members : List (List ℕ × Value)) → longest_text (Record members) ≡ largest (map longest_text (values_of members))
longest_text-Record members =
    ap longest_text (sym (rolls-Record members))
    ∙ fold-roll-Value ℕ longest_text_of_level (Value-F.Record members)
    ∙ ap largest (values_mapped longest_text members)

pub depth-Record : (members : List (List ℕ × Value)) → depth (Record members) ≡ 1 + largest (map depth (values_of members))
depth-Record members =
    ap depth (sym (rolls-Record members))
    ∙ fold-roll-Value ℕ depth_of_level (Value-F.Record members)
    ∙ ap (λ ns. 1 + largest ns) (values_mapped depth members)

pub held-Record : (members : List (List ℕ × Value)) → held (Record members) ≡ 1 + sum (map held (values_of members))
held-Record members =
    ap held (sym (rolls-Record members))
    ∙ fold-roll-Value ℕ held_of_level (Value-F.Record members)
    ∙ ap (λ ns. 1 + sum ns) (values_mapped held members)

keys_mapped : {X Y : Type 0} (f : X → Y) (es : List (List ℕ × X)) → keys_of (map (λ (p : List ℕ × X). (p.0, f p.1)) es) ≡ keys_of es
keys_mapped f [] = refl
keys_mapped f (e ∷ es) = ap (λ l. e.0 ∷ l) (keys_mapped f es)

pub text_bytes-Record : (members : List (List ℕ × Value)) → text_bytes (Record members) ≡ key_bytes members + sum (map text_bytes (values_of members))
text_bytes-Record members =
    ap text_bytes (sym (rolls-Record members))
    ∙ fold-roll-Value ℕ text_bytes_of_level (Value-F.Record members)
    ∙ ap₂ (λ ks ns. sum (map byte_len ks) + sum ns) (keys_mapped text_bytes members) (values_mapped text_bytes members)

pub longest_text-List : (values : List Value) → longest_text (List_value values) ≡ largest (map longest_text values)
longest_text-List values = ap longest_text (sym (rolls-List values)) ∙ fold-roll-Value ℕ longest_text_of_level (Value-F.List values)

pub held-List : (values : List Value) → held (List_value values) ≡ 1 + sum (map held values)
held-List values = ap held (sym (rolls-List values)) ∙ fold-roll-Value ℕ held_of_level (Value-F.List values)

pub text_bytes-List : (values : List Value) → text_bytes (List_value values) ≡ sum (map text_bytes values)
text_bytes-List values = ap text_bytes (sym (rolls-List values)) ∙ fold-roll-Value ℕ text_bytes_of_level (Value-F.List values)

pub depth-List : (values : List Value) → depth (List_value values) ≡ 1 + largest (map depth values)
depth-List values = ap depth (sym (rolls-List values)) ∙ fold-roll-Value ℕ depth_of_level (Value-F.List values)
