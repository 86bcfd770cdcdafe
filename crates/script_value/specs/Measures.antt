-- How large a value is. Each measure is given for one level, with what it finds in the inner values in their places.
use Rattle.std.specs.Prelude.{ℕ, ◌+◌, ◌-◌, ◌^◌, min, max, sum, List, [], ◌∷◌, map}
use Rattle.std.specs.Map.{keys_of, values_of}
use Rattle.vg_base.specs.Characters.{byte_len}
use Rattle.script_value.specs.declared.measures.Measures.{Measures}
use Rattle.script_value.specs.declared.value.Value.{Value, fold-Value}
use Rattle.script_value.specs.declared.value.Value.TheOpen.{Value-F}

-- the largest of some numbers, 0 where there is none
abbrev pub largest : List ℕ → ℕ
largest [] = 0
largest (n ∷ ns) = max n (largest ns)

abbrev pub held_of_level : Value-F ℕ → ℕ
held_of_level (Value-F.List values) = 1 + sum values
held_of_level (Value-F.Record members) = 1 + sum (values_of members)
held_of_level scalar = 1

-- how many values a value holds, itself among them
abbrev pub held : Value → ℕ
held = fold-Value ℕ held_of_level

-- how many bytes the keys take
abbrev pub key_bytes : {V : Type 0} → List (List ℕ × V) → ℕ
key_bytes members = sum (map byte_len (keys_of members))

abbrev pub text_bytes_of_level : Value-F ℕ → ℕ
text_bytes_of_level (Value-F.Str text) = byte_len text
text_bytes_of_level (Value-F.List values) = sum values
text_bytes_of_level (Value-F.Record members) = key_bytes members + sum (values_of members)
text_bytes_of_level scalar = 0

-- how many bytes all strings and keys in a value take
abbrev pub text_bytes : Value → ℕ
text_bytes = fold-Value ℕ text_bytes_of_level

abbrev pub longest_text_of_level : Value-F ℕ → ℕ
longest_text_of_level (Value-F.Str text) = byte_len text
longest_text_of_level (Value-F.List values) = largest values
longest_text_of_level (Value-F.Record members) = largest (values_of members)
longest_text_of_level scalar = 0

-- how many bytes the longest string in a value takes; keys don't count
abbrev pub longest_text : Value → ℕ
longest_text = fold-Value ℕ longest_text_of_level

abbrev pub depth_of_level : Value-F ℕ → ℕ
depth_of_level (Value-F.List values) = 1 + largest values
depth_of_level (Value-F.Record members) = 1 + largest (values_of members)
depth_of_level scalar = 1

-- one more than the deepest part; a value without parts is one deep
abbrev pub depth : Value → ℕ
depth = fold-Value ℕ depth_of_level

-- ---- all four at once, each counted up to the greatest number of 64 bits

abbrev pub capped : ℕ → ℕ
capped n = min n (2 ^ 64 - 1)

abbrev pub measures : Value → Measures
measures value = record {
  text = capped (longest_text value);
  values = capped (held value);
  bytes = capped (text_bytes value);
  depth = capped (depth value);
}

-- of the items of a list together, and of the members of a record
abbrev pub of_items : List Value → Measures
of_items values = record {
  text = capped (largest (map longest_text values));
  values = capped (sum (map held values));
  bytes = capped (sum (map text_bytes values));
  depth = capped (largest (map depth values));
}

abbrev pub of_members : List (List ℕ × Value) → Measures
of_members members = record {
  text = capped (largest (map longest_text (values_of members)));
  values = capped (sum (map held (values_of members)));
  bytes = capped (key_bytes members + sum (map text_bytes (values_of members)));
  depth = capped (largest (map depth (values_of members)));
}

abbrev pub no_parts : Measures
no_parts = record { text = 0; values = 0; bytes = 0; depth = 0 }

abbrev pub of_text : ℕ → Measures
of_text bytes = record { text = bytes; values = 1; bytes = bytes; depth = 1 }

-- of some parts and more of them
abbrev pub both : Measures → Measures → Measures
both these those = record {
  text = max these.text those.text;
  values = capped (these.values + those.values);
  bytes = capped (these.bytes + those.bytes);
  depth = max these.depth those.depth;
}

-- of some parts and a key
abbrev pub with_key : List ℕ → Measures → Measures
with_key key parts = record parts { bytes = capped (parts.bytes + byte_len key) }

-- of the list or the record that has these parts
abbrev pub around : Measures → Measures
around parts = record parts { values = capped (parts.values + 1); depth = capped (parts.depth + 1) }
