-- What the members of a JSON object say (RFC 8259 section 4). A JSON string is its bytes, a text its characters.
use Rattle.std.specs.Prelude.{ℕ, ◌&&◌, List, [], ◌∷◌, length, Bool, true, false, if◌then◌else◌, nat_le, Option, Some, None, option_map, option_and_then, codes, chars}
use Rattle.std.specs.List.{list_any}
use Rattle.std.specs.Option.{option_map_or}
use Rattle.std.specs.Str.{bytes_eq}
use Rattle.vg_base.specs.Characters.{byte_len}
use Rattle.vg_base.specs.Limits as limits
use Rattle.vg_base.specs.declared.numbers.Area.{Area}
use Rattle.serde_json.specs.Data.{Data, Items, no_items, item, Members, no_members, member}
use Rattle.serde_json.specs.Find.{get, as_str, as_array, as_object, as_number, as_u64}
use Rattle.command_reader.specs.declared.command.MatchLine.{MatchLine}
use Rattle.command_reader.specs.declared.command.MatchLine.TheVariants.{Tokens, Keys}

-- each member has one of these names
abbrev pub named_within : List (List ℕ) → Members → Bool
named_within names no_members = true
named_within names (member name d ms) = list_any (bytes_eq name) names && named_within names ms

-- the value is an object, and each of its members has one of these names
abbrev pub has_only : List (List ℕ) → Data → Bool
has_only names d = option_map_or (named_within names) (as_object d) false

-- ---- a value as what a member holds

-- the characters of a string
abbrev pub text_of : Data → Option (List ℕ)
text_of d = option_map chars (as_str d)

-- the texts of the items, which are strings
abbrev pub texts_of : Items → Option (List (List ℕ))
texts_of no_items = Some []
texts_of (item d ds) = option_and_then (λ t. option_map (λ ts. t ∷ ts) (texts_of ds)) (text_of d)

-- the texts of an array of strings
abbrev pub list_of : Data → Option (List (List ℕ))
list_of d = option_and_then texts_of (as_array d)

-- a list that isn't too long
abbrev pub few_entries : List (List ℕ) → Option (List (List ℕ))
few_entries entries = if nat_le (length entries) limits.entries then Some entries else None

-- a name of a session: not empty, and not too long
abbrev pub session_name : List ℕ → Option (List ℕ)
session_name name = if nat_le 1 (byte_len name) && nat_le (byte_len name) limits.session_name_bytes then Some name else None

-- a number within bounds
abbrev pub within : ℕ → ℕ → ℕ → Option ℕ
within low high n = if nat_le low n && nat_le n high then Some n else None

-- a whole number from low to high, without sign, fraction or exponent
abbrev pub number_of : ℕ → ℕ → Data → Option ℕ
number_of low high d = option_and_then (within low high) (option_and_then as_u64 (as_number d))

-- ---- the members

-- the text of the member
abbrev pub text_at : List ℕ → Data → Option (List ℕ)
text_at name d = option_and_then text_of (get name d)

-- `session`
abbrev pub session_at : Data → Option (List ℕ)
session_at d = option_and_then session_name (text_at (codes "session") d)

-- `entries`
abbrev pub entries_at : Data → Option (List (List ℕ))
entries_at d = option_and_then few_entries (option_and_then list_of (get (codes "entries") d))

-- what a member holds that may be missing
abbrev pub optional : {T : Type 0} → (Data → Option T) → Option Data → Option (Option T)
optional read None = Some None
optional read (Some d) = option_map Some (read d)

-- `rule`, which may be missing
abbrev pub rule_at : Data → Option (Option (List ℕ))
rule_at d = optional text_of (get (codes "rule") d)

-- `best`, which may be missing: a number from 1 on
abbrev pub best_at : Data → Option (Option ℕ)
best_at d = optional (number_of 1 limits.parses) (get (codes "best") d)

-- `area`: a number, which is 0 where it is missing
abbrev pub area_number : Option Data → Option ℕ
area_number None = Some 0
area_number (Some d) = number_of 0 limits.last_area d

abbrev pub area_of : ℕ → Area
area_of n = record { 0 = n }

abbrev pub area_at : Data → Option Area
area_at d = option_map area_of (area_number (get (codes "area") d))

-- exactly one of tokens and keys
abbrev pub one_of : Option Data → Option Data → Option MatchLine
one_of (Some tokens) None = option_map Tokens (list_of tokens)
one_of None (Some keys) = option_map Keys (text_of keys)
one_of None None = None
one_of (Some tokens) (Some keys) = None

-- `tokens` or `keys`
abbrev pub line_at : Data → Option MatchLine
line_at d = one_of (get (codes "tokens") d) (get (codes "keys") d)
