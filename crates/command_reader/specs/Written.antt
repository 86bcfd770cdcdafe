-- The JSON value of each command: what is written for it so that it is read back. A member that may be left out is left
-- out where its absence says the same. The members stand in the order of their names' bytes, as serde_json keeps them.
use Rattle.std.specs.Prelude.{ℕ, ◌==◌, List, [], ◌∷◌, if◌then◌else◌, Option, Some, None, option_map, codes, encode_utf8_all}
use Rattle.serde_json.specs.Data.{Data, unsigned, number, string, array, object, Items, no_items, item, Members, member, no_members}
use Rattle.command_reader.specs.declared.command.AdminCommand.TheVariants.{Put, Drop, Publish}
use Rattle.command_reader.specs.declared.command.Called.{Called}
use Rattle.command_reader.specs.declared.command.Command.{Command}
use Rattle.command_reader.specs.declared.command.Command.TheVariants.{Admin, Open, Close, ForSession, Try, Run}
use Rattle.command_reader.specs.declared.command.MatchLine.{MatchLine}
use Rattle.command_reader.specs.declared.command.MatchLine.TheVariants.{Tokens, Keys}
use Rattle.command_reader.specs.declared.command.SessionCommand.TheVariants.{Activate, Deactivate, Match}

-- ---- values

abbrev pub text_data : List ℕ → Data
text_data text = string (encode_utf8_all text)

abbrev pub texts_items : List (List ℕ) → Items
texts_items [] = no_items
texts_items (text ∷ texts) = item (text_data text) (texts_items texts)

abbrev pub texts_data : List (List ℕ) → Data
texts_data texts = array (texts_items texts)

abbrev pub number_data : ℕ → Data
number_data n = number (unsigned n)

-- ---- members

-- a member: its name, and its value, if it isn't left out
abbrev pub Field : Type 0
Field = List ℕ × Option Data

abbrev pub with_field : List ℕ → Option Data → Members → Members
with_field name None ms = ms
with_field name (Some d) ms = member name d ms

abbrev pub members_of : List Field → Members
members_of [] = no_members
members_of (field ∷ fields) = with_field field.0 field.1 (members_of fields)

-- `do`
abbrev pub verb : List ℕ → Field
verb word = (codes "do", Some (string word))

-- `area`, which is left out at the first
abbrev pub area_field : ℕ → Field
area_field area = (codes "area", if area == 0 then None else Some (number_data area))

abbrev pub text_field : List ℕ → List ℕ → Field
text_field name text = (name, Some (text_data text))

abbrev pub rule_field : Option (List ℕ) → Field
rule_field rule = (codes "rule", option_map text_data rule)

abbrev pub best_field : Option ℕ → Field
best_field best = (codes "best", option_map number_data best)

abbrev pub keys_value : MatchLine → Option Data
keys_value (Tokens texts) = None
keys_value (Keys text) = Some (text_data text)

abbrev pub tokens_value : MatchLine → Option Data
tokens_value (Tokens texts) = Some (texts_data texts)
tokens_value (Keys text) = None

-- `keys`, at a line of keys
abbrev pub keys_field : MatchLine → Field
keys_field line = (codes "keys", keys_value line)

-- `tokens`, at a line of tokens
abbrev pub tokens_field : MatchLine → Field
tokens_field line = (codes "tokens", tokens_value line)

-- ---- the table

-- the members of each command beside `area`
abbrev pub fields_of : Command → List Field
fields_of (Admin (Put uri text)) = verb (codes "put") ∷ text_field (codes "text") text ∷ text_field (codes "uri") uri ∷ []
fields_of (Admin (Drop uri)) = verb (codes "drop") ∷ text_field (codes "uri") uri ∷ []
fields_of (Admin (Publish entries)) = verb (codes "publish") ∷ (codes "entries", Some (texts_data entries)) ∷ []
fields_of (Open name) = verb (codes "open") ∷ text_field (codes "session") name ∷ []
fields_of (Close name) = verb (codes "close") ∷ text_field (codes "session") name ∷ []
fields_of (ForSession name (Activate uri rule)) =
    verb (codes "activate") ∷ rule_field rule ∷ text_field (codes "session") name ∷ text_field (codes "uri") uri ∷ []
fields_of (ForSession name (Deactivate uri rule)) =
    verb (codes "deactivate") ∷ rule_field rule ∷ text_field (codes "session") name ∷ text_field (codes "uri") uri ∷ []
fields_of (ForSession name (Match line best)) =
    best_field best ∷ verb (codes "match") ∷ keys_field line ∷ text_field (codes "session") name ∷ tokens_field line ∷ []
fields_of (Try tried) =
    best_field tried.best ∷ verb (codes "try") ∷ keys_field tried.line ∷ rule_field tried.rule ∷ tokens_field tried.line
    ∷ text_field (codes "uri") tried.uri ∷ []
fields_of Run = verb (codes "run") ∷ []

-- the JSON value of a command with its area
abbrev pub written : Called → Data
written called = object (members_of (area_field called.area.0 ∷ fields_of called.command))
