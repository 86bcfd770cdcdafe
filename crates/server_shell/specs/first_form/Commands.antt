-- The commands that are answered today, as JSON values (RFC 8259).
use Rattle.std.specs.Prelude.{◌≡◌, ℕ, ◌==◌, List, [], ◌∷◌, Bool, false, if◌then◌else◌, Option, Some, None, option_map, option_and_then, codes, chars, Result, Ok, Err}
use Rattle.std.specs.Option.{option_map_or}
use Rattle.std.specs.Str.{is_utf8, bytes_eq}
use Rattle.vg_base.specs.declared.refused.Refused.{Refused}
use Rattle.vg_base.specs.declared.refused.Refused.TheVariants as refused
use Rattle.serde_json.specs.Data.{Data, Items, no_items, item}
use Rattle.serde_json.specs.Events.{members_len}
use Rattle.serde_json.specs.Find.{get, as_str, as_array, as_object}
use Rattle.serde_json.specs.Read.{read}
use Rattle.server_shell.specs.declared.first_form.command.Command.{Command}
use Rattle.server_shell.specs.declared.first_form.command.Command.TheVariants as command
use Rattle.server_shell.specs.declared.first_form.command.NoCommand.{NoCommand}

-- the JSON value of a line; none where the bytes aren't UTF-8
abbrev pub value_of : List ℕ → Option Data
value_of line = if is_utf8 line then read line else None

-- the characters of a string
abbrev pub text_of : Data → Option (List ℕ)
text_of d = option_map chars (as_str d)

-- the texts of an array of strings
abbrev pub texts_of : Items → Option (List (List ℕ))
texts_of no_items = Some []
texts_of (item d ds) = option_and_then (λ t. option_map (λ ts. t ∷ ts) (texts_of ds)) (text_of d)

-- an object with so many members
abbrev pub has_members : ℕ → Data → Bool
has_members n d = option_map_or (λ ms. members_len ms == n) (as_object d) false

abbrev pub text_at : List ℕ → Data → Option (List ℕ)
text_at name d = option_and_then text_of (get name d)

abbrev pub texts_at : List ℕ → Data → Option (List (List ℕ))
texts_at name d = option_and_then texts_of (option_and_then as_array (get name d))

-- `do`, `uri` and `text`
abbrev pub put_row : Data → Option Command
put_row d =
    if has_members 3 d
    then option_and_then
    (λ uri. option_map (λ text. command.Put uri text) (text_at (codes "text") d))
    (text_at (codes "uri") d)
    else None

-- `do` and `entries`
abbrev pub publish_row : Data → Option Command
publish_row d =
    if has_members 2 d
    then option_map command.Publish (texts_at (codes "entries") d)
    else None

-- `do`, `uri` and `tokens`
abbrev pub try_row : Data → Option Command
try_row d =
    if has_members 3 d
    then option_and_then
    (λ uri. option_map (λ tokens. command.Try uri tokens) (texts_at (codes "tokens") d))
    (text_at (codes "uri") d)
    else None

-- `do` alone
abbrev pub run_row : Data → Option Command
run_row d = if has_members 1 d then Some command.Run else None

abbrev pub row_of : List ℕ → Data → Option Command
row_of verb d =
    if bytes_eq verb (codes "put") then put_row d
    else if bytes_eq verb (codes "publish") then publish_row d
    else if bytes_eq verb (codes "try") then try_row d
    else if bytes_eq verb (codes "run") then run_row d
    else None

-- the command that the value is
abbrev pub command_of : Data → Option Command
command_of d = option_and_then (λ verb. row_of verb d) (option_and_then as_str (get (codes "do") d))

-- the command of a line
abbrev pub command_in : List ℕ → Option Command
command_in line = option_and_then command_of (value_of line)

abbrev pub no_command : NoCommand
no_command = record {}

-- what a reader finds: a value, or that there is none; want of memory is free
abbrev pub GivesIfThere : {T : Type 0} → Result T (Refused NoCommand) → Option T → Type 0
GivesIfThere (Ok x) found = found ≡ Some x
GivesIfThere (Err (refused.Fault fault)) found = found ≡ None
GivesIfThere (Err refused.Memory) found = Unit {0}
