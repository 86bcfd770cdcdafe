-- The table of commands. A command is a JSON object with exactly the members of its kind, beside which `area` may stand
-- in each but a run; of members with one name the last counts.
use Rattle.std.specs.Prelude.{ℕ, List, [], ◌∷◌, if◌then◌else◌, Option, Some, None, option_map, option_and_then, codes}
use Rattle.std.specs.Str.{bytes_eq}
use Rattle.serde_json.specs.Data.{Data}
use Rattle.serde_json.specs.Find.{get, as_str}
use Rattle.command_reader.specs.Members.{has_only, text_at, session_at, entries_at, rule_at, best_at, area_at, line_at}
use Rattle.command_reader.specs.declared.command.AdminCommand.TheVariants as admin
use Rattle.command_reader.specs.declared.command.Called.{Called}
use Rattle.command_reader.specs.declared.command.Command.{Command}
use Rattle.command_reader.specs.declared.command.Command.TheVariants as command
use Rattle.command_reader.specs.declared.command.MatchLine.{MatchLine}
use Rattle.command_reader.specs.declared.command.SessionCommand.TheVariants as session

-- what a row gives to an object whose members all have one of these names
abbrev pub row : {T : Type 0} → List (List ℕ) → Data → Option T → Option T
row names d given = if has_only names d then given else None

-- f of two values, where both are there
abbrev pub both : {A B C : Type 0} → (A → B → C) → Option A → Option B → Option C
both f x y = option_and_then (λ a. option_map (f a) y) x

-- `do`, `uri` and `text`
abbrev pub put_row : Data → Option Command
put_row d =
    row (codes "do" ∷ codes "area" ∷ codes "uri" ∷ codes "text" ∷ []) d
    (both (λ uri text. command.Admin (admin.Put uri text)) (text_at (codes "uri") d) (text_at (codes "text") d))

-- `do` and `uri`
abbrev pub drop_row : Data → Option Command
drop_row d = row (codes "do" ∷ codes "area" ∷ codes "uri" ∷ []) d (option_map (λ uri. command.Admin (admin.Drop uri)) (text_at (codes "uri") d))

-- `do` and `entries`
abbrev pub publish_row : Data → Option Command
publish_row d = row (codes "do" ∷ codes "area" ∷ codes "entries" ∷ []) d (option_map (λ entries. command.Admin (admin.Publish entries)) (entries_at d))

-- `do` and `session`: the session's name
abbrev pub name_row : Data → Option (List ℕ)
name_row d = row (codes "do" ∷ codes "area" ∷ codes "session" ∷ []) d (session_at d)

-- `do`, `session`, `uri`, and `rule` if it stands there: the session's name, the uri and the rule
abbrev pub rule_row : Data → Option (List ℕ × List ℕ × Option (List ℕ))
rule_row d =
    row (codes "do" ∷ codes "area" ∷ codes "session" ∷ codes "uri" ∷ codes "rule" ∷ []) d
    (option_and_then (λ name. both (λ uri rule. (name, uri, rule)) (text_at (codes "uri") d) (rule_at d)) (session_at d))

abbrev pub activate_row : Data → Option Command
activate_row d = option_map (λ r. command.ForSession r.0 (session.Activate r.1 r.2)) (rule_row d)

abbrev pub deactivate_row : Data → Option Command
deactivate_row d = option_map (λ r. command.ForSession r.0 (session.Deactivate r.1 r.2)) (rule_row d)

-- what is matched, and what is said of the number of parses
abbrev pub asked_at : Data → Option (MatchLine × Option ℕ)
asked_at d = both (λ line best. (line, best)) (line_at d) (best_at d)

-- `do`, `session`, `tokens` or `keys`, and `best` if it stands there
abbrev pub match_row : Data → Option Command
match_row d =
    row (codes "do" ∷ codes "area" ∷ codes "session" ∷ codes "tokens" ∷ codes "keys" ∷ codes "best" ∷ []) d
    (both (λ name asked. command.ForSession name (session.Match asked.0 asked.1)) (session_at d) (asked_at d))

-- `do`, `uri`, `tokens` or `keys`, and `rule` and `best` if they stand there
abbrev pub try_row : Data → Option Command
try_row d =
    row (codes "do" ∷ codes "area" ∷ codes "uri" ∷ codes "rule" ∷ codes "tokens" ∷ codes "keys" ∷ codes "best" ∷ []) d
    (option_and_then (λ uri. both (λ rule asked. command.Try (record { uri = uri; rule = rule; line = asked.0; best = asked.1 }))
    (rule_at d) (asked_at d)) (text_at (codes "uri") d))

-- `do` alone, without an area
abbrev pub run_row : Data → Option Command
run_row d = row (codes "do" ∷ []) d (Some command.Run)

-- the command by the row of its `do`
abbrev pub row_of : List ℕ → Data → Option Command
row_of verb d =
    if bytes_eq verb (codes "put") then put_row d
    else if bytes_eq verb (codes "drop") then drop_row d
    else if bytes_eq verb (codes "publish") then publish_row d
    else if bytes_eq verb (codes "open") then option_map command.Open (name_row d)
    else if bytes_eq verb (codes "close") then option_map command.Close (name_row d)
    else if bytes_eq verb (codes "activate") then activate_row d
    else if bytes_eq verb (codes "deactivate") then deactivate_row d
    else if bytes_eq verb (codes "match") then match_row d
    else if bytes_eq verb (codes "try") then try_row d
    else if bytes_eq verb (codes "run") then run_row d
    else None

-- the command by the row of its verb, with its area
abbrev pub called_of : Data → List ℕ → Option Called
called_of d verb = both (λ c area. record { area = area; command = c }) (row_of verb d) (area_at d)

-- the command that the value is
abbrev pub command_of : Data → Option Called
command_of d = option_and_then (called_of d) (option_and_then as_str (get (codes "do") d))
