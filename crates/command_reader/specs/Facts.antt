-- What a command has, whichever command it is, and what holds of every command that a line gives.
use Rattle.std.specs.Prelude.{◌≡◌, ℕ, ◌≤◌, List, [], ◌∷◌, ◌++◌, length, true, Option, Some, None, IfSome, option_to_list, unwrap_or}
use Rattle.std.specs.List.{list_all}
use Rattle.std.specs.Str.{all_scalars}
use Rattle.vg_base.specs.Characters.{byte_len}
use Rattle.vg_base.specs.Limits as limits
use Rattle.command_reader.specs.declared.command.AdminCommand.TheVariants.{Put, Drop, Publish}
use Rattle.command_reader.specs.declared.command.Called.{Called}
use Rattle.command_reader.specs.declared.command.Command.{Command}
use Rattle.command_reader.specs.declared.command.Command.TheVariants.{Admin, Open, Close, ForSession, Try, Run}
use Rattle.command_reader.specs.declared.command.MatchLine.{MatchLine}
use Rattle.command_reader.specs.declared.command.MatchLine.TheVariants.{Tokens, Keys}
use Rattle.command_reader.specs.declared.command.SessionCommand.{SessionCommand}
use Rattle.command_reader.specs.declared.command.SessionCommand.TheVariants.{Activate, Deactivate, Match}

-- the entries of a publish
abbrev pub entries_of : Command → Option (List (List ℕ))
entries_of (Admin (Put uri text)) = None
entries_of (Admin (Drop uri)) = None
entries_of (Admin (Publish entries)) = Some entries
entries_of (Open name) = None
entries_of (Close name) = None
entries_of (ForSession name asked) = None
entries_of (Try tried) = None
entries_of Run = None

-- the name of the session that a command is for
abbrev pub session_of : Command → Option (List ℕ)
session_of (Admin asked) = None
session_of (Open name) = Some name
session_of (Close name) = Some name
session_of (ForSession name asked) = Some name
session_of (Try tried) = None
session_of Run = None

-- ---- how many parses are asked for

-- what is said of it to a session, if something is
abbrev pub best_asked : SessionCommand → Option ℕ
best_asked (Activate uri rule) = None
best_asked (Deactivate uri rule) = None
best_asked (Match line best) = best

-- what a match or a try says of it, if it says something
abbrev pub best_of : Command → Option ℕ
best_of (Admin asked) = None
best_of (Open name) = None
best_of (Close name) = None
best_of (ForSession name asked) = best_asked asked
best_of (Try tried) = tried.best
best_of Run = None

-- what is asked for then: at most so many parses, and one, the first, where nothing is said
abbrev pub parses_of : Option ℕ → ℕ
parses_of best = unwrap_or best 1

-- ---- texts

abbrev pub texts_in_line : MatchLine → List (List ℕ)
texts_in_line (Tokens texts) = texts
texts_in_line (Keys text) = text ∷ []

abbrev pub texts_in_asked : SessionCommand → List (List ℕ)
texts_in_asked (Activate uri rule) = uri ∷ option_to_list rule
texts_in_asked (Deactivate uri rule) = uri ∷ option_to_list rule
texts_in_asked (Match line best) = texts_in_line line

-- all texts of a command
abbrev pub texts_in : Command → List (List ℕ)
texts_in (Admin (Put uri text)) = uri ∷ text ∷ []
texts_in (Admin (Drop uri)) = uri ∷ []
texts_in (Admin (Publish entries)) = entries
texts_in (Open name) = name ∷ []
texts_in (Close name) = name ∷ []
texts_in (ForSession name asked) = name ∷ texts_in_asked asked
texts_in (Try tried) = tried.uri ∷ (option_to_list tried.rule ++ texts_in_line tried.line)
texts_in Run = []

-- ---- what holds of every command that a line gives

-- a name of a session: not empty, and not too long
abbrev pub IsName : List ℕ → Type 0
IsName name = (1 ≤ byte_len name) × (byte_len name ≤ limits.session_name_bytes)

pub record IsCalled (called : Called) : Type 0 where
  pub area : called.area.0 ≤ limits.last_area
  -- a run is for no area
  pub run : called.command ≡ Run → called.area.0 ≡ 0
  pub session : IfSome (session_of called.command) IsName
  pub entries : IfSome (entries_of called.command) (λ entries. length entries ≤ limits.entries)
  pub best : IfSome (best_of called.command) (λ best. (1 ≤ best) × (best ≤ limits.parses))
  -- each text is made of scalar values (Unicode section 3.9)
  pub scalars : list_all all_scalars (texts_in called.command) ≡ true
