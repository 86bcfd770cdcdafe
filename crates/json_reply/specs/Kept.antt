-- Replies as programs keep them: numbers have 64 bits, texts are of Unicode's scalar values, and script values are kept,
-- so that the keys of their records rise. And how deep the values in a reply may be.
use Rattle.std.specs.Prelude.{◌≡◌, ℕ, ◌<◌, ◌≤◌, ◌^◌, List, true, Option, IfSome, ⊤}
use Rattle.std.specs.List.{AllByRecursion}
use Rattle.std.specs.Str.{all_scalars}
use Rattle.vg_base.specs.Limits as limits
use Rattle.vg_base.specs.declared.numbers.VersionNo.{VersionNo}
use Rattle.script_value.specs.Kept as value
use Rattle.script_value.specs.Measures.{depth}
use Rattle.script_value.specs.declared.value.Value.{Value}
use Rattle.linker.specs.declared.set_fault.SetFault.{SetFault}
use Rattle.json_reply.specs.declared.reply.BestResult.{BestResult}
use Rattle.json_reply.specs.declared.reply.BestResult.TheVariants.{Given, Fault}
use Rattle.json_reply.specs.declared.reply.Body.{Body}
use Rattle.json_reply.specs.declared.reply.Body.TheVariants.{Staged, Dropped, Opened, Closed, Ran, Memory, Published, Activated, Deactivated, Match, Best, NoMatch, TagFault, Refused, Faulty}
use Rattle.json_reply.specs.declared.reply.Reply.{Reply}

abbrev pub IsNumber : ℕ → Type 0
IsNumber n = n < 2 ^ 64

abbrev pub IsText : List ℕ → Type 0
IsText text = all_scalars text ≡ true

-- what stands in a session alone
abbrev pub IsCount : Option ℕ → Type 0
IsCount count = IfSome count IsNumber

abbrev pub IsKeptFault : SetFault → Type 0
IsKeptFault fault = IsNumber fault.place.column × IsNumber fault.place.line × IsText fault.uri

abbrev pub IsKeptResult : BestResult → Type 0
IsKeptResult (Given meant) = value.IsKept meant
IsKeptResult (Fault fault) = IsText fault.rule × IsText fault.uri

abbrev pub IsKeptBody : Body → Type 0
IsKeptBody Staged = ⊤
IsKeptBody Dropped = ⊤
IsKeptBody Opened = ⊤
IsKeptBody Closed = ⊤
IsKeptBody Ran = ⊤
IsKeptBody Memory = ⊤
IsKeptBody (Published version documents) = IsNumber documents × IsNumber version.0
IsKeptBody (Activated version) = IsNumber version.0
IsKeptBody (Deactivated version) = IsNumber version.0
IsKeptBody (Match version uri rule meant missing) = IsCount missing × value.IsKept meant × IsText rule × IsText uri × IsNumber version.0
IsKeptBody (Best version uri rule results missing) =
    IsCount missing × AllByRecursion IsKeptResult results × IsText rule × IsText uri × IsNumber version.0
IsKeptBody (NoMatch version missing) = IsCount missing × IsNumber version.0
IsKeptBody (TagFault version uri rule tag missing) = IsCount missing × IsText rule × IsText uri × IsNumber version.0
IsKeptBody (Refused why cause version) = IfSome version (λ (v : VersionNo). IsNumber v.0)
IsKeptBody (Faulty first count) = IsNumber count × AllByRecursion IsKeptFault first

-- a reply that a program can hold
pub record IsKept (reply : Reply) : Type 0 where
  pub line : IsNumber reply.line
  pub area : IsNumber reply.area.0
  pub body : IsKeptBody reply.body

-- ---- depth

-- no deeper than scripts may give
abbrev pub IsShallowValue : Value → Type 0
IsShallowValue meant = depth meant ≤ limits.value_depth

abbrev pub IsShallowResult : BestResult → Type 0
IsShallowResult (Given meant) = IsShallowValue meant
IsShallowResult (Fault fault) = ⊤

-- so is each value of the body
abbrev pub IsShallowBody : Body → Type 0
IsShallowBody (Match version uri rule meant missing) = IsShallowValue meant
IsShallowBody (Best version uri rule results missing) = AllByRecursion IsShallowResult results
IsShallowBody other = ⊤

abbrev pub IsShallow : Reply → Type 0
IsShallow reply = IsShallowBody reply.body
