-- From the clauses of the JSON reader to the value of a line.
use Rattle.std.proofs.Common.{◌≡◌, ℕ, List, Bool, true, false, if◌then◌else◌, Option, Some, None, Result, Ok, Err, IsUtf8, refl, ap, ◌∙◌}
use Rattle.std.proofs.lemmas.Str.{IsUtf8-from_is_utf8, is_utf8-from_IsUtf8}
use Rattle.std.specs.Str.{is_utf8}
use Rattle.serde_json.specs.Data.{Data}
use Rattle.serde_json.specs.Read.{read}
use Rattle.vg_base.specs.Refusals.{Gives}
use Rattle.vg_base.specs.declared.numbers.Area.{Area}
use Rattle.vg_base.specs.declared.refused.Refused.{Refused}
use Rattle.vg_base.specs.declared.refused.Refused.TheVariants.{Fault, Memory}
use Rattle.command_reader.specs.Answer.{value_of, or_not_command, answer_for, answer_to}
use Rattle.command_reader.specs.Table.{both, command_of}
use Rattle.command_reader.specs.declared.command.Called.{Called}
use Rattle.command_reader.specs.declared.command.Command.{Command}
use Rattle.command_reader.specs.declared.refused.LineFault.{LineFault}
use Rattle.command_reader.specs.declared.refused.LineFault.TheVariants.{NotCommand}

pub value_of-read : (line : List ℕ) (d : Data) → IsUtf8 line → read line ≡ Some d → value_of line ≡ Some d
value_of-read line d utf8 e = rw (is_utf8-from_IsUtf8 line utf8) e

none_by : (b : Bool) (o : Option Data) → (b ≡ true → o ≡ None) → (if b then o else None) ≡ None
none_by true o h = h refl
none_by false o h = refl

pub value_of-none : (line : List ℕ) → (IsUtf8 line → read line ≡ None) → value_of line ≡ None
value_of-none line h = none_by (is_utf8 line) (read line) (λ e. h (IsUtf8-from_is_utf8 line e))

-- what the table gives for a line's value is the line's answer
pub answer_to-value : (line : List ℕ) (d : Data) (r : Result Called (Refused LineFault)) → value_of line ≡ Some d
    → Gives r (or_not_command (command_of d)) → Gives r (answer_to line)
answer_to-value line d (Ok called) v e = ap answer_for v ∙ e
answer_to-value line d (Err (Fault fault)) v e = ap answer_for v ∙ e
answer_to-value line d (Err Memory) v e = tt

-- ---- a row of the table and an area

abbrev call : Command → Area → Called
call c area = record { area = area; command = c }

pub area_refused : (row : Option Command) (area : Option Area) (e : Refused LineFault) (out : Result Called (Refused LineFault)) → out ≡ Err e
    → Gives {A = Area} (Err e) (or_not_command area) → Gives out (or_not_command (both call row area))
area_refused row area Memory out same h = rw same tt
area_refused None None (Fault fault) out same h = let why : NotCommand ≡ fault = cc in rw same (ap Err why)
area_refused (Some c) None (Fault fault) out same h = let why : NotCommand ≡ fault = cc in rw same (ap Err why)
area_refused row (Some area) (Fault fault) out same h = absurd (cc)

pub row_refused : (row : Option Command) (area : Option Area) (e : Refused LineFault) (out : Result Called (Refused LineFault)) → out ≡ Err e
    → Gives {A = Command} (Err e) (or_not_command row) → Gives out (or_not_command (both call row area))
row_refused row area Memory out same h = rw same tt
row_refused None area (Fault fault) out same h = let why : NotCommand ≡ fault = cc in rw same (ap Err why)
row_refused (Some c) area (Fault fault) out same h = absurd (cc)

pub both_read : (row : Option Command) (area : Option Area) (c : Command) (a : Area) → or_not_command row ≡ Ok c → or_not_command area ≡ Ok a
    → or_not_command (both call row area) ≡ Ok (call c a)
both_read (Some c) (Some a) d b h k = let same : c ≡ d = cc in let there : a ≡ b = cc in cc
both_read None area d b h k = absurd (cc)
both_read (Some c) None d b h k = absurd (cc)
