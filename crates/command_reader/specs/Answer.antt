-- What a line is: no JSON text, no command, or a command.
use Rattle.std.specs.Prelude.{ℕ, List, if◌then◌else◌, Option, Some, None, Result, Err}
use Rattle.std.specs.Option.{ok_or}
use Rattle.std.specs.Str.{is_utf8}
use Rattle.serde_json.specs.Data.{Data}
use Rattle.serde_json.specs.Read.{read}
use Rattle.command_reader.specs.Table.{command_of}
use Rattle.command_reader.specs.declared.command.Called.{Called}
use Rattle.command_reader.specs.declared.refused.LineFault.{LineFault}
use Rattle.command_reader.specs.declared.refused.LineFault.TheVariants.{BadJson, NotCommand}

-- the JSON value of a line; none where the bytes aren't UTF-8 (RFC 8259 section 8.1)
abbrev pub value_of : List ℕ → Option Data
value_of line = if is_utf8 line then read line else None

-- what the table gives; where it gives nothing there is no command
abbrev pub or_not_command : {T : Type 0} → Option T → Result T LineFault
or_not_command found = ok_or found NotCommand

abbrev pub answer_for : Option Data → Result Called LineFault
answer_for (Some d) = or_not_command (command_of d)
answer_for None = Err BadJson

-- the command of a line, or why it gives none
abbrev pub answer_to : List ℕ → Result Called LineFault
answer_to line = answer_for (value_of line)
