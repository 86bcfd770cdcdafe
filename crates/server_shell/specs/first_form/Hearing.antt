-- What is heard in a line.
use Rattle.std.specs.Prelude.{ℕ, nat_lt, Bool, List, length, ◌==◌, ◌||◌, if◌then◌else◌, None, Some}
use Rattle.std.specs.declared.option.Option.{Option}
use Rattle.std.specs.List.{list_all}
use Rattle.std.specs.Option.{option_map_or}
use Rattle.vg_io.specs.declared.limits.TheConstants.{LINE_LIMIT}
use Rattle.server_shell.specs.declared.first_form.hearing.Heard.{Heard}
use Rattle.server_shell.specs.declared.first_form.hearing.Heard.TheVariants as heard
use Rattle.server_shell.specs.first_form.Commands.{command_in}

-- only spaces, tabs and carriage returns
abbrev pub is_blank_line : List ℕ → Bool
is_blank_line line = list_all (λ c. (c == 32 || c == 9) || c == 13) line

-- nothing is heard in a blank line
abbrev pub hears : List ℕ → Option Heard
hears line =
    if nat_lt LINE_LIMIT (length line) then Some heard.Long
    else if is_blank_line line then None
    else Some (option_map_or heard.Said (command_in line) heard.Unknown)
