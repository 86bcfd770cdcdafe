use Rattle.std.proofs.Common.{rules}
use Rattle.script_reader.proofs.Latest.{latest_chars}
use Rattle.script_reader.proofs.machine.views.value_of.Goals as goal

pub returns-in_ok-of-in-Latest : goal.returns-in_ok-of-in-Latest
returns-in_ok-of-in-Latest c = search (rules, latest_chars)
