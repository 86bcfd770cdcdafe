-- What comes of what stands at a place, as the reading loop finds it.
use Rattle.std.specs.Prelude.{ℕ, Option, Some, None}
use Rattle.vg_base.specs.declared.script.Script.{Script}
use Rattle.script_reader.specs.declared.machine.stack.State.{State}
use Rattle.script_reader.specs.declared.lexing.cutting.Cut.{Cut}
use Rattle.script_reader.specs.declared.lexing.cutting.Cut.TheVariants.{End, Gap, Whole, Stop}
use Rattle.script_reader.specs.declared.read.Advance.{Advance}
use Rattle.script_reader.specs.declared.read.Advance.TheVariants.{On, Read, Unfit}
use Rattle.script_reader.specs.code.Statements.{step, result_of}

-- a lexeme of this length, with which the machine stands so
abbrev pub further : Option State → ℕ → Advance
further (Some next) len = On next len
further None len = Unfit

-- the end of the text
abbrev pub ending : Option Script → Advance
ending (Some script) = Read script
ending None = Unfit

abbrev pub advance : State → Cut → Advance
advance state (Gap len) = On state len
advance state (Whole lexeme len) = further (step state lexeme) len
advance state Stop = Unfit
advance state End = ending (result_of state)
