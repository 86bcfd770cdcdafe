-- The one answer of each text, as a function: other definitions may cite it. The law `each_text_has_one_answer` says which it is: the one that `Reads` allows.
use Rattle.std.specs.Prelude.{ℕ, zero, suc, ◌+◌, List, length, drop, Result, Ok, Err}
use Rattle.vg_base.specs.declared.script.Script.{Script}
use Rattle.script_reader.specs.declared.machine.stack.State.{State}
use Rattle.script_reader.specs.declared.read.Advance.{Advance}
use Rattle.script_reader.specs.declared.read.Advance.TheVariants.{On, Read, Unfit}
use Rattle.script_reader.specs.declared.refused.ScriptSyntax.{ScriptSyntax}
use Rattle.script_reader.specs.code.Advances.{advance}
use Rattle.script_reader.specs.code.Front.{front}
use Rattle.script_reader.specs.code.Statements.{start}

abbrev pub Answer : Type 0
Answer = Result Script ScriptSyntax

-- reading goes on, or ends
abbrev pub answer_on : Advance → ℕ → (State → ℕ → Answer) → Answer
answer_on (On next len) at more = more next (at + len)
answer_on (Read script) at more = Ok script
answer_on Unfit at more = Err (record { at = at })

-- the answer from a place on, where so many more characters may come
unfoldable pub answer_from : ℕ → List ℕ → State → ℕ → Answer
answer_from zero text state at = Err (record { at = at })
answer_from (suc fuel) text state at = answer_on (advance state (front (drop at text))) at (λ next on. answer_from fuel text next on)

abbrev pub script_answer : List ℕ → Answer
script_answer text = answer_from (suc (length text)) text start 0
