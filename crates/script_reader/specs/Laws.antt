-- Laws of reading.
use Rattle.std.specs.Prelude.{◌≡◌, ℕ, List, Some}
use Rattle.vg_base.specs.declared.script.Script.{Script}
use Rattle.script_reader.specs.declared.lexing.lexeme.Lexeme.{Lexeme}
use Rattle.script_reader.specs.declared.machine.stack.State.{State}
use Rattle.script_reader.specs.Grammar.{SpellsScript}
use Rattle.script_reader.specs.code.Statements.{start, run, result_of}
use Rattle.script_reader.specs.Reading.{IsScript, Begins, FirstUnfit, Reads}
use Rattle.script_reader.specs.Answers.{Answer, script_answer}

-- the machine reads this script from these lexemes
abbrev pub ReadsAs : List Lexeme → Script → Type 0
ReadsAs found script = (s : State) × (run start found ≡ Some s) × (result_of s ≡ Some script)

abbrev pub Complete : Type 0
Complete = (found : List Lexeme) (script : Script) → SpellsScript found script → ReadsAs found script

abbrev pub Sound : Type 0
Sound = (found : List Lexeme) (script : Script) → ReadsAs found script → SpellsScript found script

abbrev pub Viable : Type 0
Viable = (found : List Lexeme) (s : State) → run start found ≡ Some s → Begins found

-- the answer of each text is one that `Reads` allows
abbrev pub EachHasAnswer : Type 0
EachHasAnswer = (text : List ℕ) → Reads text (script_answer text)

-- and no other is
abbrev pub OneAnswer : Type 0
OneAnswer = (text : List ℕ) (x y : Answer) → Reads text x → Reads text y → x ≡ y

-- a text is one script at most
abbrev pub OneScript : Type 0
OneScript = (text : List ℕ) (x y : Script) → IsScript text x → IsScript text y → x ≡ y

-- it has one first place that fits none at most
abbrev pub OnePlace : Type 0
OnePlace = (text : List ℕ) (m n : ℕ) → FirstUnfit text m → FirstUnfit text n → m ≡ n

-- and not both
abbrev pub NotBoth : Type 0
NotBoth = (text : List ℕ) (script : Script) (at : ℕ) → IsScript text script → FirstUnfit text at → ⊥
