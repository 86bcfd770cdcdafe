-- What signs stand for, and how tightly operators hold their operands (ECMA-262, the grammar of expressions).
use Rattle.std.specs.Prelude.{ℕ, List, Option, Some, None, codes}
use Rattle.vg_base.specs.declared.script.BinOp.{BinOp}
use Rattle.vg_base.specs.declared.script.BinOp.TheVariants as b
use Rattle.script_reader.specs.declared.lexing.lexeme.Sign.{Sign}
use Rattle.script_reader.specs.declared.lexing.lexeme.Sign.TheVariants as g

-- how a sign is written
abbrev pub sign_text : Sign → List ℕ
sign_text g.Or = codes "||"
sign_text g.And = codes "&&"
sign_text g.Same = codes "==="
sign_text g.NotSame = codes "!=="
sign_text g.Equal = codes "=="
sign_text g.NotEqual = codes "!="
sign_text g.Less = codes "<"
sign_text g.LessEqual = codes "<="
sign_text g.Greater = codes ">"
sign_text g.GreaterEqual = codes ">="
sign_text g.Plus = codes "+"
sign_text g.Minus = codes "-"
sign_text g.Times = codes "*"
sign_text g.Over = codes "/"
sign_text g.Rem = codes "%"
sign_text g.Not = codes "!"
sign_text g.Set = codes "="
sign_text g.AddTo = codes "+="
sign_text g.TakeFrom = codes "-="
sign_text g.Question = codes "?"
sign_text g.Colon = codes ":"
sign_text g.Semicolon = codes ";"
sign_text g.Comma = codes ","
sign_text g.Dot = codes "."
sign_text g.RoundOpen = codes "("
sign_text g.RoundClose = codes ")"
sign_text g.SquareOpen = codes "["
sign_text g.SquareClose = codes "]"
sign_text g.CurlyOpen = codes "{"
sign_text g.CurlyClose = codes "}"

-- an operator between two operands
abbrev pub operator_of : Sign → Option BinOp
operator_of g.Or = Some b.Or
operator_of g.And = Some b.And
operator_of g.Equal = Some b.Eq
operator_of g.Same = Some b.Eq
operator_of g.NotEqual = Some b.Ne
operator_of g.NotSame = Some b.Ne
operator_of g.Less = Some b.Lt
operator_of g.LessEqual = Some b.Le
operator_of g.Greater = Some b.Gt
operator_of g.GreaterEqual = Some b.Ge
operator_of g.Plus = Some b.Add
operator_of g.Minus = Some b.Sub
operator_of g.Times = Some b.Mul
operator_of g.Over = Some b.Div
operator_of g.Rem = Some b.Rem
operator_of _ = None

-- the ladder of operators, from the loosest to the tightest
abbrev pub level : BinOp → ℕ
level b.Or = 1
level b.And = 2
level b.Eq = 3
level b.Ne = 3
level b.Lt = 4
level b.Le = 4
level b.Gt = 4
level b.Ge = 4
level b.Add = 5
level b.Sub = 5
level b.Mul = 6
level b.Div = 6
level b.Rem = 6
