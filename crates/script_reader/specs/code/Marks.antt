-- What signs before an operand and in an assignment are, as the machine asks for them.
use Rattle.std.specs.Prelude.{Option, Some, None}
use Rattle.vg_base.specs.declared.script.UnOp.{UnOp}
use Rattle.vg_base.specs.declared.script.UnOp.TheVariants as u
use Rattle.vg_base.specs.declared.script.AssignOp.{AssignOp}
use Rattle.vg_base.specs.declared.script.AssignOp.TheVariants as a
use Rattle.script_reader.specs.declared.lexing.lexeme.Sign.{Sign}
use Rattle.script_reader.specs.declared.lexing.lexeme.Sign.TheVariants as g

-- an operator before its operand
abbrev pub prefix_of : Sign → Option UnOp
prefix_of g.Minus = Some u.Neg
prefix_of g.Plus = Some u.Plus
prefix_of g.Not = Some u.Not
prefix_of _ = None

-- what assigns
abbrev pub assignment_of : Sign → Option AssignOp
assignment_of g.Set = Some a.Set
assignment_of g.AddTo = Some a.Add
assignment_of g.TakeFrom = Some a.Sub
assignment_of _ = None
