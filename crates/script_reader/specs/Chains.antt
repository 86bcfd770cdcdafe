-- What goes on behind a value: an operator with its right operand, or a step to a part. One node holds all of a row.
use Rattle.std.specs.Prelude.{[], ◌∷◌, ◌++◌}
use Rattle.vg_base.specs.declared.script.Expr.{Expr, out-Expr}
use Rattle.vg_base.specs.declared.script.Expr.TheVariants as e
use Rattle.vg_base.specs.declared.script.Expr.TheOpen.{Expr-F}
use Rattle.vg_base.specs.declared.script.Key.{Key}
use Rattle.vg_base.specs.declared.script.BinOp.{BinOp}

abbrev pub linked_to : Expr-F Expr Key → Expr → BinOp → Expr → Expr
linked_to (Expr-F.Chain first more) x op y = e.Chain first (more ++ (op, y) ∷ [])
linked_to _ x op y = e.Chain x ((op, y) ∷ [])

-- a value, and then an operator and its right operand
abbrev pub linked : Expr → BinOp → Expr → Expr
linked x op y = linked_to (out-Expr x) x op y

abbrev pub part_of : Expr-F Expr Key → Expr → Key → Expr
part_of (Expr-F.Part inner path) x key = e.Part inner (path ++ key ∷ [])
part_of _ x key = e.Part x (key ∷ [])

-- a value, and then a step to one of its parts
abbrev pub part : Expr → Key → Expr
part x key = part_of (out-Expr x) x key
