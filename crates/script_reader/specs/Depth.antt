-- How deep the tree of a script is: how far goes what goes down it by calling itself. A leaf is one deep, and what holds parts is one deeper
-- than the deepest of them.
use Rattle.std.specs.Prelude.{ℕ, ◌+◌, max, List, [], ◌∷◌, map, Option, option_map, unwrap_or}
use Rattle.vg_base.specs.declared.script.Expr.{Expr}
use Rattle.vg_base.specs.declared.script.Expr.TheOpen.{Expr-F}
use Rattle.vg_base.specs.declared.script.Expr.TheFolds.{fold-Expr}
use Rattle.vg_base.specs.declared.script.Key.{Key, Key-F, fold-Key}
use Rattle.vg_base.specs.declared.script.Script.{Script}
use Rattle.vg_base.specs.declared.script.Stmt.{Stmt}
use Rattle.vg_base.specs.declared.script.Stmt.TheOpen.{Stmt-F}
use Rattle.vg_base.specs.declared.script.Stmt.TheFolds.{fold-Stmt}

-- the largest of some numbers, 0 where there is none
abbrev pub largest : List ℕ → ℕ
largest [] = 0
largest (n ∷ ns) = max n (largest ns)

-- one level of an expression, with the depths of its parts in their places
abbrev pub expr_level : Expr-F ℕ ℕ → ℕ
expr_level (Expr-F.List items) = 1 + largest items
expr_level (Expr-F.Record members) = 1 + largest (map (λ member. member.1) members)
expr_level (Expr-F.Choose test first second) = 1 + max test (max first second)
expr_level (Expr-F.Chain first more) = 1 + max first (largest (map (λ link. link.1) more))
expr_level (Expr-F.Unary op inner) = 1 + inner
expr_level (Expr-F.Part inner path) = 1 + max inner (largest path)
expr_level leaf = 1

abbrev pub key_level : Key-F ℕ ℕ → ℕ
key_level (Key-F.Word word) = 0
key_level (Key-F.Index index) = index

abbrev pub expr_depth : Expr → ℕ
expr_depth = fold-Expr ℕ ℕ expr_level key_level

abbrev pub key_depth : Key → ℕ
key_depth = fold-Key ℕ ℕ expr_level key_level

abbrev pub value_depth : Option Expr → ℕ
value_depth value = unwrap_or (option_map expr_depth value) 0

-- one level of a statement, with the depths of its parts in their places
abbrev pub stmt_level : Stmt-F ℕ → ℕ
stmt_level Stmt-F.Empty = 1
stmt_level (Stmt-F.Block body) = 1 + largest body
stmt_level (Stmt-F.Var name value) = 1 + value_depth value
stmt_level (Stmt-F.If test first other) = 1 + max (expr_depth test) (max first (unwrap_or other 0))
stmt_level (Stmt-F.Assign root path op value) = 1 + max (largest (map key_depth path)) (expr_depth value)
stmt_level (Stmt-F.Plain value) = 1 + expr_depth value

abbrev pub stmt_depth : Stmt → ℕ
stmt_depth = fold-Stmt ℕ stmt_level

abbrev pub script_depth : Script → ℕ
script_depth script = largest (map stmt_depth script.body)
