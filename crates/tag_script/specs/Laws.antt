-- What runs of scripts keep.
use Rattle.std.specs.Prelude.{◌≡◌, Bool, true, false, ◌&&◌, Option, Some, None, Ok, All, IfSome}
use Rattle.std.specs.List.{list_all}
use Rattle.std.specs.Map.{values_of}
use Rattle.vg_base.specs.declared.script.Script.{Script}
use Rattle.vg_base.specs.declared.script.Stmt.{Stmt, fold-Stmt}
use Rattle.vg_base.specs.declared.script.Stmt.TheOpen.{Stmt-F}
use Rattle.script_value.specs.Limits.{IsWithinLimits}
use Rattle.tag_script.specs.declared.env.Env.{Env}
use Rattle.tag_script.specs.Execution.{run}

abbrev other_only_looks : Option Bool → Bool
other_only_looks None = true
other_only_looks (Some looks) = looks

-- one level of a statement, with the answer for each part in its place
abbrev pub only_looks_level : Stmt-F Bool → Bool
only_looks_level Stmt-F.Empty = true
only_looks_level (Stmt-F.Block body) = list_all (λ looks. looks) body
only_looks_level (Stmt-F.Var name value) = false
only_looks_level (Stmt-F.If test first other) = first && other_only_looks other
only_looks_level (Stmt-F.Assign target path operator value) = false
only_looks_level (Stmt-F.Plain value) = true

-- no assignment and no `var` in it
abbrev pub only_looks : Stmt → Bool
only_looks = fold-Stmt Bool only_looks_level

-- a script without assignments and without `var` leaves the environment as it was
abbrev pub LookingChangesNothing : Type 0
LookingChangesNothing = (script : Script) (env after : Env) → list_all only_looks script.body ≡ true → run script env ≡ Ok after → after ≡ env

-- each value in it is within the limits of values
pub record IsWithin (env : Env) : Type 0 where
  pub vars : All IsWithinLimits (values_of env.vars)
  pub out : IsWithinLimits env.out
  pub rules : All IsWithinLimits (values_of env.rules)
  pub latest : IfSome env.latest IsWithinLimits

-- so they are after a script where they were before
abbrev pub RunsKeepLimits : Type 0
RunsKeepLimits = (script : Script) (env after : Env) → IsWithin env → run script env ≡ Ok after → IsWithin after

-- what a script sees of references and words
pub record SeesTheSame (this that : Env) : Type 0 where
  pub rules : this.rules ≡ that.rules
  pub latest : this.latest ≡ that.latest
  pub texts : this.texts ≡ that.texts
  pub latest_text : this.latest_text ≡ that.latest_text
  pub current_text : this.current_text ≡ that.current_text

-- a script changes none of it
abbrev pub RunsKeepReferences : Type 0
RunsKeepReferences = (script : Script) (env after : Env) → run script env ≡ Ok after → SeesTheSame env after
