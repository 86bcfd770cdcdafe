-- What a script makes of an environment.
use Rattle.std.specs.Prelude.{ℕ, List, [], ◌∷◌, ◌++◌, map, if◌then◌else◌, Option, Some, None, Ok, is_some}
use Rattle.vg_base.specs.Pairs.{find, put}
use Rattle.vg_base.specs.declared.script.AssignOp.{AssignOp}
use Rattle.vg_base.specs.declared.script.AssignOp.TheVariants as assign
use Rattle.vg_base.specs.declared.script.Expr.{Expr}
use Rattle.vg_base.specs.declared.script.Key.{Key}
use Rattle.vg_base.specs.declared.script.Root.{Root}
use Rattle.vg_base.specs.declared.script.Root.TheVariants as root
use Rattle.vg_base.specs.declared.script.Script.{Script}
use Rattle.vg_base.specs.declared.script.Stmt.{Stmt}
use Rattle.vg_base.specs.declared.script.Stmt.TheOpen.{Stmt-F}
use Rattle.vg_base.specs.declared.script.Stmt.TheFolds.{fold-Stmt}
use Rattle.script_value.specs.declared.value.Value.{Value}
use Rattle.script_value.specs.declared.value.Value.TheVariants as v
use Rattle.script_value.specs.Truth.{is_true}
use Rattle.tag_script.specs.declared.env.Env.{Env}
use Rattle.tag_script.specs.declared.step.Step.{Step}
use Rattle.tag_script.specs.declared.tag_kind.TagKind.TheVariants as tag
use Rattle.tag_script.specs.Outcomes.{Outcome, and_then, or_fault, tested}
use Rattle.tag_script.specs.declared.operator.Strict.TheVariants as both
use Rattle.tag_script.specs.declared.operator.Operator.TheVariants as way
use Rattle.tag_script.specs.Operators.{after_left}
use Rattle.tag_script.specs.Parts.{part}
use Rattle.tag_script.specs.Changes.{changed}
use Rattle.tag_script.specs.Evaluation.{meaning, key_meant}

-- the environment with this variable
abbrev pub with_variable : List ℕ → Value → Env → Env
with_variable name x env = record env { vars = put name x env.vars }

-- the environment with this `out`
abbrev pub with_out : Value → Env → Env
with_out x env = record env { out = x }

-- ---- assignments

abbrev pub at_root : Root → Env → Option Value
at_root root.Out env = Some env.out
at_root (root.Name name) env = find name env.vars

-- the steps of a target, behind those that are there
abbrev pub steps : List Key → Env → List Step → Outcome (List Step)
steps [] env found = Ok found
steps (key ∷ more) env found = and_then (key_meant key env) (λ s. steps more env (found ++ s ∷ []))

-- the part of a value behind the steps, as it is read
abbrev pub read : List Step → Value → Outcome Value
read [] x = Ok x
read (s ∷ more) x = and_then (part x s) (read more)

-- what `=`, `+=` or `-=` assigns: the last two read the target before the right side
abbrev pub assigned : AssignOp → Root → List Step → Expr → Env → Outcome Value
assigned assign.Set target path value env = meaning value env
assigned assign.Add target path value env =
    and_then (and_then (or_fault tag.Unknown (at_root target env)) (read path)) (λ old. after_left way.Add old (meaning value env))
assigned assign.Sub target path value env =
    and_then (and_then (or_fault tag.Unknown (at_root target env)) (read path)) (λ old. after_left (way.Strict both.Sub) old (meaning value env))

-- the root with the new value behind the path; the changed variable is tested
abbrev pub change_out : List Step → Value → Env → Outcome Env
change_out path new env = and_then (changed path new (Some env.out)) (λ whole. and_then (tested whole) (λ kept. Ok (with_out kept env)))

abbrev pub change_variable : List ℕ → List Step → Value → Env → Outcome Env
change_variable name path new env =
    and_then (changed path new (find name env.vars)) (λ whole. and_then (tested whole) (λ kept. Ok (with_variable name kept env)))

abbrev pub change : Root → List Step → Value → Env → Outcome Env
change root.Out path new env = change_out path new env
change (root.Name name) path new env = change_variable name path new env

-- the indices from left to right, then the right side, then the walk
abbrev pub assign_to : Root → List Key → AssignOp → Expr → Env → Outcome Env
assign_to target keys operator value env =
    and_then (steps keys env []) (λ path. and_then (assigned operator target path value env) (λ new. change target path new env))

-- ---- statements

abbrev pub Effect : Type 0
Effect = Env → Outcome Env

-- one after another
abbrev pub in_turn : List Effect → Effect
in_turn [] env = Ok env
in_turn (s ∷ more) env = and_then (s env) (in_turn more)

abbrev pub otherwise : Option Effect → Effect
otherwise None env = Ok env
otherwise (Some effect) env = effect env

abbrev pub declare : List ℕ → Option Expr → Effect
declare name None env = Ok (if is_some (find name env.vars) then env else with_variable name v.Null env)
declare name (Some value) env = and_then (meaning value env) (λ x. and_then (tested x) (λ kept. Ok (with_variable name kept env)))

-- one level of a statement, with the effect of each part in its place
abbrev pub stmt_effect : Stmt-F Effect → Effect
stmt_effect Stmt-F.Empty env = Ok env
stmt_effect (Stmt-F.Block body) env = in_turn body env
stmt_effect (Stmt-F.Var name value) env = declare name value env
stmt_effect (Stmt-F.If test first other) env = and_then (meaning test env) (λ x. if is_true x then first env else otherwise other env)
stmt_effect (Stmt-F.Assign target path operator value) env = assign_to target path operator value env
stmt_effect (Stmt-F.Plain value) env = and_then (meaning value env) (λ x. Ok env)

abbrev pub effect : Stmt → Effect
effect = fold-Stmt Effect stmt_effect

-- the environment after the script, or the first fault
abbrev pub run : Script → Effect
run script env = in_turn (map effect script.body) env
