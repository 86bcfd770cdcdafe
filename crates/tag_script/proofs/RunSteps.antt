-- What each change of one variable or of `out` keeps, a run keeps.
use Rattle.std.proofs.Common.{◌≡◌, ℕ, List, [], ◌∷◌, map, Bool, true, false, if◌then◌else◌, Option, Some, None, Ok, Err, is_some, refl, sym, ap, subst, ◌∙◌}
use Rattle.vg_base.specs.Pairs.{find}
use Rattle.vg_base.specs.declared.script.AssignOp.{AssignOp}
use Rattle.vg_base.specs.declared.script.Expr.{Expr}
use Rattle.vg_base.specs.declared.script.Key.{Key}
use Rattle.vg_base.specs.declared.script.Root.{Root}
use Rattle.vg_base.specs.declared.script.Root.TheVariants as root
use Rattle.vg_base.specs.declared.script.Script.{Script}
use Rattle.vg_base.specs.declared.script.Stmt.{Stmt, roll-Stmt, fold-roll-Stmt, ind-Stmt}
use Rattle.vg_base.specs.declared.script.Stmt.TheOpen.{Stmt-F}
use Rattle.vg_base.specs.declared.script.Stmt.TheFolds as folds
use Rattle.script_value.specs.declared.value.Value.{Value}
use Rattle.script_value.specs.declared.value.Value.TheVariants as v
use Rattle.script_value.specs.Truth.{is_true}
use Rattle.tag_script.specs.declared.env.Env.{Env}
use Rattle.tag_script.specs.declared.step.Step.{Step}
use Rattle.tag_script.specs.Outcomes.{Outcome, and_then, tested}
use Rattle.tag_script.specs.Changes.{changed}
use Rattle.tag_script.specs.Evaluation.{meaning}
use Rattle.tag_script.specs.Execution as spec
use Rattle.tag_script.specs.Execution.{Effect, effect, stmt_effect, in_turn, otherwise, with_variable, with_out, run}

-- a step that gave something had something to go on from
pub first_gave : {A B : Type 0} (o : Outcome A) (next : A → Outcome B) (y : B) → and_then o next ≡ Ok y → (x : A) × (next x ≡ Ok y)
first_gave (Ok x) next y e = (x, e)
first_gave (Err fault) next y e = absurd (cc)

pub gave_first : {A B : Type 0} (o : Outcome A) (next : A → Outcome B) (y : B) → and_then o next ≡ Ok y → (x : A) × (o ≡ Ok x) × (next x ≡ Ok y)
gave_first (Ok x) next y e = (x, refl, e)
gave_first (Err fault) next y e = absurd (cc)

same_end : (env after : Env) → ◌≡◌ {A = Outcome Env} (Ok env) (Ok after) → env ≡ after
same_end env after e = cc

pub effect_roll : (x : Stmt-F Stmt) → effect (roll-Stmt x) ≡ stmt_effect (folds.map-Stmt Stmt Effect effect x)
effect_roll x = fold-roll-Stmt Effect stmt_effect x

-- a relation of environments that holds where nothing changes, along changes, and over each change of a variable or of `out`
module _ (Keeps : Env → Env → Type 0)
    (nothing : (env : Env) → Keeps env env)
    (both : (a b c : Env) → Keeps a b → Keeps b c → Keeps a c)
    (null : (name : List ℕ) (env : Env) → Keeps env (with_variable name v.Null env))
    (variable : (name : List ℕ) (x kept : Value) (env : Env) → tested x ≡ Ok kept → Keeps env (with_variable name kept env))
    (out : (x kept : Value) (env : Env) → tested x ≡ Ok kept → Keeps env (with_out kept env)) where
  abbrev RunKeeps : Effect → Type 0
  RunKeeps f = (env after : Env) → f env ≡ Ok after → Keeps env after

  abbrev With : Type 0
  With = (s : Stmt) × RunKeeps (effect s)

  same_keeps : (env after : Env) → ◌≡◌ {A = Outcome Env} (Ok env) (Ok after) → Keeps env after
  same_keeps env after e = subst (Keeps env) (same_end env after e) (nothing env)

  body_keeps : (ys : List With) → RunKeeps (in_turn (map effect (map (λ y. y.0) ys)))
  body_keeps [] env after e = same_keeps env after e
  body_keeps (y ∷ ys) env after e =
      let first = gave_first (effect y.0 env) _ after e in
      both env first.0 after (y.1 env first.0 first.1) (body_keeps ys first.0 after first.2)

  declare_null : (name : List ℕ) (b : Bool) (env after : Env) → ◌≡◌ {A = Outcome Env} (Ok (if b then env else with_variable name v.Null env)) (Ok after) → Keeps env after
  declare_null name true env after e = same_keeps env after e
  declare_null name false env after e = subst (Keeps env) (same_end (with_variable name v.Null env) after e) (null name env)

  put_variable : (name : List ℕ) (o : Outcome Value) (env after : Env) → and_then o (λ x. and_then (tested x) (λ kept. Ok (with_variable name kept env))) ≡ Ok after → Keeps env after
  put_variable name o env after e =
      let given = first_gave o _ after e in
      let whole = gave_first (tested given.0) _ after given.1 in
      subst (Keeps env) (same_end (with_variable name whole.0 env) after whole.2) (variable name given.0 whole.0 env whole.1)

  put_out : (o : Outcome Value) (env after : Env) → and_then o (λ x. and_then (tested x) (λ kept. Ok (with_out kept env))) ≡ Ok after → Keeps env after
  put_out o env after e =
      let given = first_gave o _ after e in
      let whole = gave_first (tested given.0) _ after given.1 in
      subst (Keeps env) (same_end (with_out whole.0 env) after whole.2) (out given.0 whole.0 env whole.1)

  declare_keeps : (name : List ℕ) (value : Option Expr) → RunKeeps (spec.declare name value)
  declare_keeps name None env after e = declare_null name (is_some (find name env.vars)) env after e
  declare_keeps name (Some value) env after e = put_variable name (meaning value env) env after e

  change_keeps : (target : Root) (path : List Step) (new : Value) → RunKeeps (spec.change target path new)
  change_keeps root.Out path new env after e = put_out (changed path new (Some env.out)) env after e
  change_keeps (root.Name name) path new env after e = put_variable name (changed path new (find name env.vars)) env after e

  assign_keeps : (target : Root) (keys : List Key) (operator : AssignOp) (value : Expr) → RunKeeps (spec.assign_to target keys operator value)
  assign_keeps target keys operator value env after e =
      let path = first_gave (spec.steps keys env []) _ after e in
      let new = first_gave (spec.assigned operator target path.0 value env) _ after path.1 in
      change_keeps target path.0 new.0 env after new.1

  branch_keeps : (b : Bool) (this that : Effect) → RunKeeps this → RunKeeps that → (env after : Env) → (if b then this env else that env) ≡ Ok after → Keeps env after
  branch_keeps true this that p q env after e = p env after e
  branch_keeps false this that p q env after e = q env after e

  abbrev plain : Stmt-F With → Stmt-F Stmt
  plain y = folds.map-Stmt With Stmt (λ y. y.0) y

  level_keeps : (y : Stmt-F With) → RunKeeps (stmt_effect (folds.map-Stmt Stmt Effect effect (plain y)))
  level_keeps Stmt-F.Empty env after e = same_keeps env after e
  level_keeps (Stmt-F.Block ys) env after e = body_keeps ys env after e
  level_keeps (Stmt-F.Var name value) env after e = declare_keeps name value env after e
  level_keeps (Stmt-F.If test first None) env after e =
      let given = first_gave (meaning test env) _ after e in
      branch_keeps (is_true given.0) (effect first.0) (otherwise None) first.1 same_keeps env after given.1
  level_keeps (Stmt-F.If test first (Some other)) env after e =
      let given = first_gave (meaning test env) _ after e in
      branch_keeps (is_true given.0) (effect first.0) (otherwise (Some (effect other.0))) first.1 other.1 env after given.1
  level_keeps (Stmt-F.Assign target keys operator value) env after e = assign_keeps target keys operator value env after e
  level_keeps (Stmt-F.Plain value) env after e = same_keeps env after (first_gave (meaning value env) _ after e).1

  layer_keeps : (y : Stmt-F With) → RunKeeps (effect (roll-Stmt (plain y)))
  layer_keeps y env after e = level_keeps y env after (sym (ap (λ f. f env) (effect_roll (plain y))) ∙ e)

  statement_keeps : (s : Stmt) → RunKeeps (effect s)
  statement_keeps = ind-Stmt (λ s. RunKeeps (effect s)) (λ x y e. subst (λ x. RunKeeps (effect (roll-Stmt x))) e (layer_keeps y))

  all_keep : (body : List Stmt) → RunKeeps (in_turn (map effect body))
  all_keep [] env after e = same_keeps env after e
  all_keep (s ∷ body) env after e =
      let first = gave_first (effect s env) _ after e in
      both env first.0 after (statement_keeps s env first.0 first.1) (all_keep body first.0 after first.2)

  pub run_keeps : (script : Script) → RunKeeps (run script)
  run_keeps script = all_keep script.body
