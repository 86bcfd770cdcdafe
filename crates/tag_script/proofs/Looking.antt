-- Statements that only look leave the environment as it was.
use Rattle.std.proofs.Common.{◌≡◌, List, [], ◌∷◌, map, Bool, true, false, if◌then◌else◌, Some, None, Ok, sym, ap, subst, ◌∙◌}
use Rattle.std.proofs.lemmas.Bool.{and_parts}
use Rattle.std.specs.List.{list_all}
use Rattle.vg_base.specs.declared.script.Stmt.{Stmt, roll-Stmt, fold-roll-Stmt, ind-Stmt}
use Rattle.vg_base.specs.declared.script.Stmt.TheOpen.{Stmt-F}
use Rattle.vg_base.specs.declared.script.Stmt.TheFolds as folds
use Rattle.script_value.specs.Truth.{is_true}
use Rattle.tag_script.specs.declared.env.Env.{Env}
use Rattle.tag_script.specs.Outcomes.{Outcome}
use Rattle.tag_script.specs.Evaluation.{meaning}
use Rattle.tag_script.specs.Execution.{Effect, effect, stmt_effect, in_turn, otherwise}
use Rattle.tag_script.specs.Laws.{only_looks, only_looks_level}
use Rattle.tag_script.proofs.RunSteps.{effect_roll, first_gave, gave_first}

abbrev LeavesAll : Effect → Type 0
LeavesAll f = (env after : Env) → f env ≡ Ok after → after ≡ env

abbrev Looks : Stmt → Type 0
Looks s = only_looks s ≡ true → LeavesAll (effect s)

abbrev With : Type 0
With = (s : Stmt) × Looks s

abbrev plain : Stmt-F With → Stmt-F Stmt
plain y = folds.map-Stmt With Stmt (λ y. y.0) y

looks_roll : (x : Stmt-F Stmt) → only_looks (roll-Stmt x) ≡ only_looks_level (folds.map-Stmt Stmt Bool only_looks x)
looks_roll x = fold-roll-Stmt Bool only_looks_level x

same : (env after : Env) → ◌≡◌ {A = Outcome Env} (Ok env) (Ok after) → after ≡ env
same env after e = cc

body_leaves : (ys : List With) → list_all (λ b. b) (map only_looks (map (λ y. y.0) ys)) ≡ true → LeavesAll (in_turn (map effect (map (λ y. y.0) ys)))
body_leaves [] all env after e = same env after e
body_leaves (y ∷ ys) all env after e =
    let looks = and_parts (only_looks y.0) _ all in
    let first = gave_first (effect y.0 env) _ after e in
    body_leaves ys looks.1 first.0 after first.2 ∙ y.1 looks.0 env first.0 first.1

branch_leaves : (b : Bool) (this that : Effect) → LeavesAll this → LeavesAll that → (env after : Env) → (if b then this env else that env) ≡ Ok after → after ≡ env
branch_leaves true this that p q env after e = p env after e
branch_leaves false this that p q env after e = q env after e

level_leaves : (y : Stmt-F With) → only_looks_level (folds.map-Stmt Stmt Bool only_looks (plain y)) ≡ true → LeavesAll (stmt_effect (folds.map-Stmt Stmt Effect effect (plain y)))
level_leaves Stmt-F.Empty looks env after e = same env after e
level_leaves (Stmt-F.Block ys) looks env after e = body_leaves ys looks env after e
level_leaves (Stmt-F.Var name value) looks env after e = absurd (cc)
level_leaves (Stmt-F.If test first None) looks env after e =
    let parts = and_parts (only_looks first.0) _ looks in
    let given = first_gave (meaning test env) _ after e in
    branch_leaves (is_true given.0) (effect first.0) (otherwise None) (first.1 parts.0) same env after given.1
level_leaves (Stmt-F.If test first (Some other)) looks env after e =
    let parts = and_parts (only_looks first.0) _ looks in
    let given = first_gave (meaning test env) _ after e in
    branch_leaves (is_true given.0) (effect first.0) (otherwise (Some (effect other.0))) (first.1 parts.0) (other.1 parts.1) env after given.1
level_leaves (Stmt-F.Assign target keys operator value) looks env after e = absurd (cc)
level_leaves (Stmt-F.Plain value) looks env after e = same env after (first_gave (meaning value env) _ after e).1

layer_leaves : (y : Stmt-F With) → Looks (roll-Stmt (plain y))
layer_leaves y = λ looks env after e. level_leaves y (sym (looks_roll (plain y)) ∙ looks) env after (sym (ap (λ f. f env) (effect_roll (plain y))) ∙ e)

statement_leaves : (s : Stmt) → Looks s
statement_leaves = ind-Stmt Looks (λ x y e. subst (λ x. Looks (roll-Stmt x)) e (layer_leaves y))

pub all_leave : (body : List Stmt) → list_all only_looks body ≡ true → LeavesAll (in_turn (map effect body))
all_leave [] all env after e = same env after e
all_leave (s ∷ body) all env after e =
    let looks = and_parts (only_looks s) _ all in
    let first = gave_first (effect s env) _ after e in
    all_leave body looks.1 first.0 after first.2 ∙ statement_leaves s looks.0 env first.0 first.1
