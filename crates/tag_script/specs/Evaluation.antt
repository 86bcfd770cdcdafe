-- What an expression gives in an environment: from left to right, to the first fault.
use Rattle.std.specs.Prelude.{ℕ, List, [], ◌∷◌, ◌++◌, if◌then◌else◌, Option, Some, None, Ok}
use Rattle.vg_base.specs.Pairs.{find, put}
use Rattle.vg_base.specs.declared.script.Expr.{Expr}
use Rattle.vg_base.specs.declared.script.Expr.TheOpen.{Expr-F}
use Rattle.vg_base.specs.declared.script.Expr.TheFolds.{fold-Expr}
use Rattle.vg_base.specs.declared.script.Key.{Key, Key-F, fold-Key}
use Rattle.vg_base.specs.declared.script.BinOp.{BinOp}
use Rattle.script_value.specs.declared.value.Value.{Value}
use Rattle.script_value.specs.declared.value.Value.TheVariants as v
use Rattle.script_value.specs.Truth.{is_true}
use Rattle.tag_script.specs.declared.env.Env.{Env}
use Rattle.tag_script.specs.declared.step.Step.{Step}
use Rattle.tag_script.specs.declared.step.Step.TheVariants as step
use Rattle.tag_script.specs.declared.tag_kind.TagKind.TheVariants as tag
use Rattle.tag_script.specs.Outcomes.{Outcome, and_then, or_fault, tested}
use Rattle.tag_script.specs.Operators.{number, truth, operator_of, after_left, unary}
use Rattle.tag_script.specs.Parts.{or_null, part}

-- what an expression means, and what a step of a path means
abbrev pub Meaning : Type 0
Meaning = Env → Outcome Value

abbrev pub StepMeaning : Type 0
StepMeaning = Env → Outcome Step

-- the values of expressions, behind those that are there
abbrev pub each : List Meaning → Env → List Value → Outcome (List Value)
each [] env values = Ok values
each (e ∷ more) env values = and_then (e env) (λ x. each more env (values ++ x ∷ []))

-- the members of a record, put to those that are there: the last of equal keys counts
abbrev pub members : List (List ℕ × Meaning) → Env → List (List ℕ × Value) → Outcome (List (List ℕ × Value))
members [] env all = Ok all
members (m ∷ more) env all = and_then (m.1 env) (λ x. members more env (put m.0 x all))

-- what operators, each with its right operand, make of a value, one after another
abbrev pub chained : List (BinOp × Meaning) → Env → Value → Outcome Value
chained [] env x = Ok x
chained (link ∷ more) env x = and_then (after_left (operator_of link.0) x (link.1 env)) (chained more env)

-- the part of a value behind steps
abbrev pub stepped : List StepMeaning → Env → Value → Outcome Value
stepped [] env x = Ok x
stepped (key ∷ more) env x = and_then (and_then (key env) (part x)) (stepped more env)

abbrev pub variable : List ℕ → Meaning
variable name env = or_fault tag.Unknown (find name env.vars)

abbrev pub text_or_null : Option (List ℕ) → Value
text_or_null None = v.Null
text_or_null (Some s) = v.Str s

-- one level of an expression, with the meaning of each part in its place
abbrev pub expr_meaning : Expr-F Meaning StepMeaning → Meaning
expr_meaning Expr-F.Null env = Ok v.Null
expr_meaning (Expr-F.Truth b) env = truth b
expr_meaning (Expr-F.Number n) env = number n
expr_meaning (Expr-F.Str s) env = tested (v.Str s)
expr_meaning Expr-F.Out env = Ok env.out
expr_meaning (Expr-F.Name name) env = variable name env
expr_meaning (Expr-F.List items) env = and_then (each items env []) (λ values. tested (v.List values))
expr_meaning (Expr-F.Record pairs) env = and_then (members pairs env []) (λ all. tested (v.Record all))
expr_meaning (Expr-F.Choose test first second) env = and_then (test env) (λ x. and_then (if is_true x then first env else second env) tested)
expr_meaning (Expr-F.Chain first more) env = and_then (first env) (chained more env)
expr_meaning (Expr-F.Unary operator inner) env = and_then (inner env) (unary operator)
expr_meaning (Expr-F.Part inner path) env = and_then (inner env) (stepped path env)
expr_meaning (Expr-F.Rule name) env = Ok (or_null (find name env.rules))
expr_meaning Expr-F.LatestRule env = Ok (or_null env.latest)
expr_meaning (Expr-F.RuleText name) env = Ok (text_or_null (find name env.texts))
expr_meaning Expr-F.LatestText env = Ok (text_or_null env.latest_text)
expr_meaning Expr-F.CurrentText env = Ok (v.Str env.current_text)

abbrev pub key_meaning : Key-F Meaning StepMeaning → StepMeaning
key_meaning (Key-F.Word word) env = Ok (step.Word word)
key_meaning (Key-F.Index index) env = and_then (index env) (λ x. Ok (step.Index x))

abbrev pub meaning : Expr → Meaning
meaning = fold-Expr Meaning StepMeaning expr_meaning key_meaning

abbrev pub key_meant : Key → StepMeaning
key_meant = fold-Key Meaning StepMeaning expr_meaning key_meaning
