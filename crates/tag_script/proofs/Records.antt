-- What a record's literal means, and what becomes of a fault in it.
use Rattle.std.proofs.Common.{◌≡◌, ℕ, List, [], map, ap, ◌∙◌, sym, subst}
use Rattle.std.specs.Prelude.{Result, Ok, Err, IsErrAnd}
use Rattle.vg_base.specs.declared.script.Expr.{Expr}
use Rattle.vg_base.specs.declared.script.Expr as expr
use Rattle.vg_base.specs.declared.script.Expr.TheVariants as e
use Rattle.vg_base.specs.declared.script.Expr.TheVariants.{rolls-Record}
use Rattle.vg_base.specs.declared.script.Expr.TheOpen.{Expr-F}
use Rattle.vg_base.specs.declared.script.Expr.TheFolds.{fold-roll-Expr}
use Rattle.script_value.specs.declared.value.Value.TheVariants as v
use Rattle.script_value.specs.declared.value.Value.{Value}
use Rattle.vg_base.specs.declared.refused.Refused.{Refused}
use Rattle.vg_base.specs.declared.refused.Refused.TheVariants as refused
use Rattle.vg_base.specs.Refusals.{Gives}
use Rattle.tag_script.specs.declared.seen.Seen.{Seen}
use Rattle.tag_script.specs.declared.tag_kind.TagKind.{TagKind}
use Rattle.tag_script.specs.code.Seen.{Shows}
use Rattle.tag_script.specs.Outcomes.{Outcome, and_then, tested}
use Rattle.tag_script.specs.Evaluation.{Meaning, StepMeaning, expr_meaning, key_meaning, meaning, members}

pub record_meaning : (pairs : List (List ℕ × Expr)) → meaning (e.Record pairs) ≡ (λ env. and_then (members (map (λ pair. (pair.0, meaning pair.1)) pairs) env []) (λ all. tested (v.Record all)))
unfolding expr.roll-Expr denote.Hole.Carrier.roll
record_meaning pairs = ap meaning (rolls-Record pairs) ∙ fold-roll-Expr Meaning StepMeaning expr_meaning key_meaning (Expr-F.Record pairs)

-- a fault of a part is the fault of the whole
pub passed_on : {A : Type 0} (answer : Result Seen (Refused TagKind)) (refusal : (Refused TagKind)) (part : Outcome A) (whole : Outcome Value)
    → IsErrAnd answer (λ e. e ≡ refusal) → Gives (Err refusal) part → ((fault : TagKind) → part ≡ Err fault → whole ≡ Err fault) → Shows answer whole
passed_on (Ok x) refusal part whole same gives passes = absurd same
passed_on (Err e) (refused.Fault fault) part whole same gives passes =
    let P : Refused TagKind → Type 0 = λ r. Shows (Err r) whole in subst P (sym same) (passes fault gives)
passed_on (Err e) refused.Memory part whole same gives passes =
    let P : Refused TagKind → Type 0 = λ r. Shows (Err r) whole in subst P (sym same) tt

-- the same of an answer that is owned
pub passed_gives : {A B : Type 0} (answer : Result B (Refused TagKind)) (refusal : Refused TagKind) (part : Outcome A) (whole : Outcome B)
    → IsErrAnd answer (λ e. e ≡ refusal) → Gives (Err refusal) part → ((fault : TagKind) → part ≡ Err fault → whole ≡ Err fault) → Gives answer whole
passed_gives (Ok x) refusal part whole same gives passes = absurd same
passed_gives (Err e) (refused.Fault fault) part whole same gives passes =
    let P : Refused TagKind → Type 0 = λ r. Gives (Err r) whole in subst P (sym same) (passes fault gives)
passed_gives (Err e) refused.Memory part whole same gives passes =
    let P : Refused TagKind → Type 0 = λ r. Gives (Err r) whole in subst P (sym same) tt
