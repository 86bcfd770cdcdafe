use Rattle.std.proofs.Common.{ℕ, List, nat_cmp, refl, ◌∙◌}
use Rattle.std.proofs.lemmas.Map.Views.{All-values-insert_entry}
use Rattle.std.specs.Cmp.Lexicographic.{slice_cmp}
use Rattle.script_value.specs.declared.value.Value.{Value}
use Rattle.script_value.specs.declared.value.Value.TheVariants as v
use Rattle.script_value.specs.Limits.{IsWithinLimits}
use Rattle.tag_script.specs.declared.env.Env.{Env}
use Rattle.tag_script.specs.Execution.{with_variable, with_out}
use Rattle.tag_script.specs.Laws.{IsWithin, SeesTheSame}
use Rattle.tag_script.proofs.RunSteps.{run_keeps}
use Rattle.tag_script.proofs.WithinLimits.{kept_within, null_within}
use Rattle.tag_script.proofs.laws.runs_keep.Goals as goal

abbrev KeepsLimits : Env → Env → Type 0
KeepsLimits env after = IsWithin env → IsWithin after

variable_keeps : (name : List ℕ) (x : Value) (env : Env) → IsWithinLimits x → KeepsLimits env (with_variable name x env)
variable_keeps name x env fits = λ w. record { vars = All-values-insert_entry (slice_cmp nat_cmp) name x IsWithinLimits env.vars w.vars fits; out = w.out; rules = w.rules; latest = w.latest }

out_keeps : (x : Value) (env : Env) → IsWithinLimits x → KeepsLimits env (with_out x env)
out_keeps x env fits = λ w. record { vars = w.vars; out = fits; rules = w.rules; latest = w.latest }

pub returns-clause-limits : goal.returns-clause-limits
returns-clause-limits c = λ script env after w e.
    run_keeps KeepsLimits (λ env w. w) (λ a b c p q w. q (p w))
    (λ name env. variable_keeps name v.Null env null_within)
    (λ name x kept env t. variable_keeps name kept env (kept_within x kept t))
    (λ x kept env t. out_keeps kept env (kept_within x kept t))
    script env after e w

seen_again : (env : Env) → SeesTheSame env env
seen_again env = record { rules = refl; latest = refl; texts = refl; latest_text = refl; current_text = refl }

along : (a b c : Env) → SeesTheSame a b → SeesTheSame b c → SeesTheSame a c
along a b c p q = record { rules = p.rules ∙ q.rules; latest = p.latest ∙ q.latest; texts = p.texts ∙ q.texts; latest_text = p.latest_text ∙ q.latest_text; current_text = p.current_text ∙ q.current_text }

pub returns-clause-references : goal.returns-clause-references
returns-clause-references c = λ script env after e.
    run_keeps SeesTheSame seen_again along
    (λ name env. record { rules = refl; latest = refl; texts = refl; latest_text = refl; current_text = refl })
    (λ name x kept env t. record { rules = refl; latest = refl; texts = refl; latest_text = refl; current_text = refl })
    (λ x kept env t. record { rules = refl; latest = refl; texts = refl; latest_text = refl; current_text = refl })
    script env after e
