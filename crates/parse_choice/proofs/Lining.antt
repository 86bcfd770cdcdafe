-- How the jobs of a sequence are planned, from the last part to the first.
use Rattle.std.proofs.Common.{◌≡◌, false, List, [], ◌∷◌, refl, sym, ap, ◌∙◌, subst}
use Rattle.vg_base.specs.declared.numbers.NodeIx.{NodeIx}
use Rattle.earley_chart.specs.declared.places.Places.{Places}
use Rattle.earley_chart.specs.Chart.{Table}
use Rattle.parse_choice.specs.declared.plan.Job.{Job}
use Rattle.parse_choice.specs.declared.plan.Job.TheVariants as job
use Rattle.parse_choice.specs.code.Ways.{IsBefore}
use Rattle.parse_choice.specs.code.Walks.{State}
use Rattle.parse_choice.specs.code.Steps.{AreLined, planned}

-- the last parts are planned
pub record Lining (c : Table) (ps : List NodeIx) (ends first : Places) (old now : State) : Type 0 where
  pub jobs : List Job
  pub lined : AreLined c ps ends jobs first
  pub state : now ≡ planned jobs old

pub none_lined : (c : Table) (ps : List NodeIx) (ends : Places) (st : State) → ps ≡ [] → Lining c ps ends ends st st
none_lined c ps ends st e = subst (λ qs. Lining c qs ends ends st st) (sym e) (record { jobs = []; lined = (refl, refl); state = refl })

pub one_lined : (c : Table) (ps qs : List NodeIx) (p : NodeIx) (ends first next : Places) (old before now : State) → Lining c ps ends first old before → qs ≡ p ∷ ps →
    now ≡ planned (job.Node p first ∷ []) before → IsBefore c p first false next → Lining c qs ends next old now
one_lined c ps qs p ends first next old before now l e is b = subst (λ xs. Lining c xs ends next old now) (sym e) (record {
  jobs = job.Node p first ∷ l.jobs;
  lined = (first, l.jobs, refl, l.lined, b);
  state = is ∙ ap (planned (job.Node p first ∷ [])) l.state;
})
