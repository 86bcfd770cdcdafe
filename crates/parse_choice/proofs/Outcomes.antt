-- What the answers of several functions need: results, the last tree, the spans of a chart that was run.
use Rattle.std.proofs.Common.{◌≡◌, List, [], ◌∷◌, ◌++◌, Ok, Err, Result, length, refl, sym, ap, ◌∙◌, subst, arith, append-nil, length-append}
use Rattle.std.specs.Prelude.{OnOk}
use Rattle.grammar_tree.specs.Derives.{Words, Derives}
use Rattle.grammar_tree.specs.declared.parse_tree.ParseTree.{ParseTree}
use Rattle.parse_choice.specs.declared.walk.Ground.{Ground}
use Rattle.parse_choice.specs.code.Ways.{AreInLine}
use Rattle.parse_choice.specs.code.Plans.{wrap_last, Runs}
use Rattle.parse_choice.specs.code.Walks.{IsGround, AreChoices, State, WalksOn, IsWalked}
use Rattle.parse_choice.specs.code.Trails.{Stands}
use Rattle.parse_choice.specs.declared.guide.Trail.{Trail}
use Rattle.parse_choice.specs.declared.plan.Job.{Job}
use Rattle.parse_choice.specs.declared.walk.Walked.{Walked}
use Rattle.parse_choice.proofs.NodeSteps.{wrapped_last}
use Rattle.parse_choice.proofs.Choosing.{span_derived}

pub on_ok : {A E P Q : Type 0} (r : Result A E) → (P → Q) → OnOk r P → OnOk r Q
on_ok (Ok a) f h = f h
on_ok (Err e) f h = h

-- the last tree is taken off, and put back in a new one
pub wrapped : (f : ParseTree → ParseTree) (old left new : List ParseTree) (t u : ParseTree) → old ≡ left ++ t ∷ [] → u ≡ f t → new ≡ left ++ u ∷ [] → new ≡ wrap_last f old
wrapped f old left new t u o e n = n ∙ ap (λ v. left ++ v ∷ []) e ∙ sym (wrapped_last f left t) ∙ ap (wrap_last f) (sym o)

pub in_line : (g : Ground) → IsGround g → AreInLine g.chart.now
in_line g ground n i j h = omega (arith, (span_derived g.linked.now g.chart.now ground.ran n i j h).within, ground.ran.few)

last_one : (others : List ParseTree) (t u : ParseTree) → others ++ t ∷ [] ≡ u ∷ [] → u ≡ t
last_one [] t u e = cc
last_one (v ∷ others) t u e = absurd (omega (arith, ap length e, length-append others (t ∷ [])))

-- where nothing is left to be done, the one tree that there is was found by the choices of the trail
pub collected : (g : Ground) → IsGround g → (st : State) (a : Walked) (others : List ParseTree) → WalksOn g st → st.plan ≡ [] → a.trail ≡ st.trail → st.here.trees ≡ others ++ a.tree ∷ [] → IsWalked g a
collected g ground st a others w none trail trees =
    let h = w.down [] st.here (subst (λ (xs : List Job). Runs g.linked.now g.chart.now.words xs st.here [] st.here) (sym none) (record { choices = refl; same = refl })) in
    let one : h.tree ≡ a.tree = last_one others a.tree h.tree (sym trees ∙ h.trees) in
    subst (λ (t : ParseTree). IsWalked g (record { tree = t; trail = a.trail })) one
    (subst (λ (x : Trail). IsWalked g (record { tree = h.tree; trail = x })) (sym trail) (record {
      derives = subst (λ us. Derives g.linked.now g.body us h.tree) ground.words h.derives;
      choices = sym (append-nil st.trail.log) ∙ h.choices;
      trail = subst (λ (us : Words). Stands (AreChoices g.linked.now g.body us) g.guide.now st.trail) ground.words w.trail;
    }))
