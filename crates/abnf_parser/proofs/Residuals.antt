-- A machine is exact if it is known of each state what may still come (`Lang`): one lemma takes what may come to what may come behind a lexeme,
-- or to the result where nothing comes (`forward`), one goes back, and from each state something may come. `is_exact` is the main lemma.
use Rattle.std.proofs.Common.{◌≡◌, List, [], ◌∷◌, ◌++◌, Option, Some, None, refl, sym, subst}
use Rattle.std.proofs.lemmas.List.{append-nil}
use Rattle.std.proofs.lemmas.Option.{none-some, same_Some}
use Rattle.std.specs.Option.{option_and_then}
use Rattle.vg_base.specs.Reading.{Machine, run, ReadsAs, IsExact}

module _ {X R S : Type 0} (machine : Machine X R S) (Lang : R → S → List X → Type 0) where
  -- what may come behind a step
  abbrev pub After : R → Option S → List X → Type 0
  After result None items = ⊥
  After result (Some state) items = Lang result state items

  -- the machine goes on to what may come then, or ends with the result
  abbrev pub Goes : R → S → List X → Type 0
  Goes result state [] = machine.result_of state ≡ Some result
  Goes result state (item ∷ items) = After result (machine.step state item) items

  pub record IsResidual (Spells : List X → R → Type 0) : Type 0 where
    pub opens : (items : List X) (result : R) → Spells items result → Lang result machine.start items
    pub spells : (items : List X) (result : R) → Lang result machine.start items → Spells items result
    pub forward : (result : R) (state : S) (items : List X) → Lang result state items → Goes result state items
    pub backward : (result : R) (state : S) (items : List X) → Goes result state items → Lang result state items
    pub endable : (state : S) → (result : R) × (items : List X) × Lang result state items

  module _ (Spells : List X → R → Type 0) (residual : IsResidual Spells) where
    reads_from : (result : R) (items : List X) (state : S) → Lang result state items → (last : S) × (run machine state items ≡ Some last) × (machine.result_of last ≡ Some result)
    reads_from result [] state l = (state, refl, residual.forward result state [] l)
    reads_from result (x ∷ items) state l = by_step (machine.step state x) (residual.forward result state (x ∷ items) l) (λ next k. reads_from result items next k)
      where
        by_step : (o : Option S) → After result o items
            → ((next : S) → Lang result next items → (last : S) × (run machine next items ≡ Some last) × (machine.result_of last ≡ Some result))
            → (last : S) × (option_and_then (λ next. run machine next items) o ≡ Some last) × (machine.result_of last ≡ Some result)
        by_step None a on = absurd a
        by_step (Some next) a on = on next a

    comes : (result : R) (items more : List X) (state last : S) → run machine state items ≡ Some last → Lang result last more → Lang result state (items ++ more)
    comes result [] more state last e l = subst (λ s. Lang result s more) (sym (same_Some state last e)) l
    comes result (x ∷ items) more state last e l =
        residual.backward result state (x ∷ (items ++ more)) (by_step (machine.step state x) e (λ next k. comes result items more next last k l))
      where
        by_step : (o : Option S) → option_and_then (λ next. run machine next items) o ≡ Some last
            → ((next : S) → run machine next items ≡ Some last → Lang result next (items ++ more)) → After result o (items ++ more)
        by_step None k on = absurd (none-some last k)
        by_step (Some next) k on = on next k

    complete_of : (items : List X) (result : R) → Spells items result → ReadsAs machine items result
    complete_of items result h =
        let r = reads_from result items machine.start (residual.opens items result h) in record { last = r.0; runs = r.1; ends = r.2 }

    sound_of : (items : List X) (result : R) → ReadsAs machine items result → Spells items result
    sound_of items result r =
        let l : Lang result machine.start (items ++ []) = comes result items [] machine.start r.last r.runs (residual.backward result r.last [] r.ends) in
        residual.spells items result (subst (λ (xs : List X). Lang result machine.start xs) (append-nil items) l)

    pub is_exact : IsExact machine Spells
    is_exact = record {
      complete = complete_of;
      sound = sound_of;
      viable = λ items state e.
          let c = residual.endable state in
          (c.1, c.0, residual.spells (items ++ c.1) c.0 (comes c.0 items c.1 machine.start state e c.2));
    }
