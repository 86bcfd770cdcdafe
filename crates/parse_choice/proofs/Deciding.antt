-- Whether another turn is made, as a step of a walk.
use Rattle.std.proofs.Common.{◌≡◌, Bool, true, false, [], refl, ap, ◌∙◌, ⊎_elim}
use Rattle.std.specs.Prelude.{◌↔◌, IsTrue}
use Rattle.std.proofs.lemmas.Bool.{cases_lt}
use Rattle.earley_chart.specs.declared.places.Places.{Places}
use Rattle.parse_choice.specs.declared.accepted.Turns.{Turns}
use Rattle.parse_choice.specs.declared.guide.Trail.{Trail}
use Rattle.parse_choice.specs.declared.walk.Ground.{Ground}
use Rattle.parse_choice.specs.code.Ways.{HasSome}
use Rattle.parse_choice.specs.code.Trails.{IsDecided}
use Rattle.parse_choice.specs.code.Walks.{State}
use Rattle.parse_choice.specs.code.Steps.{chose, opens, one_more, Goes, chooses_turn, chooses_end, must_go_on, must_end}

module _ (g : Ground) (t : Turns) (ends : Places) (old now : State) (trail : Trail) (possible : Bool) (tells : IsTrue possible ↔ HasSome ends) (another : Bool)
    (d : IsDecided t old.here.place possible (record { guide = g.guide.now; old = old.trail; now = trail }) another) where
  pub goes_on : IsTrue another → now ≡ chose trail (one_more t ends) old → Goes g t ends old now
  goes_on h is = at (opens t) refl
    where
      at : (b : Bool) → opens t ≡ b → Goes g t ends old now
      at true e = let m = d.more e h in chooses_turn possible m.0 trail e tells m.1 m.2 is
      at false e = must_go_on e ((d.counts e).0 h) (is ∙ ap (λ (x : Trail). chose x (one_more t ends) old) (d.same e))

  pub goes_no_further : (IsTrue another → ⊥) → now ≡ chose trail [] old → Goes g t ends old now
  goes_no_further h is = at (opens t) refl
    where
      at : (b : Bool) → opens t ≡ b → Goes g t ends old now
      at true e = chooses_end possible trail e tells (d.none e h) is
      at false e = must_end e (⊎_elim (λ lt. absurd (h ((d.counts e).1 lt))) (λ le. le) (cases_lt t.made t.repeat.least)) (is ∙ ap (λ (x : Trail). chose x [] old) (d.same e))
