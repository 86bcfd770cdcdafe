-- Looking at one spot after another: what was seen so far.
use Rattle.std.proofs.Common.{ℕ, ◌+◌, ◌<◌, ◌≤◌, ◌≡◌, ◌≢◌, ◌⊎◌, inl, inr, refl, sym, ap, ◌∙◌, subst, ⊎_elim, arith}
use Rattle.std.proofs.lemmas.Bool.{cases_lt}
use Rattle.earley_chart.specs.declared.places.Places.{Places}
use Rattle.earley_chart.specs.declared.board.Spot.{Spot}
use Rattle.earley_chart.specs.declared.board.Board.{Board}
use Rattle.earley_chart.specs.declared.reading.Task.{Task}
use Rattle.earley_chart.specs.Places.{Has, Holds}
use Rattle.earley_chart.specs.code.Boards.{moved, Sees, Grows}
use Rattle.earley_chart.specs.code.Sound.{RightEnd, Went}
use Rattle.earley_chart.proofs.Looks.{grows_then}
use Rattle.earley_chart.proofs.Visits.{grows_stays, sees_stays}

pub went_then : (t : Task) (one two three : Board) → Went t one two → Went t two three → Went t one three
went_then t one two three a b = record { good = b.good; grows = grows_then one two three a.grows b.grows }

module _ (t : Task) (first : Board) (above : ℕ) (next : Spot) (places : Places) where
  pub record SoFar (now : Board) (ends : Places) (place : ℕ) : Type 0 where
    pub went : Went t first now
    pub sees : (j : ℕ) → next.start ≤ j → j < place → Has places j → Sees now above (moved next j) (Has ends)
    pub right : (k : ℕ) → Has ends k → (j : ℕ) × (next.start ≤ j) × Has places j × RightEnd t (moved next j) k

  pub skipped : (now : Board) (ends : Places) (place : ℕ) → SoFar now ends place → (Has places place → ⊥) → SoFar now ends (place + 1)
  skipped now ends place far hasnt = record {
    went = far.went;
    sees = λ j from lt has. ⊎_elim (λ before. far.sees j from before has)
        (λ last. (let same : j ≡ place = omega (arith, lt, last) in absurd (hasnt (subst (Has places) same has)))) (cases_lt j place);
    right = far.right;
  }

  -- what one more look gave
  pub record Looked (was now : Board) (ends more all : Places) (place : ℕ) : Type 0 where
    pub from : next.start ≤ place
    pub has : Has places place
    pub went : Went t was now
    pub sees : Sees now above (moved next place) (Has more)
    pub right : (k : ℕ) → Has more k → RightEnd t (moved next place) k
    pub both : Holds all (λ j. Has ends j ⊎ Has more j)

  pub looked : (was now : Board) (ends more all : Places) (place : ℕ) → SoFar was ends place → Looked was now ends more all place → SoFar now all (place + 1)
  looked was now ends more all place far one = record {
    went = went_then t first was now far.went one.went;
    sees = λ j from lt has. ⊎_elim
        (λ before. sees_stays was now above (grows_stays was now above one.went.grows) (moved next j) (Has ends) (Has all) (λ k h. (one.both k).1 (inl h)) (far.sees j from before has))
        (λ last. (let same : place ≡ j = omega (arith, lt, last) in
        subst (λ m. Sees now above (moved next m) (Has all)) same
        (sees_stays now now above (grows_stays now now above (same_grows now)) (moved next place) (Has more) (Has all) (λ k h. (one.both k).1 (inr h)) one.sees)))
        (cases_lt j place);
    right = λ k h. ⊎_elim (λ old. far.right k old) (λ new. (place, one.from, one.has, one.right k new)) ((one.both k).0 h);
  }
    where
      same_grows : (b : Board) → Grows b b
      same_grows b = record {
        spots = λ at s h. h;
        more = omega arith;
        ends = λ at j h. h;
        ended = λ at j h. h;
        waits = λ above at h. h;
        seen = refl;
        again = refl;
        bits = refl;
      }
