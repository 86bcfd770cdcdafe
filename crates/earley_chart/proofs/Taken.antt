-- One spot is taken from those that are to be looked at: the board stays good, and all others are followed up.
use Rattle.std.proofs.Common.{ℕ, ◌+◌, ◌<◌, ◌≤◌, ◌≡◌, ◌⊎◌, inl, inr, List, Some, None, length, refl, sym, ap, ◌∙◌, subst, ⊎_elim, arith}
use Rattle.std.specs.Prelude.{slice_get}
use Rattle.std.proofs.lemmas.Option.{slice_get_within}
use Rattle.grammar_tree.specs.declared.linked.Node.{Node}
use Rattle.earley_chart.specs.declared.board.Spot.{Spot}
use Rattle.earley_chart.specs.declared.board.Board.{Board}
use Rattle.earley_chart.specs.declared.reading.Task.{Task}
use Rattle.grammar_tree.specs.Links.{node_at}
use Rattle.earley_chart.specs.code.Boards.{node_of, IsSpot, EndsAt, Waits, Asks, IsDue, IsWhole, IsAlike, Takes}
use Rattle.earley_chart.specs.code.Sound.{rules_of, words_of, IsGood, IsBegun, IsFollowedBut, Followed, Begun, Visited, Ran}
use Rattle.earley_chart.proofs.Visits.{Stays, asks_stays}

module _ (t : Task) (old now : Board) (same : IsAlike old now) where
  was_spot : (at : ℕ) (s : Spot) → IsSpot now at s → IsSpot old at s
  was_spot at s h = subst (λ b. slice_get b.keys at ≡ Some s) same.spots h

  now_spot : (at : ℕ) (s : Spot) → IsSpot old at s → IsSpot now at s
  now_spot at s h = subst (λ b. slice_get b.keys at ≡ Some s) (sym same.spots) h

  was_end : (at j : ℕ) → EndsAt now at j → EndsAt old at j
  was_end at j h = (h.0, subst (λ v. slice_get v.items at ≡ Some h.0) same.ends h.1, h.2)

  now_end : (at j : ℕ) → EndsAt old at j → EndsAt now at j
  now_end at j h = (h.0, subst (λ v. slice_get v.items at ≡ Some h.0) (sym same.ends) h.1, h.2)

  stays : (above : ℕ) → Stays old now above
  stays above = record {
    spots = now_spot;
    waits = λ at h. ((h.0, subst (λ v. slice_get v.items at ≡ Some h.0) (sym same.waiting) h.1, h.2), was_end at);
  }

  pub alike_good : IsGood t old → IsWhole now → IsGood t now
  alike_good good whole = record {
    linked = good.linked;
    few = good.few;
    whole = whole;
    sound = record {
      spots = λ at s h. good.sound.spots at s (was_spot at s h);
      ends = λ at s j h e. good.sound.ends at s j (was_spot at s h) (was_end at j e);
    };
  }

  pub alike_first : IsBegun t old → IsBegun t now
  alike_first h = (h.0, h.1, now_spot 0 _ h.2)

  followed_on : (at : ℕ) (s : Spot) (x : Node) → (IsDue old at → IsDue now at) → IsSpot now at s → node_at (rules_of t) (node_of s) ≡ Some x → Followed t old →
      IsDue now at ⊎ Asks (rules_of t) (words_of t) t.reading.goes_on now at x s (EndsAt now at)
  followed_on at s x due h e followed = ⊎_elim (λ d. inl (due d))
      (λ a. inr (asks_stays old now at (stays at) (rules_of t) (words_of t) t.reading.goes_on x s (EndsAt old at) (EndsAt now at) (now_end at) a))
      (followed at s x (was_spot at s h) e)

  pub taken_followed : (at : ℕ) → Takes old now at → Followed t old → IsFollowedBut t now at
  taken_followed at takes followed = λ other s x ne h e.
      followed_on other s x (λ d. ⊎_elim (λ here. absurd (ne here)) (λ still. still) (takes.others other d)) h e followed

-- after a visit the run goes on
pub visited_begun : (t : Task) (old mid now : Board) (at : ℕ) → Begun t old → IsAlike old mid → Takes old mid at → Visited t mid now at → Begun t now
visited_begun t old mid now at b same takes v = record {
  good = v.good;
  first = (let first = alike_first t old mid same b.first in (first.0, first.1, v.spots 0 _ first.2));
  followed = v.followed (taken_followed t old mid same at takes b.followed);
}

-- where none is to be looked at, the run is at its end
pub ran : (t : Task) (old now : Board) → Begun t old → IsAlike old now → IsWhole now → ((at : ℕ) → at < length old.spots.keys → IsDue old at → ⊥) → Ran t now
ran t old now b same whole none = record {
  good = alike_good t old now same b.good whole;
  first = alike_first t old now same b.first;
  asks = λ at s x h e. ⊎_elim (λ d. absurd (none at (slice_get_within old.spots.keys at s (was_spot t old now same at s h)) d))
      (λ a. asks_stays old now at (stays t old now same at) (rules_of t) (words_of t) t.reading.goes_on x s (EndsAt old at) (EndsAt now at) (now_end t old now same at) a)
      (b.followed at s x (was_spot t old now same at s h) e);
}
