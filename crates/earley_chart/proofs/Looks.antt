-- One who looks at a spot waits for it, once: the board stays whole, and all who waited wait.
use Rattle.std.proofs.Common.{Bool, true, false, ℕ, ◌+◌, ◌<◌, ◌≤◌, ◌≡◌, ◌≢◌, ◌⊎◌, inl, inr, List, [], ◌∷◌, ◌++◌, Option, Some, None, length, refl, sym, ap, ◌∙◌, subst, ⊎_elim, arith}
use Rattle.std.specs.Prelude.{slice_get, slice_set, Vec}
use Rattle.std.specs.List.{Contains}
use Rattle.std.specs.declared.alloc.Global.{Global}
use Rattle.std.proofs.lemmas.Bool.{cases_eq}
use Rattle.std.proofs.lemmas.Option.{slice_get_within}
use Rattle.earley_chart.specs.declared.board.Board.{Board}
use Rattle.earley_chart.specs.code.Boards.{EndsAt, Lookers, Waits, IsWhole, Grows}
use Rattle.earley_chart.proofs.Calls.{Inserted}
use Rattle.earley_chart.proofs.Lists.{set_same, set_other, set_length, set_cases}

-- the board with another column of those who wait
abbrev pub with_waiting : Board → Vec Lookers Global → Board
with_waiting b waiting = record { spots = b.spots; ends = b.ends; waiting = waiting; seen = b.seen; again = b.again }

-- one waits for a spot, who may have waited before
pub record Watched (b : Board) (waiting : Vec Lookers Global) (above at : ℕ) : Type 0 where
  pub was : Lookers
  pub here : slice_get b.waiting.items at ≡ Some was
  pub more : Lookers
  pub inserted : Inserted was.keys more.keys above
  pub set : waiting.items ≡ slice_set b.waiting.items at more

module _ (b : Board) (waiting : Vec Lookers Global) (above at : ℕ) (w : Watched b waiting above at) where
  within : at < length b.waiting.items
  within = slice_get_within b.waiting.items at w.was w.here

  now_here : slice_get waiting.items at ≡ Some w.more
  now_here = subst (λ l. slice_get l at ≡ Some w.more) (sym w.set) (set_same b.waiting.items at w.more within)

  pub watched_waits : Waits (with_waiting b waiting) above at
  watched_waits = (
    w.more,
    now_here,
    w.inserted.has,
  )

  keeps : (other k : ℕ) → Waits b other k → Waits (with_waiting b waiting) other k
  keeps other k h = ⊎_elim
      (λ same.
      let both : Some w.was ≡ Some h.0 = sym w.here ∙ ap (λ n. slice_get b.waiting.items n) (sym same) ∙ h.1 in
      let one : w.was ≡ h.0 = cc in
      let there : Contains w.more.keys other = w.inserted.kept other (subst (λ (v : Lookers). Contains v.keys other) (sym one) h.2) in
      (w.more, subst (λ n. slice_get waiting.items n ≡ Some w.more) (sym same) now_here, there))
      (λ ne. (h.0, subst (λ l. slice_get l k ≡ Some h.0) (sym w.set) (set_other b.waiting.items at k w.more ne ∙ h.1), h.2))
      (cases_eq k at)

  waited : (other k : ℕ) → Waits (with_waiting b waiting) other k → Waits b other k ⊎ (other ≡ above)
  waited other k h = ⊎_elim
      (λ a.
      ⊎_elim (λ old. inl (w.was, subst (λ n. slice_get b.waiting.items n ≡ Some w.was) (sym a.0) w.here, old)) (λ new. inr (sym new))
      (w.inserted.from other (subst (λ (v : Lookers). Contains v.keys other) (sym a.1) h.2)))
      (λ a. inl (h.0, a.1, h.2))
      (set_cases b.waiting.items at k w.more h.0 within (subst (λ l. slice_get l k ≡ Some h.0) w.set h.1))

  pub watched_whole : IsWhole b → above < length b.spots.keys → IsWhole (with_waiting b waiting)
  watched_whole whole lt = record {
    ends = whole.ends;
    waiting = ap length w.set ∙ set_length b.waiting.items at w.more ∙ whole.waiting;
    apart = whole.apart;
    seen = whole.seen;
    again = whole.again;
    waits = λ other k h. ⊎_elim (λ old. whole.waits other k old) (λ new. subst (λ n. n < length b.spots.keys) (sym new) lt) (waited other k h);
    distinct = whole.distinct;
    small = whole.small;
  }

  pub watched_grows : Grows b (with_waiting b waiting)
  watched_grows = record {
    spots = λ k s h. h;
    more = omega arith;
    ends = λ k j h. h;
    ended = λ k j h. h;
    waits = keeps;
    seen = refl;
    again = refl;
    bits = refl;
  }

pub grows_then : (one two three : Board) → Grows one two → Grows two three → Grows one three
grows_then one two three a b = record {
  spots = λ at s h. b.spots at s (a.spots at s h);
  more = omega (arith, a.more, b.more);
  ends = λ at j h. a.ends at j (b.ends at j h);
  ended = λ at j h. b.ended at j (a.ended at j h);
  waits = λ above at h. b.waits above at (a.waits above at h);
  seen = b.seen ∙ a.seen;
  again = b.again ∙ a.again;
  bits = b.bits ∙ a.bits;
}
