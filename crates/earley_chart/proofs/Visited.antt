-- One visit: the board stays good, and all that was followed up is followed up again or to be looked at.
use Rattle.std.proofs.Common.{Bool, true, false, ℕ, ◌+◌, ◌-◌, ◌<◌, ◌≤◌, ◌≡◌, ◌≢◌, ◌⊎◌, inl, inr, List, Option, Some, None, length, get_or, eqb, eqb-true, refl, sym, ap, ◌∙◌, subst, ⊎_elim, arith, true≢false}
use Rattle.std.specs.Prelude.{slice_get, sum_by}
use Rattle.std.specs.List.{Contains, list_any}
use Rattle.std.proofs.lemmas.Bool.{cases_eq, cases_lt, cases_Bool}
use Rattle.std.proofs.lemmas.Map.Views.{list_any-from_Contains, Contains-from_any}
use Rattle.std.specs.Cmp.{nat_eq_equiv}
use Rattle.grammar_tree.specs.declared.linked.Node.{Node}
use Rattle.grammar_tree.specs.Links.{node_at}
use Rattle.earley_chart.specs.declared.places.Places.{Places}
use Rattle.earley_chart.specs.declared.board.Spot.{Spot}
use Rattle.earley_chart.specs.declared.board.Board.{Board}
use Rattle.earley_chart.specs.declared.reading.Task.{Task}
use Rattle.earley_chart.specs.Places.{Has}
use Rattle.earley_chart.specs.code.Boards.{node_of, IsSpot, EndsAt, Waits, Asks, IsDue, IsWhole, Grows, Ended, found, due}
use Rattle.earley_chart.specs.code.Sound.{rules_of, words_of, RightEnd, IsGood, Went, Answer, IsFollowedBut, Followed, Visited}
use Rattle.earley_chart.proofs.Visits.{spot_there, one_spot, Stays, grows_stays, asks_stays}

-- a list has a number or it doesn't
contains_or : (xs : List ℕ) (x : ℕ) → Contains xs x ⊎ (Contains xs x → ⊥)
contains_or xs x = ⊎_elim (λ e. inl (Contains-from_any eqb-true x xs e)) (λ e. inr (λ c. true≢false (sym (list_any-from_Contains nat_eq_equiv x xs c) ∙ e))) (cases_Bool (list_any (eqb x) xs))

module _ (t : Task) (old mid now : Board) (at : ℕ) (s : Spot) (ends : Places) (here : IsSpot old at s) (whole : IsWhole old) (went : Went t old mid)
    (answer : Answer t mid at s ends) (whole_now : IsWhole now) (ended : Ended mid now at ends) where
  now_spot : (k : ℕ) (x : Spot) → IsSpot now k x → IsSpot mid k x
  now_spot k x h = subst (λ b. slice_get b.keys k ≡ Some x) ended.spots h

  mid_spot : (k : ℕ) (x : Spot) → IsSpot mid k x → IsSpot now k x
  mid_spot k x h = subst (λ b. slice_get b.keys k ≡ Some x) (sym ended.spots) h

  is_here : (x : Spot) → IsSpot mid at x → s ≡ x
  is_here x h = one_spot mid at s x (went.grows.spots at s here) h

  good : IsGood t now
  good = record {
    linked = went.good.linked;
    few = went.good.few;
    whole = whole_now;
    sound = record {
      spots = λ k x h. went.good.sound.spots k x (now_spot k x h);
      ends = λ k x j h e. ⊎_elim
          (λ was. went.good.sound.ends k x j (now_spot k x h) was)
          (λ new. subst (λ (y : Spot). RightEnd t y j) (is_here x (subst (λ n. IsSpot mid n x) new.0 (now_spot k x h))) (answer.right j new.1))
          (ended.from k j e);
    };
  }

  -- who isn't called sees what it saw
  uncalled : (k : ℕ) → (Contains now.again.keys k → ⊥) → Stays mid now k
  uncalled k not = record { spots = mid_spot; waits = λ other h. ⊎_elim (λ c. absurd (not c)) (λ a. a) (ended.waits k other h) }

  due_stays : (k : ℕ) → IsDue old k → IsDue now k
  due_stays k h = ⊎_elim (λ a. inl (omega (arith, a, ended.seen, went.grows.seen)))
      (λ c. inr (ended.again k (subst (λ x. Contains x.keys k) (sym went.grows.again) c))) h

  asked : (k : ℕ) (x : Spot) (n : Node) (P : ℕ → Type 0) → ((j : ℕ) → P j → EndsAt now k j) → Asks (rules_of t) (words_of t) t.reading.goes_on mid k n x P →
      IsDue now k ⊎ Asks (rules_of t) (words_of t) t.reading.goes_on now k n x (EndsAt now k)
  asked k x n P f h = ⊎_elim (λ c. inl (inr c)) (λ not. inr (asks_stays mid now k (uncalled k not) (rules_of t) (words_of t) t.reading.goes_on n x P (EndsAt now k) f h))
      (contains_or now.again.keys k)

  followed : IsFollowedBut t old at → Followed t now
  followed but k x n h e = ⊎_elim
      (λ same.
      let mine = is_here x (subst (λ m. IsSpot mid m x) same (now_spot k x h)) in
      let asks = answer.asks n (subst (λ (y : Spot). node_at (rules_of t) (node_of y) ≡ Some n) (sym mine) e) in
      subst (λ m. IsDue now m ⊎ Asks (rules_of t) (words_of t) t.reading.goes_on now m n x (EndsAt now m)) (sym same)
      (asked at x n (Has ends) ended.new (subst (λ (y : Spot). Asks (rules_of t) (words_of t) t.reading.goes_on mid at n y (Has ends)) mine asks)))
      (λ ne. ⊎_elim
      (λ lt.
      let was = spot_there old k x lt in
      let same = one_spot mid k (get_or old.spots.keys k x) x (went.grows.spots k (get_or old.spots.keys k x) was) (now_spot k x h) in
      ⊎_elim (λ d. inl (due_stays k d))
      (λ a. asked k x n (EndsAt mid k) (ended.kept k)
      (asks_stays old mid k (grows_stays old mid k went.grows) (rules_of t) (words_of t) t.reading.goes_on n x (EndsAt old k) (EndsAt mid k) (went.grows.ended k) a))
      (but k x n ne (subst (λ (y : Spot). IsSpot old k y) same was) e))
      (λ le. inl (inl (omega (arith, le, ended.seen, went.grows.seen, whole.seen))))
      (cases_lt k (length old.spots.keys)))
      (cases_eq k at)

  rises : (found old < found now) ⊎ ((found now ≡ found old) × (due now ≡ due old))
  rises =
      let count : length now.spots.keys ≡ length mid.spots.keys = ap (λ b. length b.keys) ended.spots in
      let again : length mid.again.keys ≡ length old.again.keys = ap (λ b. length b.keys) went.grows.again in
      ⊎_elim
      (λ lt. inl (⊎_elim (λ up. omega (arith, lt, up, went.grows.bits)) (λ same. omega (arith, lt, same.0, went.grows.bits)) ended.found))
      (λ le. ⊎_elim (λ up. inl (omega (arith, up, went.grows.more, went.grows.bits)))
      (λ same. inr (
        omega (arith, same.0, le, went.grows.more, went.grows.bits),
        omega (arith, ap (λ b. length b.keys) same.1, again, count, le, went.grows.more, ended.seen, went.grows.seen),
      )) ended.found)
      (cases_lt (length old.spots.keys) (length mid.spots.keys))

  pub visited : Visited t old now at
  visited = record {
    good = good;
    spots = λ k x h. mid_spot k x (went.grows.spots k x h);
    followed = followed;
    rises = rises;
  }
