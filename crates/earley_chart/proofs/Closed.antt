-- A board on which each spot ends where what it asks ends is closed: no step leads to a new fact.
use Rattle.std.proofs.Common.{Bool, true, false, ℕ, zero, suc, ◌+◌, ◌-◌, ◌<◌, ◌≤◌, ◌≡◌, ◌≢◌, ◌⊎◌, inl, inr, List, Option, Some, None, length, get_or, refl, sym, ap, ◌∙◌, subst, ⊎_elim, arith}
use Rattle.std.specs.Prelude.{slice_get}
use Rattle.std.proofs.lemmas.Bool.{cases_lt}
use Rattle.std.proofs.lemmas.Option.{slice_get_within, slice_get-get_or}
use Rattle.vg_base.specs.declared.numbers.NodeIx.{NodeIx}
use Rattle.grammar_tree.specs.declared.linked.Node.{Node}
use Rattle.grammar_tree.specs.declared.linked.Node.TheVariants as node
use Rattle.grammar_tree.specs.declared.linked.LinkedRule.{LinkedRule}
use Rattle.grammar_tree.specs.Links.{node_at, rule_at}
use Rattle.grammar_tree.specs.Derives.{IsAtMost}
use Rattle.grammar_tree.proofs.Decode.{fewer}
use Rattle.earley_chart.specs.declared.board.Spot.{Spot}
use Rattle.earley_chart.specs.declared.board.Board.{Board}
use Rattle.earley_chart.specs.declared.reading.Task.{Task}
use Rattle.earley_chart.specs.code.Steps.{next_level}
use Rattle.earley_chart.specs.code.Facts.{Facts, Behind, AreClosed}
use Rattle.earley_chart.specs.code.Boards.{node_of, spot_at, IsSpot, EndsAt, Sees, Asks}
use Rattle.earley_chart.specs.code.Sound.{rules_of, words_of, Ran}

-- so many steps of a spot are so many parts or turns
abbrev pub StepIs : Node → ℕ → ℕ → Type 0
StepIs (node.Seq ps) step k = step ≡ k
StepIs (node.Rep least most p) step k = step - 1 ≡ k
StepIs _ step k = Unit {0}

module _ (t : Task) (b : Board) where
  abbrev pub IsGoal : NodeIx → ℕ → Type 0
  IsGoal n i = (at : ℕ) × IsSpot b at (spot_at n 0 i)

  abbrev pub GoalEnds : NodeIx → ℕ → ℕ → Type 0
  GoalEnds n i j = (at : ℕ) × IsSpot b at (spot_at n 0 i) × EndsAt b at j

  -- a spot of the node, which ends only where the node does that began at i
  pub record GoesOn (n : NodeIx) (k i m : ℕ) : Type 0 where
    pub step : ℕ
    pub at : ℕ
    pub here : IsSpot b at (spot_at n step m)
    pub is : (x : Node) → node_at (rules_of t) n ≡ Some x → StepIs x step k
    pub into : (j : ℕ) → EndsAt b at j → GoalEnds n i j

  abbrev pub facts : Facts
  facts = record { goal = IsGoal; ends = GoalEnds; stands = GoesOn }

module _ (t : Task) (b : Board) (ran : Ran t b) where
  -- a node that was seen is a goal, and each place where it ends is one of these
  seen : (above : ℕ) (n : NodeIx) (m : ℕ) (P : ℕ → Type 0) → Sees b above (spot_at n 0 m) P → IsGoal t b n m × ((j : ℕ) → GoalEnds t b n m j → P j)
  seen above n m P h =
      ((h.0, h.1), λ j e. h.3 j (subst (λ k. EndsAt b k j) (ran.good.whole.apart e.0 h.0 (spot_at n 0 m) e.1 h.1) e.2))

  one_kind : (n : NodeIx) (x y : Node) → node_at (rules_of t) n ≡ Some x → node_at (rules_of t) n ≡ Some y → x ≡ y
  one_kind n x y e e' = let both : Some x ≡ Some y = sym e ∙ e' in cc

  goes : (n : NodeIx) (x : Node) (step k i m : ℕ) → node_at (rules_of t) n ≡ Some x → StepIs x step k → (above : ℕ) (P : ℕ → Type 0) → Sees b above (spot_at n step m) P →
      ((j : ℕ) → P j → GoalEnds t b n i j) → GoesOn t b n k i m
  goes n x step k i m e is above P h f = record {
    step = step;
    at = h.0;
    here = h.1;
    is = λ y e'. subst (λ (z : Node). StepIs z step k) (one_kind n x y e e') is;
    into = λ j end. f j (h.3 j end);
  }

  alternatives : (n : NodeIx) (ps : List NodeIx) (p : NodeIx) (i : ℕ) → node_at (rules_of t) n ≡ Some (node.Alt ps) → (more k at : ℕ) → slice_get ps (k + more) ≡ Some p →
      IsSpot b at (spot_at n k i) → ((j : ℕ) → EndsAt b at j → GoalEnds t b n i j) → IsGoal t b p i × ((j : ℕ) → GoalEnds t b p i j → GoalEnds t b n i j)
  alternatives n ps p i e zero k at get here into =
      let same : k + 0 ≡ k = omega arith in
      let s = seen at p i (EndsAt b at) (ran.asks at (spot_at n k i) (node.Alt ps) here e p (subst (λ x. slice_get ps x ≡ Some p) same get)).0 in
      (s.0, λ j h. into j (s.1 j h))
  alternatives n ps p i e (suc more) k at get here into =
      let lt : k < length ps = omega (arith, slice_get_within ps (k + suc more) p get) in
      let same : k + suc more ≡ k + 1 + more = omega arith in
      let next = (ran.asks at (spot_at n k i) (node.Alt ps) here e (get_or ps k p) (slice_get-get_or ps k p lt)).1 in
      alternatives n ps p i e more (k + 1) next.0 (subst (λ x. slice_get ps x ≡ Some p) same get) next.1 (λ j h. into j (next.3 j h))

  module _ (n : NodeIx) (k i m : ℕ) (g : GoesOn t b n k i m) where
    asks_of : (x : Node) → node_at (rules_of t) n ≡ Some x → Asks (rules_of t) (words_of t) t.reading.goes_on b g.at x (spot_at n g.step m) (EndsAt b g.at)
    asks_of x e = ran.asks g.at (spot_at n g.step m) x g.here e

    next_part : (ps : List NodeIx) (p : NodeIx) → node_at (rules_of t) n ≡ Some (node.Seq ps) → slice_get ps k ≡ Some p →
        IsGoal t b p m × ((j : ℕ) → GoalEnds t b p m j → Behind (facts t b) n ps (k + 1) i j)
    next_part ps p e get =
        let step : g.step ≡ k = g.is (node.Seq ps) e in
        let s = seen g.at p m _ ((asks_of (node.Seq ps) e).1 p (subst (λ x. slice_get ps x ≡ Some p) (sym step) get)) in (
          s.0,
          λ j h. (
            λ lt. goes n (node.Seq ps) (g.step + 1) (k + 1) i j e (ap (λ x. x + 1) step) g.at (EndsAt b g.at) ((s.1 j h).1 (omega (arith, lt, step))) g.into,
            λ same. g.into j ((s.1 j h).0 (omega (arith, same, step))),
          ),
        )

    module _ (least : ℕ) (most : Option ℕ) (p : NodeIx) (e : node_at (rules_of t) n ≡ Some (node.Rep least most p)) where
      turns : g.step - 1 ≡ k
      turns = g.is (node.Rep least most p) e

      enough_turns : least ≤ k → GoalEnds t b n i m
      enough_turns lo = g.into m ((asks_of (node.Rep least most p) e).0 (omega (arith, lo, turns)))

      one_more : IsAtMost most (k + 1) → IsGoal t b p m × ((j : ℕ) → GoalEnds t b p m j →
          (m ≢ j → Sees b g.at (spot_at n (next_level least most (g.step - 1) + 1) j) (EndsAt b g.at)) × (m ≡ j → g.step - 1 < least → IsAtMost most least → EndsAt b g.at j))
      one_more hi = seen g.at p m _ ((asks_of (node.Rep least most p) e).1 (subst (λ x. IsAtMost most (x + 1)) (sym turns) hi))

      next_turn : IsAtMost most (k + 1) → IsGoal t b p m × ((j : ℕ) → GoalEnds t b p m j → m ≢ j → GoesOn t b n (next_level least most k) i j)
      next_turn hi =
          let s = one_more hi in
          let back : next_level least most (g.step - 1) + 1 - 1 ≡ next_level least most k = omega (arith, ap (next_level least most) turns) in
          (s.0, λ j h ne. goes n (node.Rep least most p) (next_level least most (g.step - 1) + 1) (next_level least most k) i j e back g.at (EndsAt b g.at) ((s.1 j h).0 ne) g.into)

      filled_turns : IsAtMost most least → GoalEnds t b p m m → GoalEnds t b n i m
      filled_turns bound h = ⊎_elim
          (λ lt. g.into m (((one_more (fewer most (k + 1) least (omega (arith, lt)) bound)).1 m h).1 refl (omega (arith, lt, turns)) bound))
          (λ le. enough_turns le)
          (cases_lt k least)

  pub closed : AreClosed (rules_of t) (words_of t) t.reading.goes_on t.rule (facts t b)
  closed = record {
    body = λ rule e.
        (let both : Some ran.first.0 ≡ Some rule = sym ran.first.1 ∙ e in
        let same : ran.first.0 ≡ rule = cc in
        subst (λ (x : LinkedRule). IsGoal t b x.body 0) same (0, ran.first.2));
    token = λ n us i j g e read. (g.0, g.1, ran.asks g.0 (spot_at n 0 i) (node.Token us) g.1 e j read);
    tag = λ n tag i g e. (g.0, g.1, ran.asks g.0 (spot_at n 0 i) (node.Tag tag) g.1 e);
    null = λ n i g e. (g.0, g.1, ran.asks g.0 (spot_at n 0 i) node.Null g.1 e);
    garbage = λ n us i j g e read. (g.0, g.1, ran.asks g.0 (spot_at n 0 i) node.Garbage g.1 e us j read);
    alternative = λ n ps k p i g e get. alternatives n ps p i e k 0 g.0 (subst (λ x. slice_get ps x ≡ Some p) (none_more k) get) g.1 (λ j h. (g.0, g.1, h));
    reference = λ n q rule i g e get.
        (let s = seen g.0 rule.body i (EndsAt b g.0) (ran.asks g.0 (spot_at n 0 i) (node.Ref q) g.1 e rule get) in
        (s.0, λ j h. (g.0, g.1, s.1 j h)));
    no_part = λ n ps i g e. (
      λ lt. record { step = 0; at = g.0; here = g.1; is = λ x e'. subst (λ (z : Node). StepIs z 0 0) (one_kind n (node.Seq ps) x e e') refl; into = λ j h. (g.0, g.1, h) },
      λ same. (g.0, g.1, (ran.asks g.0 (spot_at n 0 i) (node.Seq ps) g.1 e).0 same),
    );
    part = λ n ps k p i m s e get. next_part n k i m s ps p e get;
    no_turn = λ n least most p i g e. record {
      step = 0;
      at = g.0;
      here = g.1;
      is = λ x e'. subst (λ (z : Node). StepIs z 0 0) (one_kind n (node.Rep least most p) x e e') refl;
      into = λ j h. (g.0, g.1, h);
    };
    turn = λ n least most p k i m s e hi. next_turn n k i m s least most p e hi;
    enough = λ n least most p k i j s e lo. enough_turns n k i j s least most p e lo;
    filled = λ n least most p k i j s e bound ends. filled_turns n k i j s least most p e bound ends;
  }
    where
      none_more : (k : ℕ) → k ≡ 0 + k
      none_more k = omega arith
