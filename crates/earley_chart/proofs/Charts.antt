-- What a run at its end says, in the words of the public definitions.
use Rattle.std.proofs.Common.{Bool, true, false, ℕ, zero, suc, ◌+◌, ◌&&◌, ◌||◌, eqb, ◌<◌, ◌≤◌, ◌≡◌, ◌≢◌, ◌⊎◌, inl, inr, List, [], ◌∷◌, Option, Some, None, length, get_or, refl, sym, ap, ◌∙◌, subst, ⊎_elim, arith, true≢false}
use Rattle.std.specs.Prelude.{◌↔◌, IsTrue, is_some, MatchOption, slice_get, slice_range}
use Rattle.std.specs.List.{list_any, position}
use Rattle.std.proofs.lemmas.Nat.Bits.{bit_at_above}
use Rattle.std.proofs.lemmas.List.Quantifiers.{position-Some}
use Rattle.std.proofs.lemmas.Option.{slice_get_within, slice_get-get_or}
use Rattle.vg_base.specs.declared.numbers.NodeIx.{NodeIx}
use Rattle.vg_base.specs.declared.numbers.RuleIx.{RuleIx}
use Rattle.grammar_tree.specs.declared.linked.LinkedRule.{LinkedRule}
use Rattle.grammar_tree.specs.Links.{Rules, rule_at}
use Rattle.grammar_tree.specs.Derives.{Words, HasTree, RuleHasTree}
use Rattle.grammar_tree.specs.Reached.{DerivesSpan, Reached}
use Rattle.grammar_tree.specs.Longer.{Longer}
use Rattle.earley_chart.specs.declared.places.Places.{Places}
use Rattle.earley_chart.specs.declared.board.Spot.{Spot}
use Rattle.earley_chart.specs.declared.board.Board.{Board}
use Rattle.earley_chart.specs.declared.reading.Task.{Task}
use Rattle.earley_chart.specs.Places.{Has}
use Rattle.earley_chart.specs.Chart.{Table, IsTable, IsRow, EndsAt, Predicts, Spans, RanOn, TellsMatch, TellsSpan}
use Rattle.earley_chart.specs.code.Steps.{Leads, Met}
use Rattle.earley_chart.specs.code.Boards.{IsSpot, spot_at}
use Rattle.earley_chart.specs.code.Sound.{rules_of, words_of, RightSpot, Ran}
use Rattle.earley_chart.proofs.Meets.{spot_eq, spot_same}
use Rattle.earley_chart.proofs.KindSteps.{first_leads}
use Rattle.earley_chart.proofs.Closed.{facts, closed}
use Rattle.earley_chart.proofs.Complete.{complete, all_met}
use Rattle.earley_chart.proofs.Lines.{whole, leads_span, met_reached, reached_met, leads_longer}

-- the rows of a board
abbrev pub table_of : Task → Board → Table
table_of t b = record { rule = t.rule; words = words_of t; spots = b.spots.keys; ends = b.ends.items }

module _ (t : Task) (b : Board) (ran : Ran t b) where
  row_right : (row : ℕ) (n : NodeIx) (i : ℕ) → IsSpot b row (spot_at n 0 i) → RightSpot t (spot_at n 0 i)
  row_right row n i h = ran.good.sound.spots row (spot_at n 0 i) h

  predicts_met : (n : NodeIx) (i : ℕ) → Predicts (table_of t b) n i ↔ Met (rules_of t) (words_of t) t.reading.goes_on t.rule n i
  predicts_met n i = (
    λ h. (let r = row_right h.0 n i h.1 in subst (λ k. Met (rules_of t) (words_of t) t.reading.goes_on t.rule n k) (r.stood.0 refl) r.met),
    λ met. all_met (rules_of t) (words_of t) t.reading.goes_on t.rule (facts t b) (closed t b ran) n i met,
  )

  spans_leads : (n : NodeIx) (i j : ℕ) → Predicts (table_of t b) n i → Spans (table_of t b) n i j ↔ Leads (rules_of t) (words_of t) t.reading.goes_on n i j
  spans_leads n i j goal = (
    λ h. first_leads (rules_of t) (words_of t) t.reading.goes_on t.rule n i j (row_right h.0 n i h.1) (ran.good.sound.ends h.0 (spot_at n 0 i) j h.1 h.2),
    λ h. complete (rules_of t) (words_of t) t.reading.goes_on t.rule (facts t b) (closed t b ran) n h.0 h.2.0 h.2.1 i j goal h.1,
  )

  -- over a line that ends
  pub ran_on : t.reading.goes_on ≡ false → RanOn (rules_of t) (table_of t b)
  ran_on ends = record {
    few = ran.good.few;
    first = ran.first;
    reached = λ n i.
        (let met : Met (rules_of t) (words_of t) t.reading.goes_on t.rule n i ↔ Reached (rules_of t) (words_of t) t.rule n i =
        subst (λ g. Met (rules_of t) (words_of t) g t.rule n i ↔ Reached (rules_of t) (words_of t) t.rule n i) (sym ends)
        (met_reached (rules_of t) (words_of t) t.rule n i, reached_met (rules_of t) (words_of t) t.rule n i) in
        (λ h. met.0 ((predicts_met n i).0 h), λ h. (predicts_met n i).1 (met.1 h)));
    spans = λ n i j goal.
        (let leads : Leads (rules_of t) (words_of t) t.reading.goes_on n i j ↔ DerivesSpan (rules_of t) (words_of t) n i j =
        subst (λ g. Leads (rules_of t) (words_of t) g n i j ↔ DerivesSpan (rules_of t) (words_of t) n i j) (sym ends) (leads_span (rules_of t) (words_of t) n i j) in
        (λ h. leads.0 ((spans_leads n i j goal).0 h), λ h. (spans_leads n i j goal).1 (leads.1 h)));
  }

  -- over a line that goes on
  pub longer_tells : t.reading.goes_on ≡ true → (answer : Bool) (ends : Places) → slice_get b.ends.items 0 ≡ Some ends →
      IsTrue answer ↔ Has ends (length (words_of t) + 1) → IsTrue answer ↔ Longer (rules_of t) t.rule (words_of t)
  longer_tells on answer ends here says = (
    λ h. leads.0 ((spans_leads rule.body 0 (length (words_of t) + 1) goal).0 (0, ran.first.2, (ends, here, says.0 h))),
    λ h. (let s = (spans_leads rule.body 0 (length (words_of t) + 1) goal).1 (leads.1 h) in
        let same = ran.good.whole.apart s.0 0 (spot_at rule.body 0 0) s.1 ran.first.2 in
        let both : Some s.2.0 ≡ Some ends = sym s.2.1 ∙ ap (λ k. slice_get b.ends.items k) same ∙ here in
        let one : s.2.0 ≡ ends = cc in
        says.1 (subst (λ (e : Places). Has e (length (words_of t) + 1)) one s.2.2)),
  )
    where
      rule : LinkedRule
      rule = ran.first.0

      goal : Predicts (table_of t b) ran.first.0.body 0
      goal = (0, ran.first.2)

      leads : Leads (rules_of t) (words_of t) t.reading.goes_on ran.first.0.body 0 (length (words_of t) + 1) ↔ Longer (rules_of t) t.rule (words_of t)
      leads = subst (λ g. Leads (rules_of t) (words_of t) g ran.first.0.body 0 (length (words_of t) + 1) ↔ Longer (rules_of t) t.rule (words_of t)) (sym on)
          (leads_longer (rules_of t) (words_of t) t.rule ran.first.0 ran.first.1)

module _ (c : Table) (table : IsTable c) where
  pub match_tells : (answer : Bool) → IsTrue answer ↔ EndsAt c 0 (length c.words) → TellsMatch c answer
  match_tells answer says = λ L ran. (
    λ h. (let span = (ran.spans ran.first.0.body 0 (length c.words) (0, ran.first.2)).0 (0, ran.first.2, says.0 h) in
        (ran.first.0, ran.first.1, subst (HasTree L ran.first.0.body) (whole c.words) span.derives)),
    λ h. (let both : Some h.0 ≡ Some ran.first.0 = sym h.1 ∙ ran.first.1 in
        let same : h.0 ≡ ran.first.0 = cc in
        let tree : HasTree L ran.first.0.body c.words = subst (λ (r : LinkedRule). HasTree L r.body c.words) same h.2 in
        let spans = (ran.spans ran.first.0.body 0 (length c.words) (0, ran.first.2)).1
        (record { order = omega arith; within = omega arith; derives = subst (HasTree L ran.first.0.body) (sym (whole c.words)) tree }) in
        let row = table.apart spans.0 0 (spot_at ran.first.0.body 0 0) spans.1 ran.first.2 in
        says.1 (subst (λ k. EndsAt c k (length c.words)) row spans.2)),
  )

  pub row_tells : (row : ℕ) (n : NodeIx) (i j : ℕ) (answer : Bool) → IsRow c row n i → IsTrue answer ↔ EndsAt c row j → IsTrue answer ↔ Spans c n i j
  row_tells row n i j answer here says = (
    λ h. (row, here, says.0 h),
    λ h. says.1 (subst (λ k. EndsAt c k j) (table.apart h.0 row (spot_at n 0 i) h.1 here) h.2),
  )

pub span_tells : (c : Table) (n : NodeIx) (i j : ℕ) (answer : Bool) → IsTrue answer ↔ Spans c n i j → Predicts c n i → TellsSpan c n i j answer
span_tells c n i j answer says goal = λ L ran. (λ h. (ran.spans n i j goal).0 (says.0 h), λ h. says.1 ((ran.spans n i j goal).1 h))

or_later : (a b : Bool) → b ≡ true → (a || b) ≡ true
or_later true b h = refl
or_later false b h = h

-- a key that stands in a list is found
any_at : (p : Spot → Bool) (xs : List Spot) (k : ℕ) (x : Spot) → slice_get xs k ≡ Some x → p x ≡ true → list_any p xs ≡ true
any_at p [] k x h e = absurd (cc)
any_at p (y ∷ xs) zero x h e = let same : y ≡ x = cc in ap (λ b. b || list_any p xs) (ap p same ∙ e)
any_at p (y ∷ xs) (suc k) x h e = or_later (p y) (list_any p xs) (any_at p xs k x h e)

-- what a look-up finds
pub found_row : (keys : List Spot) (s : Spot) (r : Option ℕ) → r ≡ position (spot_eq s) keys → is_some r ≡ list_any (spot_eq s) keys →
    MatchOption r (((row : ℕ) × (slice_get keys row ≡ Some s)) → ⊥) (λ row. slice_get keys row ≡ Some s)
found_row keys s None at there = λ h. true≢false (sym (any_at (spot_eq s) keys h.0 s h.1 ((spot_same s s).1 refl)) ∙ sym there)
found_row keys s (Some row) at there =
    let p = position-Some (spot_eq s) keys row s (sym at) in
    let same : s ≡ get_or keys row s = (spot_same s (get_or keys row s)).0 p.1 in
    slice_get-get_or keys row s p.0 ∙ ap Some (sym same)

-- no row ends past the bits
pub none_past : (c : Table) → IsTable c → (row j : ℕ) → 128 ≤ j → EndsAt c row j → ⊥
none_past c table row j le h = absurd (omega (arith, bit_at_above h.0.0 128 j (table.small row h.0 h.1) le, h.2))
