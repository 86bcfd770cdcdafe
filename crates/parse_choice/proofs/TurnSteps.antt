-- The steps of a repeat: no more turn (`turns_end`), or one more and then the rest (`turns_go_on`). Only past the least
-- and below the most a choice tells them apart (`turn_ways`).
use Rattle.std.proofs.Common.{ℕ, ◌+◌, ◌-◌, ◌<◌, ◌≤◌, ◌≡◌, ◌⊎◌, inl, inr, Bool, true, false, List, [], ◌∷◌, ◌++◌, length, max, map, refl, sym, ap, ◌∙◌, subst, ⊎_elim, arith, append_assoc, append-nil, true≢false}
use Rattle.std.specs.Prelude.{slice_range}
use Rattle.vg_base.specs.declared.numbers.NodeIx.{NodeIx}
use Rattle.grammar_tree.specs.declared.parse_tree.ParseTree.{ParseTree}
use Rattle.grammar_tree.specs.Links.{Rules}
use Rattle.grammar_tree.specs.Derives.{IsAtMost, Derives, DerivesTurns, no_turn, turn}
use Rattle.grammar_tree.specs.Choices.{choices, chosen_by, turns_chosen, choice_if}
use Rattle.grammar_tree.specs.Reached.{DerivesSpan}
use Rattle.grammar_tree.proofs.Decode.{fewer, open_here}
use Rattle.grammar_tree.proofs.Spans.{span_length, span_join, span_empty}
use Rattle.earley_chart.specs.declared.places.Places.{Places}
use Rattle.earley_chart.specs.Places.{Has}
use Rattle.earley_chart.specs.Chart.{Table, RanOn}
use Rattle.parse_choice.specs.declared.accepted.Turns.{Turns}
use Rattle.parse_choice.specs.declared.plan.Job.{Job}
use Rattle.parse_choice.specs.declared.plan.Job.TheVariants as job
use Rattle.parse_choice.specs.code.Ways.{ends_of, IsOnward, AreOnward, next_of}
use Rattle.parse_choice.specs.code.Plans.{At, at, Does, Runs, Can, IsTurning}
use Rattle.parse_choice.specs.code.Steps.{opens, one_more}
use Rattle.parse_choice.proofs.Expansions.{Expands}
use Rattle.parse_choice.proofs.NodeSteps.{same_at, can_nothing}
use Rattle.parse_choice.proofs.Choosing.{span_derived, derived_span, TwoWays}
use Rattle.parse_choice.proofs.TurnWays.{FirstTurn, first_turn, Completed, completes, turn_reached, one_made, turns_lead}

module _ (L : Rules) (c : Table) (ran : RanOn L c) (t : Turns) (s : At) (turning : IsTurning L c t s.place) where
  abbrev p : NodeIx
  p = t.repeat.inner

  abbrev here : Job
  here = job.Turns t

  within : s.place ≤ length c.words
  within = turning.front.within

  opens_if : t.repeat.least ≤ t.made → IsAtMost t.repeat.most (t.made + 1) → opens t ≡ true
  opens_if lo hi = open_here t.repeat.least t.repeat.most t.made lo hi

  view : (cs : List ℕ) (s' : At) (d : Does L c.words here s cs s') → ((d.new ≡ []) × (s.place ≡ s'.place)) ⊎ FirstTurn L c.words p (t.repeat.least - t.made) s.place s'.place d.new
  view cs s' d = first_turn L c.words p (t.repeat.least - t.made) s.place s'.place (slice_range c.words s.place s'.place) d.new d.makes.derive refl d.makes.spanned.order d.makes.spanned.within

  -- the choices of no turn, and of one and others
  none_chosen : (cs : List ℕ) (s' : At) (d : Does L c.words here s cs s') → d.new ≡ [] → cs ≡ choice_if (opens t) 1
  none_chosen cs s' d e = d.makes.choices ∙ ap (λ ts. turns_chosen t.repeat.least t.repeat.most p t.made (map (chosen_by L) ts)) e

  abbrev behind : ParseTree → List ParseTree → List ℕ
  behind u ts = choices L p u ++ turns_chosen t.repeat.least t.repeat.most p (t.made + 1) (map (chosen_by L) ts)

  some_chosen : (cs : List ℕ) (s' : At) (d : Does L c.words here s cs s') (u : ParseTree) (ts : List ParseTree) → d.new ≡ u ∷ ts → cs ≡ choice_if (opens t) 0 ++ behind u ts
  some_chosen cs s' d u ts e = d.makes.choices ∙ ap (λ ts. turns_chosen t.repeat.least t.repeat.most p t.made (map (chosen_by L) ts)) e

  -- a further turn is within the most
  most_more : (cs : List ℕ) (s' : At) (d : Does L c.words here s cs s') → (u : ParseTree) (ts : List ParseTree) → d.new ≡ u ∷ ts → IsAtMost t.repeat.most (t.made + 1)
  most_more cs s' d u ts e = fewer t.repeat.most (t.made + 1) (t.made + length d.new) (omega (arith, ap length e)) d.makes.most

  -- ---- no more turn

  ends_here : t.repeat.least ≤ t.made → Has (ends_of t.ways) s.place → Does L c.words here s (choice_if (opens t) 1) s
  ends_here lo has =
      let none : t.made ≡ t.made + 0 = omega arith in
      record {
        new = [];
        makes = record {
          spanned = record { order = omega arith; within = within; accepted = has };
          derive = no_turn (span_empty c.words s.place);
          least = omega (arith, lo);
          most = subst (λ k. IsAtMost t.repeat.most k) none turning.front.derive.0;
          choices = refl;
        };
        trees = sym (append-nil s.trees);
      }

  -- a choice that says so, or none where no more turn may be made
  never_both : (ds later : List ℕ) (b : Bool) (more : List ℕ) → b ≡ true → choice_if b 1 ++ ds ≡ (choice_if b 0 ++ more) ++ later → ⊥
  never_both ds later b more e q =
      let no : 1 ∷ ds ≡ 0 ∷ (more ++ later) = subst (λ b. choice_if b 1 ++ ds ≡ (choice_if b 0 ++ more) ++ later) e q in cc (no)

  pub turns_end : t.repeat.least ≤ t.made → Has (ends_of t.ways) s.place → Expands L c (choice_if (opens t) 1) here s [] s
  turns_end lo has = record {
    onto = λ cs ds later s' d q. ⊎_elim
        (λ e. (
          [],
          none_chosen cs s' d e.0 ∙ sym (append-nil (choice_if (opens t) 1)),
          record {
            choices = refl;
            same = same_at s' s.place s.trees (sym e.1) (d.trees ∙ ap (λ us. s.trees ++ us) e.0 ∙ append-nil s.trees);
          },
        ))
        (λ f. absurd (never_both ds later (opens t) (behind f.tree f.more) (opens_if lo (most_more cs s' d f.tree f.more f.is))
        (q ∙ ap (λ zs. zs ++ later) (some_chosen cs s' d f.tree f.more f.is))))
        (view cs s' d);
    back = λ cs s' r. subst (λ zs. Does L c.words here s (choice_if (opens t) 1 ++ zs) s') (sym r.choices)
        (subst (λ zs. Does L c.words here s zs s') (sym (append-nil (choice_if (opens t) 1)))
        (subst (λ (a : At). Does L c.words here s (choice_if (opens t) 1) a) (sym r.same) (ends_here lo has)));
    fair = tt;
  }

  -- ---- one more turn

  module _ (ends : Places) (on : AreOnward c t s.place ends) where
    -- each first turn goes to one of these places
    has_onward : (j : ℕ) (ts : List ParseTree) (f : FirstTurn L c.words p (t.repeat.least - t.made) s.place j ts) → j ≤ length c.words → Has (ends_of t.ways) j →
        t.repeat.least ≤ t.made + length ts → IsAtMost t.repeat.most (t.made + length ts) → IsOnward c t s.place on.empty f.place
    has_onward j ts f in_line has lo hi =
        let size : length ts ≡ 1 + length f.more = omega (arith, ap length f.is) in
        let more : IsAtMost t.repeat.most (t.made + 1) = fewer t.repeat.most (t.made + 1) (t.made + length ts) (omega arith) hi in
        let span : DerivesSpan L c.words p s.place f.place = record { order = f.after; within = omega (arith, f.before, in_line); derives = (f.tree, f.derives) } in
        let reached = turn_reached L c ran t turning.at turning.kind turning.from turning.reached t.made s.place turning.front more in
        let word : t.repeat.least ≤ t.made → s.place < f.place = λ le. f.word (omega (arith, le)) in
        let made = one_made L c ran t turning.at turning.kind turning.from turning.reached t.made s.place f.place turning.front more word span in
        let count : t.made + length ts ≡ t.made + 1 + length f.more = omega arith in
        let w = turns_lead L c ran t turning.at turning.kind turning.from turning.reached (ends_of t.ways) j has in_line f.more (t.made + 1) f.place ((t.repeat.least - t.made) - 1) f.before f.rest
        (omega arith) (subst (λ k. IsAtMost t.repeat.most k) count hi) made in
        record {
          most = more;
          span = derived_span L c ran p s.place f.place reached span;
          word = word;
          completed = (
            w.words,
            turning.ways.has w.words f.place (omega (arith, f.before, in_line, ran.few)) w.lead,
            (
              ⊎_elim (λ e. inr (omega (arith, e, lo)))
                  (λ empty. inl (on.tells.1 (derived_span L c ran p s.place s.place reached
                  (record { order = omega arith; within = within; derives = (empty.0, subst (λ us. Derives L p us empty.0) (sym (span_empty c.words s.place)) empty.1) }))))
                  w.all,
              fewer t.repeat.most (max (t.made + 1 + w.words) t.repeat.least) (t.made + length ts) (omega (arith, w.fewer, lo)) hi,
            ),
          );
        }

    next_made : (j : ℕ) → IsOnward c t s.place on.empty j → Completed L c ran t (t.made + 1) j
    next_made j h = completes L c ran t (t.made + 1) j on.empty turning.ways
        (λ e. (let d = span_derived L c ran p s.place s.place (on.tells.0 e) in (d.derives.0, subst (λ us. Derives L p us d.derives.0) (span_empty c.words s.place) d.derives.1)))
        (span_derived L c ran p s.place j h.span).within h.completed

    next_turning : IsAtMost t.repeat.most (t.made + 1) → (j : ℕ) → (t.repeat.least ≤ t.made → s.place < j) → DerivesSpan L c.words p s.place j → IsTurning L c (next_of t) j
    next_turning more j word span = record {
      at = turning.at;
      kind = turning.kind;
      from = turning.from;
      reached = turning.reached;
      front = one_made L c ran t turning.at turning.kind turning.from turning.reached t.made s.place j turning.front more word span;
      ways = turning.ways;
    }

    can_next : (j : ℕ) → Completed L c ran t (t.made + 1) j → Can L c.words (job.Turns (next_of t) ∷ []) j
    can_next j h = record {
      choices = turns_chosen t.repeat.least t.repeat.most p (t.made + 1) (map (chosen_by L) h.trees);
      last = at h.last h.trees;
      runs = record {
        middle = at h.last h.trees;
        now = turns_chosen t.repeat.least t.repeat.most p (t.made + 1) (map (chosen_by L) h.trees);
        later = [];
        first = record { new = h.trees; makes = record { spanned = h.spanned; derive = h.derive; least = h.least; most = h.most; choices = refl }; trees = refl };
        rest = record { choices = refl; same = refl };
        choices = sym (append-nil _);
      };
    }

    -- a turn and the rest, as they were planned, are turns
    go_back : (cs : List ℕ) (s' : At) → Runs L c.words (one_more t ends) s cs s' → Does L c.words here s (choice_if (opens t) 0 ++ cs) s'
    go_back cs s' r =
        let u = r.first.makes.tree in
        let ts = r.rest.first.new in
        let j = r.rest.middle.place in
        let rest = r.rest.first.makes in
        let onward = (on.holds r.middle.place).0 r.first.makes.spanned.accepted in
        let same : r.later ≡ r.rest.now = r.rest.choices ∙ ap (λ zs. r.rest.now ++ zs) r.rest.rest.choices ∙ append-nil r.rest.now in
        let free : t.repeat.least - (t.made + 1) ≡ (t.repeat.least - t.made) - 1 = omega arith in
        let count : t.made + 1 + length ts ≡ t.made + length (u ∷ ts) = omega arith in
        subst (λ (a : At). Does L c.words here s (choice_if (opens t) 0 ++ cs) a) (sym r.rest.rest.same)
        (record {
          new = u ∷ ts;
          makes = record {
            spanned = record { order = omega (arith, r.first.makes.spanned.order, rest.spanned.order); within = rest.spanned.within; accepted = rest.spanned.accepted };
            derive = turn (slice_range c.words s.place r.middle.place) (slice_range c.words r.middle.place j)
                (span_join c.words s.place r.middle.place j r.first.makes.spanned.order rest.spanned.order)
                (λ none e. absurd (omega (arith, onward.word (omega (arith, none)), span_length c.words s.place r.middle.place r.first.makes.spanned.order r.first.makes.spanned.within, ap length e)))
                r.first.makes.derives
                (subst (λ k. DerivesTurns L p k (slice_range c.words r.middle.place j) ts) free rest.derive);
            least = omega (arith, rest.least, count);
            most = subst (λ k. IsAtMost t.repeat.most k) count rest.most;
            choices = ap (λ zs. choice_if (opens t) 0 ++ zs)
                (r.choices ∙ ap (λ zs. zs ++ r.later) r.first.makes.choices ∙ ap (λ zs. choices L p u ++ zs) (same ∙ rest.choices));
          };
          trees = r.rest.first.trees ∙ ap (λ us. us ++ ts) (r.first.trees ∙ ap (λ us. s.trees ++ us) r.first.makes.trees) ∙ append_assoc s.trees (u ∷ []) ts;
        })

    never_none : (ds later : List ℕ) (b : Bool) → b ≡ true → choice_if b 0 ++ ds ≡ choice_if b 1 ++ later → ⊥
    never_none ds later b e q = let no : 0 ∷ ds ≡ 1 ∷ later = subst (λ b. choice_if b 0 ++ ds ≡ choice_if b 1 ++ later) e q in cc (no)

    pub turns_go_on : IsAtMost t.repeat.most (t.made + 1) → Expands L c (choice_if (opens t) 0) here s (one_more t ends) s
    turns_go_on more = record {
      onto = λ cs ds later s' d q. ⊎_elim
          (λ e. absurd (never_none ds later (opens t) (opens_if (omega (arith, d.makes.least, ap length e.0)) more)
          (q ∙ ap (λ zs. zs ++ later) (none_chosen cs s' d e.0))))
          (λ f. (behind f.tree f.more, some_chosen cs s' d f.tree f.more f.is, onto_more cs s' d f))
          (view cs s' d);
      back = go_back;
      fair = (
        turn_reached L c ran t turning.at turning.kind turning.from turning.reached t.made s.place turning.front more,
        λ j lead.
            (let onward = (on.holds j).0 lead.does.makes.spanned.accepted in
            ((next_turning more j onward.word (span_derived L c ran p s.place j onward.span), λ k l. (tt, can_nothing L c k)), can_next j (next_made j onward))),
      );
    }
      where
        onto_more : (cs : List ℕ) (s' : At) (d : Does L c.words here s cs s') (f : FirstTurn L c.words p (t.repeat.least - t.made) s.place s'.place d.new) →
            Runs L c.words (one_more t ends) s (behind f.tree f.more) s'
        onto_more cs s' d f =
            let onward = has_onward s'.place d.new f d.makes.spanned.within d.makes.spanned.accepted d.makes.least d.makes.most in
            let free : (t.repeat.least - t.made) - 1 ≡ t.repeat.least - (t.made + 1) = omega arith in
            let size : length d.new ≡ 1 + length f.more = omega (arith, ap length f.is) in
            let count : t.made + length d.new ≡ t.made + 1 + length f.more = omega arith in
            record {
              middle = at f.place (s.trees ++ f.tree ∷ []);
              now = choices L p f.tree;
              later = turns_chosen t.repeat.least t.repeat.most p (t.made + 1) (map (chosen_by L) f.more);
              first = record {
                new = f.tree ∷ [];
                makes = record {
                  spanned = record { order = f.after; within = omega (arith, f.before, d.makes.spanned.within); accepted = (on.holds f.place).1 onward };
                  tree = f.tree;
                  derives = f.derives;
                  choices = refl;
                  trees = refl;
                };
                trees = refl;
              };
              rest = record {
                middle = s';
                now = turns_chosen t.repeat.least t.repeat.most p (t.made + 1) (map (chosen_by L) f.more);
                later = [];
                first = record {
                  new = f.more;
                  makes = record {
                    spanned = record { order = f.before; within = d.makes.spanned.within; accepted = d.makes.spanned.accepted };
                    derive = subst (λ k. DerivesTurns L p k (slice_range c.words f.place s'.place) f.more) free f.rest;
                    least = omega (arith, d.makes.least, size);
                    most = subst (λ k. IsAtMost t.repeat.most k) count d.makes.most;
                    choices = refl;
                  };
                  trees = d.trees ∙ ap (λ us. s.trees ++ us) f.is ∙ sym (append_assoc s.trees (f.tree ∷ []) f.more);
                };
                rest = record { choices = refl; same = refl };
                choices = sym (append-nil _);
              };
              choices = refl;
            }

    -- a turn that goes on, in full
    turn_does : (j : ℕ) → Has ends j → (more : List ℕ) × (s' : At) × Does L c.words here s (choice_if (opens t) 0 ++ more) s'
    turn_does j has =
        let onward = (on.holds j).0 has in
        let d = span_derived L c ran p s.place j onward.span in
        let rest = next_made j onward in
        let later = turns_chosen t.repeat.least t.repeat.most p (t.made + 1) (map (chosen_by L) rest.trees) in
        let last = at rest.last ((s.trees ++ d.derives.0 ∷ []) ++ rest.trees) in (
          choices L p d.derives.0 ++ later,
          last,
          go_back (choices L p d.derives.0 ++ later) last
              (record {
                middle = at j (s.trees ++ d.derives.0 ∷ []);
                now = choices L p d.derives.0;
                later = later;
                first = record {
                  new = d.derives.0 ∷ [];
                  makes = record { spanned = record { order = d.order; within = d.within; accepted = has }; tree = d.derives.0; derives = d.derives.1; choices = refl; trees = refl };
                  trees = refl;
                };
                rest = record {
                  middle = last;
                  now = later;
                  later = [];
                  first = record { new = rest.trees; makes = record { spanned = rest.spanned; derive = rest.derive; least = rest.least; most = rest.most; choices = refl }; trees = refl };
                  rest = record { choices = refl; same = refl };
                  choices = sym (append-nil later);
                };
                choices = refl;
              }),
        )

    -- where there is a choice, 0 stands before a turn, and 1 at the end
    pub turn_ways : (n : NodeIx) (guide : List ℕ) → opens t ≡ true → t.repeat.least ≤ t.made → TwoWays L c n guide here s ((j : ℕ) × Has ends j) (Has (ends_of t.ways) s.place)
    turn_ways n guide open_now lo = record {
      each = λ cs s' d. ⊎_elim
          (λ e. inr ([], none_chosen cs s' d e.0 ∙ ap (λ b. choice_if b 1) open_now, subst (λ k. Has (ends_of t.ways) k) (sym e.1) d.makes.spanned.accepted))
          (λ f. inl (
            behind f.tree f.more,
            some_chosen cs s' d f.tree f.more f.is ∙ ap (λ b. choice_if b 0 ++ behind f.tree f.more) open_now,
            (f.place, (on.holds f.place).1 (has_onward s'.place d.new f d.makes.spanned.within d.makes.spanned.accepted d.makes.least d.makes.most)),
          ))
          (view cs s' d);
      first = λ h. (let d = turn_does h.0 h.1 in (d.0, d.1, subst (λ b. Does L c.words here s (choice_if b 0 ++ d.0) d.1) open_now d.2));
      second = λ h. ([], s, subst (λ b. Does L c.words here s (choice_if b 1) s) open_now (ends_here lo h));
    }

    -- below the least there is a turn
    pub must_turn : (cs : List ℕ) (s' : At) → Does L c.words here s cs s' → t.made < t.repeat.least → IsAtMost t.repeat.most (t.made + 1)
    must_turn cs s' d lt = fewer t.repeat.most (t.made + 1) (t.made + length d.new) (omega (arith, d.makes.least)) d.makes.most

    -- at the most there is none
    pub must_stop : (cs : List ℕ) (s' : At) → Does L c.words here s cs s' → t.repeat.least ≤ t.made → opens t ≡ false → Has (ends_of t.ways) s.place
    must_stop cs s' d lo shut = ⊎_elim
        (λ e. subst (λ k. Has (ends_of t.ways) k) (sym e.1) d.makes.spanned.accepted)
        (λ f. absurd (true≢false (sym (opens_if lo (most_more cs s' d f.tree f.more f.is)) ∙ shut)))
        (view cs s' d)
