-- The steps of `$GARBAGE`: it ends here, or takes one more word.
use Rattle.std.proofs.Common.{ℕ, ◌+◌, ◌<◌, ◌≤◌, ◌≡◌, inl, inr, List, [], ◌∷◌, ◌++◌, length, refl, sym, ap, ◌∙◌, subst, ⊎_elim, arith, append-nil}
use Rattle.std.specs.Prelude.{slice_range}
use Rattle.std.proofs.lemmas.Bool.{cases_lt}
use Rattle.vg_base.specs.declared.numbers.NodeIx.{NodeIx}
use Rattle.grammar_tree.specs.declared.parse_tree.ParseTree.TheVariants as tree
use Rattle.grammar_tree.specs.Links.{Rules}
use Rattle.grammar_tree.specs.Derives.{Words}
use Rattle.grammar_tree.specs.Choices.{garbage_chosen}
use Rattle.grammar_tree.proofs.Spans.{span_length, span_join, span_empty}
use Rattle.earley_chart.specs.declared.places.Places.{Places}
use Rattle.earley_chart.specs.Places.{Has}
use Rattle.earley_chart.specs.Chart.{Table}
use Rattle.parse_choice.specs.declared.plan.Job.{Job}
use Rattle.parse_choice.specs.declared.plan.Job.TheVariants as job
use Rattle.parse_choice.specs.code.Ways.{IsFurther}
use Rattle.parse_choice.specs.code.Plans.{At, at, Does}
use Rattle.parse_choice.proofs.Expansions.{Expands}
use Rattle.parse_choice.proofs.NodeSteps.{same_at, can_nothing}
use Rattle.parse_choice.proofs.Choosing.{TwoWays}

single : {X : Type 0} (xs : List X) → length xs ≡ 1 → (x : X) × (xs ≡ x ∷ [])
single [] e = absurd (omega arith)
single (x ∷ []) e = (x, refl)
single (x ∷ (y ∷ xs)) e = absurd (omega arith)

-- the words between two places begin with one word
pub first_word : (ws : Words) (i j : ℕ) → i < j → j ≤ length ws → (w : List ℕ) × (slice_range ws i j ≡ w ∷ slice_range ws (i + 1) j)
first_word ws i j lt within =
    let one : length (slice_range ws i (i + 1)) ≡ 1 = omega (arith, span_length ws i (i + 1) (omega arith) (omega arith)) in
    let w = single (slice_range ws i (i + 1)) one in
    (w.0, span_join ws i (i + 1) j (omega arith) (omega arith) ∙ ap (λ us. us ++ slice_range ws (i + 1) j) w.1)

pub one_more_word : (ws : Words) (i j : ℕ) → i < j → j ≤ length ws → garbage_chosen (slice_range ws i j) ≡ 1 ∷ garbage_chosen (slice_range ws (i + 1) j)
one_more_word ws i j lt within = ap garbage_chosen (first_word ws i j lt within).1

pub no_more_word : (ws : Words) (i j : ℕ) → i ≡ j → garbage_chosen (slice_range ws i j) ≡ 0 ∷ []
no_more_word ws i j e = ap garbage_chosen (ap (λ k. slice_range ws k j) e ∙ span_empty ws j)

module _ (L : Rules) (c : Table) (from : ℕ) (ends : Places) (s : At) where
  abbrev here : Job
  here = job.Garbage from ends

  abbrev pub Further : Type 0
  Further = IsFurther ends s.place (length c.words)

  abbrev pub stopped : At
  stopped = at s.place (s.trees ++ tree.Garbage (slice_range c.words from s.place) ∷ [])

  garbage_stops : s.place ≤ length c.words → Has ends s.place → Does L c.words here s (0 ∷ []) stopped
  garbage_stops within has = record {
    new = tree.Garbage (slice_range c.words from s.place) ∷ [];
    makes = record { spanned = record { order = omega arith; within = within; accepted = has }; choices = sym (no_more_word c.words s.place s.place refl); trees = refl };
    trees = refl;
  }

  garbage_goes : (j : ℕ) → s.place < j → j ≤ length c.words → Has ends j →
      Does L c.words here s (1 ∷ garbage_chosen (slice_range c.words (s.place + 1) j)) (at j (s.trees ++ tree.Garbage (slice_range c.words from j) ∷ []))
  garbage_goes j lt within has = record {
    new = tree.Garbage (slice_range c.words from j) ∷ [];
    makes = record { spanned = record { order = omega arith; within = within; accepted = has }; choices = sym (one_more_word c.words s.place j lt within); trees = refl };
    trees = refl;
  }

  pub garbage_ways : (n : NodeIx) (guide : List ℕ) → s.place ≤ length c.words → TwoWays L c n guide here s (Has ends s.place) Further
  garbage_ways n guide within = record {
    each = λ cs s' d. ⊎_elim
        (λ lt. inr (garbage_chosen (slice_range c.words (s.place + 1) s'.place), d.makes.choices ∙ one_more_word c.words s.place s'.place lt d.makes.spanned.within, (s'.place, lt, d.makes.spanned.within, d.makes.spanned.accepted)))
        (λ ge. (let same : s.place ≡ s'.place = omega (arith, d.makes.spanned.order, ge) in
        inl ([], d.makes.choices ∙ no_more_word c.words s.place s'.place same, subst (λ k. Has ends k) (sym same) d.makes.spanned.accepted)))
        (cases_lt s.place s'.place);
    first = λ has. ([], stopped, garbage_stops within has);
    second = λ h. (garbage_chosen (slice_range c.words (s.place + 1) h.0), at h.0 (s.trees ++ tree.Garbage (slice_range c.words from h.0) ∷ []), garbage_goes h.0 h.1 h.2 h.3);
  }

  -- it ends here
  pub garbage_ends : s.place ≤ length c.words → Has ends s.place → Expands L c (0 ∷ []) here s [] stopped
  garbage_ends within has = record {
    onto = λ cs ds later s' d q. ⊎_elim
        (λ lt. absurd (let no : 0 ∷ ds ≡ 1 ∷ (garbage_chosen (slice_range c.words (s.place + 1) s'.place) ++ later) =
        q ∙ ap (λ zs. zs ++ later) (d.makes.choices ∙ one_more_word c.words s.place s'.place lt d.makes.spanned.within) in cc (no)))
        (λ ge. (let same : s.place ≡ s'.place = omega (arith, d.makes.spanned.order, ge) in (
          [],
          d.makes.choices ∙ no_more_word c.words s.place s'.place same,
          record {
            choices = refl;
            same = same_at s' s.place stopped.trees (sym same)
                (d.trees ∙ ap (λ us. s.trees ++ us) (d.makes.trees ∙ ap (λ k. tree.Garbage (slice_range c.words from k) ∷ []) (sym same)));
          },
        )))
        (cases_lt s.place s'.place);
    back = λ cs s' r. subst (λ zs. Does L c.words here s (0 ∷ zs) s') (sym r.choices) (subst (λ (a : At). Does L c.words here s (0 ∷ []) a) (sym r.same) (garbage_stops within has));
    fair = tt;
  }

  -- it takes one more word
  pub garbage_more : from ≤ s.place → Further → Expands L c (1 ∷ []) here s (here ∷ []) (at (s.place + 1) s.trees)
  garbage_more after further = record {
    onto = λ cs ds later s' d q. ⊎_elim
        (λ lt. (let is : cs ≡ 1 ∷ garbage_chosen (slice_range c.words (s.place + 1) s'.place) = d.makes.choices ∙ one_more_word c.words s.place s'.place lt d.makes.spanned.within in (
          garbage_chosen (slice_range c.words (s.place + 1) s'.place),
          is,
          record {
            middle = s';
            now = garbage_chosen (slice_range c.words (s.place + 1) s'.place);
            later = [];
            first = record {
              new = d.new;
              makes = record { spanned = record { order = omega arith; within = d.makes.spanned.within; accepted = d.makes.spanned.accepted }; choices = refl; trees = d.makes.trees };
              trees = d.trees;
            };
            rest = record { choices = refl; same = refl };
            choices = sym (append-nil (garbage_chosen (slice_range c.words (s.place + 1) s'.place)));
          },
        )))
        (λ ge. absurd (let same : s.place ≡ s'.place = omega (arith, d.makes.spanned.order, ge) in
        let no : 1 ∷ ds ≡ 0 ∷ later = q ∙ ap (λ zs. zs ++ later) (d.makes.choices ∙ no_more_word c.words s.place s'.place same) in cc (no)))
        (cases_lt s.place s'.place);
    back = λ cs s' r.
        (let same : cs ≡ r.now = r.choices ∙ ap (λ zs. r.now ++ zs) r.rest.choices ∙ append-nil r.now in
        let lt : s.place < r.middle.place = omega (arith, r.first.makes.spanned.order) in
        subst (λ (a : At). Does L c.words here s (1 ∷ cs) a) (sym r.rest.same)
        (record {
          new = r.first.new;
          makes = record {
            spanned = record { order = omega arith; within = r.first.makes.spanned.within; accepted = r.first.makes.spanned.accepted };
            choices = ap (λ zs. 1 ∷ zs) (same ∙ r.first.makes.choices) ∙ sym (one_more_word c.words s.place r.middle.place lt r.first.makes.spanned.within);
            trees = r.first.makes.trees;
          };
          trees = r.first.trees;
        }));
    fair = ((omega (arith, after), omega (arith, further.1, further.2)), λ j lead. (tt, can_nothing L c j));
  }
