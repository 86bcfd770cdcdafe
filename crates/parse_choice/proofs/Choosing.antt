-- Which choice a job begins with: the first or the second of two (`picks_first`, `picks_second`), or an alternative
-- (`picks_alternative`). Here too stands how a chart's spans and derivations go over into each other.
use Rattle.std.proofs.Common.{ℕ, ◌+◌, ◌<◌, ◌≤◌, ◌≡◌, ◌⊎◌, Bool, true, false, List, [], ◌∷◌, ◌++◌, Option, Some, None, refl, sym, ap, ◌∙◌, subst, ⊎_elim, arith, true≢false}
use Rattle.std.specs.Prelude.{◌↔◌, IsTrue, MatchOption, slice_range}
use Rattle.std.proofs.lemmas.Bool.{cases_lt}
use Rattle.vg_base.specs.declared.numbers.NodeIx.{NodeIx}
use Rattle.grammar_tree.specs.declared.linked.Node.TheVariants as node
use Rattle.grammar_tree.specs.declared.parse_tree.ParseTree.TheVariants as tree
use Rattle.grammar_tree.specs.Links.{Rules, node_at}
use Rattle.grammar_tree.specs.Derives.{by_alt}
use Rattle.grammar_tree.specs.Choices.{choices}
use Rattle.grammar_tree.specs.Reached.{DerivesSpan, Reached, at_alternative}
use Rattle.grammar_tree.proofs.Views.{at_node, chosen_alt}
use Rattle.earley_chart.specs.declared.places.Places.{Places}
use Rattle.earley_chart.specs.Chart.{Table, RanOn, Spans}
use Rattle.parse_choice.specs.declared.guide.Trail.{Trail}
use Rattle.parse_choice.specs.declared.plan.Job.{Job}
use Rattle.parse_choice.specs.declared.plan.Job.TheVariants as job
use Rattle.parse_choice.specs.code.Trails.{bound_of, one_if, TakesFirst, TakesSecond}
use Rattle.parse_choice.specs.code.Plans.{At, at, Does}
use Rattle.parse_choice.specs.code.Steps.{IsPossible, NoneFrom, IsNext}
use Rattle.parse_choice.proofs.Expansions.{PicksJob}

module _ (L : Rules) (c : Table) (ran : RanOn L c) where
  pub span_derived : (n : NodeIx) (i j : ℕ) → Spans c n i j → DerivesSpan L c.words n i j
  span_derived n i j h = (ran.spans n i j (h.0, h.1)).0 h

  pub span_reached : (n : NodeIx) (i j : ℕ) → Spans c n i j → Reached L c.words c.rule n i
  span_reached n i j h = (ran.reached n i).0 (h.0, h.1)

  pub derived_span : (n : NodeIx) (i j : ℕ) → Reached L c.words c.rule n i → DerivesSpan L c.words n i j → Spans c n i j
  derived_span n i j r d = (ran.spans n i j ((ran.reached n i).1 r)).1 d

module _ (L : Rules) (c : Table) (n : NodeIx) (guide : List ℕ) where
  -- a job that begins with the first of two choices, or with the second
  pub record TwoWays (x : Job) (s : At) (First Second : Type 0) : Type 0 where
    pub each : (cs : List ℕ) (s' : At) → Does L c.words x s cs s' → ((more : List ℕ) × (cs ≡ 0 ∷ more) × First) ⊎ ((more : List ℕ) × (cs ≡ 1 ∷ more) × Second)
    pub first : First → (more : List ℕ) × (s' : At) × Does L c.words x s (0 ∷ more) s'
    pub second : Second → (more : List ℕ) × (s' : At) × Does L c.words x s (1 ∷ more) s'

  module _ (x : Job) (s : At) (First Second : Type 0) (ways : TwoWays x s First Second) where
    pub picks_first : (old now : Trail) (first second : Bool) → TakesFirst guide first second old now → (IsTrue first ↔ First) → (IsTrue second ↔ Second) → PicksJob L c n guide x s (bound_of guide old) 0 (one_if second)
    picks_first old now first second takes one two = record {
      each = λ cs s' d. ⊎_elim
          (λ (a : (more : List ℕ) × (cs ≡ 0 ∷ more) × First). (0, a.0, a.1, (λ le. omega arith), (λ lt. absurd (omega (arith, lt)))))
          (λ (b : (more : List ℕ) × (cs ≡ 1 ∷ more) × Second). (1, b.0, b.1, (λ le. omega arith), (λ lt. (1, ap one_if (two.1 b.2), omega arith))))
          (ways.each cs s' d);
      taken = ways.first (one.0 takes.possible);
      bounded = omega (arith, takes.allowed);
      next = λ next e. at second next e two;
    }
      where
        at : (b : Bool) (next : ℕ) → one_if b ≡ Some next → (IsTrue b ↔ Second) → (0 < next) × ((more : List ℕ) × (s' : At) × Does L c.words x s (next ∷ more) s')
        at false next e q = absurd (cc)
        at true next e q =
            let is : 1 ≡ next = cc in
            (omega (arith, is), subst (λ k. (more : List ℕ) × (s' : At) × Does L c.words x s (k ∷ more) s') is (ways.second (q.0 refl)))

    -- the first is barred, so the second can be taken
    abbrev pub Offer : ℕ → Type 0
    Offer bound = (y : ℕ) × (more : List ℕ) × (s' : At) × Does L c.words x s (y ∷ more) s' × (bound ≤ y)

    pub nonempty : (cs : List ℕ) (s' : At) → Does L c.words x s cs s' → (y : ℕ) × (more : List ℕ) × (cs ≡ y ∷ more)
    nonempty cs s' d = ⊎_elim
        (λ (a : (more : List ℕ) × (cs ≡ 0 ∷ more) × First). (0, a.0, a.1))
        (λ (b : (more : List ℕ) × (cs ≡ 1 ∷ more) × Second). (1, b.0, b.1))
        (ways.each cs s' d)

    pub picks_second : (old now : Trail) (first : Bool) → TakesSecond guide first old now → (First → IsTrue first) → Offer (bound_of guide old) → PicksJob L c n guide x s (bound_of guide old) 1 None
    picks_second old now first takes one offer = record {
      each = λ cs s' d. ⊎_elim
          (λ (a : (more : List ℕ) × (cs ≡ 0 ∷ more) × First). (0, a.0, a.1, (λ le. absurd (takes.barred (omega arith) (one a.2))), (λ lt. absurd (omega (arith, lt)))))
          (λ (b : (more : List ℕ) × (cs ≡ 1 ∷ more) × Second). (1, b.0, b.1, (λ le. omega arith), (λ lt. absurd (omega (arith, lt)))))
          (ways.each cs s' d);
      taken = there.1;
      bounded = there.0;
      next = λ next e. absurd (let no : None ≡ Some next = e in cc);
    }
      where
        there : (bound_of guide old ≤ 1) × ((more : List ℕ) × (s' : At) × Does L c.words x s (1 ∷ more) s')
        there = ⊎_elim
            (λ (a : (more : List ℕ) × (offer.0 ∷ offer.1 ≡ 0 ∷ more) × First).
            (let zero : offer.0 ≡ 0 = cc (a.1) in absurd (takes.barred (omega (arith, zero, offer.4)) (one a.2))))
            (λ (b : (more : List ℕ) × (offer.0 ∷ offer.1 ≡ 1 ∷ more) × Second).
            (let one_is : offer.0 ≡ 1 = cc (b.1) in (omega (arith, one_is, offer.4), ways.second b.2)))
            (ways.each (offer.0 ∷ offer.1) offer.2 offer.3)

  module _ (ran : RanOn L c) (m : NodeIx) (ends : Places) (s : At) (ps : List NodeIx) (e : node_at L m ≡ Some (node.Alt ps)) (reached : Reached L c.words c.rule m s.place) where
    alternative_does : (k : ℕ) → IsPossible c ps ends s.place k → (more : List ℕ) × (s' : At) × Does L c.words (job.Node m ends) s (k ∷ more) s'
    alternative_does k h =
        let d = span_derived L c ran h.0 s.place h.2.0 h.2.1.0 in
        let u = d.derives.0 in (
          choices L h.0 u,
          at h.2.0 (s.trees ++ tree.Alt k u ∷ []),
          record {
            new = tree.Alt k u ∷ [];
            makes = record {
              spanned = record { order = d.order; within = d.within; accepted = h.2.2 };
              tree = tree.Alt k u;
              derives = by_alt ps k h.0 u e h.1 refl d.derives.1;
              choices = sym (chosen_alt L m (tree.Alt k u) ps k h.0 u e h.1 refl);
              trees = refl;
            };
            trees = refl;
          },
        )

    -- the alternative with which the job begins
    record Begins (cs : List ℕ) : Type 0 where
      pub taken : ℕ
      pub more : List ℕ
      pub is : cs ≡ taken ∷ more
      pub possible : IsPossible c ps ends s.place taken

    begins : (cs : List ℕ) (s' : At) → Does L c.words (job.Node m ends) s cs s' → Begins cs
    begins cs s' d =
        let v = at_node L m (slice_range c.words s.place s'.place) d.makes.tree (node.Alt ps) e d.makes.derives in
        let span : DerivesSpan L c.words v.1 s.place s'.place = record { order = d.makes.spanned.order; within = d.makes.spanned.within; derives = (v.2, v.5) } in
        record {
          taken = v.0;
          more = choices L v.1 v.2;
          is = d.makes.choices ∙ chosen_alt L m d.makes.tree ps v.0 v.1 v.2 e v.3 v.4;
          possible = (v.1, v.3, (s'.place, (derived_span L c ran v.1 s.place s'.place (at_alternative m ps v.0 reached e v.3) span, λ no. absurd (true≢false (sym no))), d.makes.spanned.accepted));
        }

    pub picks_alternative : (bound taken : ℕ) (greater : Option ℕ) → IsNext c ps ends s.place bound taken →
        MatchOption greater (NoneFrom c ps ends s.place (taken + 1)) (IsNext c ps ends s.place (taken + 1)) → PicksJob L c n guide (job.Node m ends) s bound taken greater
    picks_alternative bound taken greater least next = record {
      each = λ cs s' d. (let b = begins cs s' d in (
        b.taken,
        b.more,
        b.is,
        (λ le. ⊎_elim (λ lt. absurd (least.first b.taken le lt b.possible)) (λ ge. ge) (cases_lt b.taken taken)),
        (λ lt. after greater next b.taken lt b.possible),
      ));
      taken = alternative_does taken least.possible;
      bounded = least.bounded;
      next = λ k q. there greater next k q;
    }
      where
        after : (greater : Option ℕ) → MatchOption greater (NoneFrom c ps ends s.place (taken + 1)) (IsNext c ps ends s.place (taken + 1)) → (k : ℕ) → taken < k → IsPossible c ps ends s.place k →
            (next : ℕ) × (greater ≡ Some next) × (next ≤ k)
        after None none k lt h = absurd (none k (omega arith) h)
        after (Some g) is k lt h = (g, refl, ⊎_elim (λ below. absurd (is.first k (omega arith) below h)) (λ ge. ge) (cases_lt k g))

        there : (greater : Option ℕ) → MatchOption greater (NoneFrom c ps ends s.place (taken + 1)) (IsNext c ps ends s.place (taken + 1)) → (k : ℕ) → greater ≡ Some k →
            (taken < k) × ((more : List ℕ) × (s' : At) × Does L c.words (job.Node m ends) s (k ∷ more) s')
        there None none k q = absurd (cc)
        there (Some g) is k q =
            let same : g ≡ k = cc in
            (omega (arith, is.bounded, same), alternative_does k (subst (λ x. IsPossible c ps ends s.place x) same is.possible))
