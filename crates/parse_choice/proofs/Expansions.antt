-- A job is replaced by jobs that make the same (`Expands`): then the plan makes the same as before, behind the choice
-- that was taken if there was one (`becomes`), and each job is again asked for only where it may be (`stays_fair`).
-- The walk is right after such a step: `walk_expands` where there is no choice, `walk_chooses` where one is picked.
use Rattle.std.proofs.Common.{ℕ, ◌<◌, ◌≤◌, ◌≡◌, List, [], ◌∷◌, ◌++◌, Option, Some, refl, sym, ap, ◌∙◌, subst, ⊎_elim, arith, append_assoc}
use Rattle.std.proofs.lemmas.List.{append_cancel_left}
use Rattle.vg_base.specs.declared.numbers.NodeIx.{NodeIx}
use Rattle.grammar_tree.specs.declared.parse_tree.ParseTree.{ParseTree}
use Rattle.grammar_tree.specs.Links.{Rules}
use Rattle.grammar_tree.specs.Derives.{Words}
use Rattle.earley_chart.specs.Chart.{Table}
use Rattle.parse_choice.specs.declared.guide.Trail.{Trail}
use Rattle.parse_choice.specs.declared.plan.Job.{Job}
use Rattle.parse_choice.specs.declared.plan.Job.TheVariants as job
use Rattle.parse_choice.specs.code.Trails.{bound_of, took}
use Rattle.parse_choice.specs.code.Plans.{At, at, closed, Does, Then, Runs, Leads, Can, IsFair}
use Rattle.parse_choice.specs.code.Walks.{State, IsWhole, AreChoices, Walks}
use Rattle.parse_choice.proofs.Forks.{chosen, bound_tells}

module _ (L : Rules) (ws : Words) where
  -- a job does the same whatever trees stand there
  pub does_anywhere : (x : Job) (s s' : At) (cs : List ℕ) → Does L ws x s cs s' → (us : List ParseTree) → (vs : List ParseTree) × Does L ws x (at s.place us) cs (at s'.place vs)
  does_anywhere (job.Node n ends) s s' cs d us = (us ++ d.new, record { new = d.new; makes = d.makes; trees = refl })
  does_anywhere (job.Turns t) s s' cs d us = (us ++ d.new, record { new = d.new; makes = d.makes; trees = refl })
  does_anywhere (job.Garbage from ends) s s' cs d us = (us ++ d.new, record { new = d.new; makes = d.makes; trees = refl })
  does_anywhere (job.Close c) s s' cs d us = (closed c us, record { choices = d.choices; place = d.place; trees = refl })

  pub runs_anywhere : (xs : List Job) (s s' : At) (cs : List ℕ) → Runs L ws xs s cs s' → (us : List ParseTree) → (vs : List ParseTree) × Runs L ws xs (at s.place us) cs (at s'.place vs)
  runs_anywhere [] s s' cs r us = (us, record { choices = r.choices; same = ap (λ (x : At). at x.place us) r.same })
  runs_anywhere (x ∷ xs) s s' cs r us =
      let d = does_anywhere x s r.middle r.now r.first us in
      let more = runs_anywhere xs r.middle s' r.later r.rest d.0 in
      (more.0, record { middle = at r.middle.place d.0; now = r.now; later = r.later; first = d.1; rest = more.1; choices = r.choices })

  pub runs_join : (ys xs : List Job) (s m s' : At) (cs ds : List ℕ) → Runs L ws ys s cs m → Runs L ws xs m ds s' → Runs L ws (ys ++ xs) s (cs ++ ds) s'
  runs_join [] xs s m s' cs ds r q =
      subst (λ (x : At). Runs L ws xs x (cs ++ ds) s') r.same (subst (λ zs. Runs L ws xs m zs s') (ap (λ zs. zs ++ ds) (sym r.choices)) q)
  runs_join (y ∷ ys) xs s m s' cs ds r q = record {
    middle = r.middle;
    now = r.now;
    later = r.later ++ ds;
    first = r.first;
    rest = runs_join ys xs r.middle m s' r.later ds r.rest q;
    choices = ap (λ zs. zs ++ ds) r.choices ∙ append_assoc r.now r.later ds;
  }

  pub runs_split : (ys xs : List Job) (s s' : At) (cs : List ℕ) → Runs L ws (ys ++ xs) s cs s' → Then (Runs L ws ys) (Runs L ws xs) s cs s'
  runs_split [] xs s s' cs r = record { middle = s; now = []; later = cs; first = record { choices = refl; same = refl }; rest = r; choices = refl }
  runs_split (y ∷ ys) xs s s' cs r =
      let more = runs_split ys xs r.middle s' r.later r.rest in
      record {
        middle = more.middle;
        now = r.now ++ more.now;
        later = more.later;
        first = record { middle = r.middle; now = r.now; later = more.now; first = r.first; rest = more.first; choices = refl };
        rest = more.rest;
        choices = r.choices ∙ ap (λ zs. r.now ++ zs) more.choices ∙ sym (append_assoc r.now more.now more.later);
      }

  -- the jobs lead from place i to place j
  pub record RunLeads (xs : List Job) (i j : ℕ) : Type 0 where
    pub before : List ParseTree
    pub behind : List ParseTree
    pub choices : List ℕ
    pub runs : Runs L ws xs (at i before) choices (at j behind)

  can_join : (ys xs : List Job) (i : ℕ) → Can L ws ys i → ((j : ℕ) → RunLeads ys i j → Can L ws xs j) → Can L ws (ys ++ xs) i
  can_join ys xs i can more =
      let next = more can.last.place (record { before = []; behind = can.last.trees; choices = can.choices; runs = can.runs }) in
      let r = runs_anywhere xs (at can.last.place []) next.last next.choices next.runs can.last.trees in
      record { choices = can.choices ++ next.choices; last = at next.last.place r.0; runs = runs_join ys xs (at i []) can.last (at next.last.place r.0) can.choices next.choices can.runs r.1 }

module _ (L : Rules) (c : Table) where
  lead_then : (y : Job) (ys : List Job) (i j k : ℕ) → Leads L c.words y i j → RunLeads L c.words ys j k → RunLeads L c.words (y ∷ ys) i k
  lead_then y ys i j k lead r =
      let more = runs_anywhere L c.words ys (at j r.before) (at k r.behind) r.choices r.runs lead.behind in
      record {
        before = lead.before;
        behind = more.0;
        choices = lead.choices ++ r.choices;
        runs = record { middle = at j lead.behind; now = lead.choices; later = r.choices; first = lead.does; rest = more.1; choices = refl };
      }

  -- fair jobs before others that are so wherever the first ones lead
  pub fair_join : (ys xs : List Job) (i : ℕ) → IsFair L c ys i → ((j : ℕ) → RunLeads L c.words ys i j → IsFair L c xs j × Can L c.words xs j) → IsFair L c (ys ++ xs) i
  fair_join [] xs i fair more = (more i (record { before = []; behind = []; choices = []; runs = record { choices = refl; same = refl } })).0
  fair_join (y ∷ ys) xs i fair more = (
    fair.0,
    λ j lead. (
      fair_join ys xs j (fair.1 j lead).0 (λ k r. more k (lead_then y ys i j k lead r)),
      can_join L c.words ys xs j (fair.1 j lead).1 (λ k r. (more k (lead_then y ys i j k lead r)).1),
    ),
  )

  -- what a job does from here goes on to the end of the plan
  pub goes_to_end : (x : Job) (xs : List Job) (s m : At) (cs : List ℕ) → IsFair L c (x ∷ xs) s.place → Does L c.words x s cs m →
      (ds : List ℕ) × (s' : At) × Runs L c.words (x ∷ xs) s (cs ++ ds) s'
  goes_to_end x xs s m cs fair d =
      let can = (fair.1 m.place (record { before = s.trees; behind = m.trees; choices = cs; does = d })).1 in
      let r = runs_anywhere L c.words xs (at m.place []) can.last can.choices can.runs m.trees in
      (can.choices, at can.last.place r.0, record { middle = m; now = cs; later = can.choices; first = d; rest = r.1; choices = refl })

  -- from here, behind these choices, the job makes what the jobs make from there
  pub record Expands (pre : List ℕ) (x : Job) (s : At) (ys : List Job) (m : At) : Type 0 where
    pub onto : (cs ds later : List ℕ) (s' : At) → Does L c.words x s cs s' → pre ++ ds ≡ cs ++ later → (rest : List ℕ) × (cs ≡ pre ++ rest) × Runs L c.words ys m rest s'
    pub back : (cs : List ℕ) (s' : At) → Runs L c.words ys m cs s' → Does L c.words x s (pre ++ cs) s'
    pub fair : IsFair L c ys m.place

  module _ (pre : List ℕ) (x : Job) (s : At) (ys : List Job) (m : At) (e : Expands pre x s ys m) (xs : List Job) where
    onward : (ds : List ℕ) (s' : At) → Runs L c.words (x ∷ xs) s (pre ++ ds) s' → Runs L c.words (ys ++ xs) m ds s'
    onward ds s' r =
        let o = e.onto r.now ds r.later r.middle r.first r.choices in
        let same : ds ≡ o.0 ++ r.later = append_cancel_left pre ds (o.0 ++ r.later) (r.choices ∙ ap (λ zs. zs ++ r.later) o.1 ∙ append_assoc pre o.0 r.later) in
        subst (λ zs. Runs L c.words (ys ++ xs) m zs s') (sym same) (runs_join L c.words ys xs m r.middle s' o.0 r.later o.2 r.rest)

    backward : (ds : List ℕ) (s' : At) → Runs L c.words (ys ++ xs) m ds s' → Runs L c.words (x ∷ xs) s (pre ++ ds) s'
    backward ds s' r =
        let t = runs_split L c.words ys xs m s' ds r in
        record {
          middle = t.middle;
          now = pre ++ t.now;
          later = t.later;
          first = e.back t.now t.middle t.first;
          rest = t.rest;
          choices = ap (λ zs. pre ++ zs) t.choices ∙ sym (append_assoc pre t.now t.later);
        }

    stays_fair : IsFair L c (x ∷ xs) s.place → IsFair L c (ys ++ xs) m.place
    stays_fair fair = fair_join ys xs m.place e.fair
        (λ j r. (let here = runs_anywhere L c.words ys (at m.place r.before) (at j r.behind) r.choices r.runs m.trees in
        fair.1 j (record { before = s.trees; behind = here.0; choices = pre ++ r.choices; does = e.back r.choices (at j here.0) here.1 })))

  module _ (n : NodeIx) (guide : List ℕ) where
    abbrev pub On : State → Type 0
    On st = Walks L c n guide st

    -- a step without a choice
    pub walk_expands : (x : Job) (xs ys : List Job) (s m : At) (trail : Trail) → On (record { plan = x ∷ xs; here = s; trail = trail }) → Expands [] x s ys m →
        On (record { plan = ys ++ xs; here = m; trail = trail })
    walk_expands x xs ys s m trail w e = record {
      down = λ cs s' r. w.down cs s' (backward [] x s ys m e xs cs s' r);
      up = λ cs ts h. (let r = w.up cs ts h in (r.0, onward [] x s ys m e xs cs r.0 r.1, r.2));
      fair = stays_fair [] x s ys m e xs w.fair;
      trail = w.trail;
    }

    -- which choice a job begins with: the least from a bound on, and the next greater one
    pub record PicksJob (x : Job) (s : At) (bound choice : ℕ) (greater : Option ℕ) : Type 0 where
      pub each : (cs : List ℕ) (s' : At) → Does L c.words x s cs s' →
          (y : ℕ) × (more : List ℕ) × (cs ≡ y ∷ more) × (bound ≤ y → choice ≤ y) × (choice < y → (next : ℕ) × (greater ≡ Some next) × (next ≤ y))
      pub taken : (more : List ℕ) × (s' : At) × Does L c.words x s (choice ∷ more) s'
      pub bounded : bound ≤ choice
      pub next : (next : ℕ) → greater ≡ Some next → (choice < next) × ((more : List ℕ) × (s' : At) × Does L c.words x s (next ∷ more) s')

    module _ (x : Job) (xs : List Job) (s : At) (trail : Trail) (w : On (record { plan = x ∷ xs; here = s; trail = trail })) where
      goes_down : (ds : List ℕ) (s' : At) → Runs L c.words (x ∷ xs) s ds s' → AreChoices L n c.words (trail.log ++ ds)
      goes_down ds s' r = let h = w.down ds s' r in (h.tree, h.derives, h.choices)

      goes_up : (ds : List ℕ) → AreChoices L n c.words (trail.log ++ ds) → (s' : At) × Runs L c.words (x ∷ xs) s ds s'
      goes_up ds h = let r = w.up ds (h.0 ∷ []) (record { tree = h.0; derives = h.1; choices = h.2; trees = refl }) in (r.0, r.1)

      -- the job can be done
      pub doable : (cs : List ℕ) × (s' : At) × Does L c.words x s cs s'
      doable =
          let p = w.trail.possible in
          let r = goes_up p.3.0 (subst (λ ys. AreChoices L n c.words ys) p.3.1 p.1) in
          (r.1.now, r.1.middle, r.1.first)

      -- the job can be done by a choice that the guide allows
      pub offered : ((cs : List ℕ) (s' : At) → Does L c.words x s cs s' → (y : ℕ) × (more : List ℕ) × (cs ≡ y ∷ more)) →
          (y : ℕ) × (more : List ℕ) × (s' : At) × Does L c.words x s (y ∷ more) s' × (bound_of guide trail ≤ y)
      offered some =
          let p = w.trail.possible in
          let r = (goes_up p.3.0 (subst (λ ys. AreChoices L n c.words ys) p.3.1 p.1)).1 in
          let f = some r.now r.middle r.first in
          let is : p.3.0 ≡ f.0 ∷ (f.1 ++ r.later) = r.choices ∙ ap (λ zs. zs ++ r.later) f.2 in
          let b = bound_tells guide trail.log f.0 (f.1 ++ r.later) p.2.0 (sym (p.3.1 ∙ ap (λ zs. trail.log ++ zs) is) ∙ p.2.1) in
          (f.0, f.1, r.middle, subst (λ zs. Does L c.words x s zs r.middle) f.2 r.first, ⊎_elim (λ e. omega (arith, e)) (λ e. omega (arith, e.1)) b)

      -- a choice is picked
      pub walk_chooses : (ys : List Job) (m : At) (choice : ℕ) (greater : Option ℕ) → Expands (choice ∷ []) x s ys m → PicksJob x s (bound_of guide trail) choice greater →
          On (record { plan = ys ++ xs; here = m; trail = took trail choice greater })
      walk_chooses ys m choice greater e picks = record {
        down = λ cs s' r. subst (λ zs. IsWhole L c.words n zs s'.trees) (sym (append_assoc trail.log (choice ∷ []) cs)) (w.down (choice ∷ cs) s' (backward (choice ∷ []) x s ys m e xs cs s' r));
        up = λ cs ts h. (let r = w.up (choice ∷ cs) ts (subst (λ zs. IsWhole L c.words n zs ts) (append_assoc trail.log (choice ∷ []) cs) h) in
            (r.0, onward (choice ∷ []) x s ys m e xs cs r.0 r.1, r.2));
        fair = stays_fair (choice ∷ []) x s ys m e xs w.fair;
        trail = chosen (AreChoices L n c.words) guide trail choice greater w.trail (record {
          each = λ zs h. (let r = (goes_up zs h).1 in
              let f = picks.each r.now r.middle r.first in
              (f.0, f.1 ++ r.later, r.choices ∙ ap (λ vs. vs ++ r.later) f.2, f.3, f.4));
          taken = (let g = goes_to_end x xs s picks.taken.1 (choice ∷ picks.taken.0) w.fair picks.taken.2 in (picks.taken.0 ++ g.0, goes_down _ g.1 g.2));
          bounded = picks.bounded;
          next = λ next q. (let p = picks.next next q in
              let g = goes_to_end x xs s p.1.1 (next ∷ p.1.0) w.fair p.1.2 in
              (p.0, (p.1.0 ++ g.0, goes_down _ g.1 g.2)));
        });
      }
