-- A walk stays right with each step: here the steps of the code (`specs/code/Steps`) meet the expansions of jobs.
use Rattle.std.proofs.Common.{ℕ, ◌+◌, ◌-◌, ◌<◌, ◌≤◌, ◌≡◌, Bool, true, List, [], ◌∷◌, ◌++◌, Option, Some, None, length, refl, sym, ap, ◌∙◌, subst, ⊎_elim, arith, append_assoc, append-nil}
use Rattle.std.specs.Prelude.{◌↔◌, IsTrue, slice_range}
use Rattle.std.proofs.lemmas.List.{take_all}
use Rattle.std.proofs.lemmas.Bool.Decides.{nat_tests}
use Rattle.vg_base.specs.declared.numbers.NodeIx.{NodeIx}
use Rattle.vg_base.specs.declared.numbers.RuleIx.{RuleIx}
use Rattle.grammar_tree.specs.declared.expansion.TagNode.{TagNode}
use Rattle.grammar_tree.specs.declared.linked.Node.TheVariants as node
use Rattle.grammar_tree.specs.declared.linked.LinkedRule.{LinkedRule}
use Rattle.grammar_tree.specs.declared.parse_tree.ParseTree.TheVariants as tree
use Rattle.grammar_tree.specs.Links.{Rules, node_at, rule_at}
use Rattle.grammar_tree.specs.Derives.{Words, IsAtMost, Derives}
use Rattle.grammar_tree.specs.Choices.{choices, choice_if, is_open}
use Rattle.grammar_tree.specs.Reached.{at_start}
use Rattle.grammar_tree.proofs.Fronts.{reached_is_in_range}
use Rattle.earley_chart.specs.declared.places.Places.{Places}
use Rattle.earley_chart.specs.Places.{Has}
use Rattle.earley_chart.specs.Chart.{Table, RanOn}
use Rattle.parse_choice.specs.declared.accepted.Repeat.{Repeat}
use Rattle.parse_choice.specs.declared.accepted.Turns.{Turns}
use Rattle.parse_choice.specs.declared.guide.Trail.{Trail}
use Rattle.parse_choice.specs.declared.plan.Close.{Close}
use Rattle.parse_choice.specs.declared.plan.Close.TheVariants as close
use Rattle.parse_choice.specs.declared.plan.Job.{Job}
use Rattle.parse_choice.specs.declared.plan.Job.TheVariants as job
use Rattle.parse_choice.specs.declared.walk.Ground.{Ground}
use Rattle.parse_choice.specs.code.Ways.{ends_of}
use Rattle.parse_choice.specs.code.Trails.{one_if, bound_of, TakesFirst, TakesSecond}
use Rattle.parse_choice.specs.code.Plans.{At, at, closed, Does}
use Rattle.parse_choice.specs.code.Walks.{State, IsGround, AreChoices, Walks}
use Rattle.parse_choice.specs.code.Steps.{planned, moved, shut, chose, Sequenced, Taken, Repeated, Goes, chooses_turn, chooses_end, must_go_on, must_end, Turned, opens, one_more}
use Rattle.parse_choice.proofs.Expansions.{Expands, walk_expands, walk_chooses, doable, offered}
use Rattle.parse_choice.proofs.NodeSteps.{closing, leaf, token_leaf, tag_leaf, null_leaf, void_leaf, alternative, reference, begun_repeat, begun_garbage, can_nothing}
use Rattle.parse_choice.proofs.Choosing.{picks_alternative, picks_first, picks_second, nonempty}
use Rattle.parse_choice.proofs.GarbageSteps.{garbage_ways, garbage_ends, garbage_more, Further, stopped}
use Rattle.parse_choice.proofs.TurnSteps.{turns_end, turns_go_on, turn_ways, must_turn, must_stop}
use Rattle.parse_choice.proofs.SequenceSteps.{sequence, sequence_begins}
use Rattle.parse_choice.proofs.Forks.{begun}

-- both another turn and none are within the counts
opened : (least : ℕ) (most : Option ℕ) (made : ℕ) → is_open least most made ≡ true → (least ≤ made) × IsAtMost most (made + 1)
opened least None made e = (grind (arith, nat_tests), tt)
opened least (Some most) made e = (grind (arith, nat_tests), grind (arith, nat_tests))

module _ (g : Ground) (ground : IsGround g) where
  abbrev L : Rules
  L = g.linked.now

  abbrev c : Table
  c = g.chart.now

  abbrev On : State → Type 0
  On st = Walks L c g.body g.guide.now st

  -- a job is to be done first
  abbrev pub Before : Job → State → Type 0
  Before x st = On (record { plan = x ∷ st.plan; here = st.here; trail = st.trail })

  ran : RanOn L c
  ran = ground.ran

  -- the place of a node that is begun
  pub node_place : (m : NodeIx) (ends : Places) (st : State) → Before (job.Node m ends) st → (m.0 < length L.nodes) × (st.here.place ≤ length c.words)
  node_place m ends st w = reached_is_in_range L c.words c.rule m st.here.place ground.linked w.fair.0

  pub close_step : (x : Close) (st : State) → Before (job.Close x) st → On (shut x st)
  close_step x st w = walk_expands L c g.body g.guide.now (job.Close x) st.plan [] st.here (at st.here.place (closed x st.here.trees)) st.trail w (closing L c x st.here)

  module _ (m : NodeIx) (ends : Places) (st : State) (w : Before (job.Node m ends) st) where
    abbrev here : Job
    here = job.Node m ends

    abbrev done : (cs : List ℕ) × (s' : At) × Does L c.words here st.here cs s'
    done = doable L c g.body g.guide.now here st.plan st.here st.trail w

    pub token_step : (own : Words) → node_at L m ≡ Some (node.Token own) → On (moved (length own) (tree.Token own) st)
    token_step own e = walk_expands L c g.body g.guide.now here st.plan [] st.here (at (st.here.place + length own) (st.here.trees ++ tree.Token own ∷ [])) st.trail w
        (leaf L c m ends st.here (length own) (tree.Token own) (token_leaf L c m ends st.here own e) done)

    -- a token's words are in the line
    pub token_within : (own : Words) → node_at L m ≡ Some (node.Token own) → st.here.place + length own ≤ 64
    token_within own e =
        let d = done.2 in
        let is = token_leaf L c m ends st.here own e done.1.place d.makes.tree d.makes.spanned.order d.makes.spanned.within d.makes.derives in
        omega (arith, is.place, d.makes.spanned.within, ran.few)

    pub tag_step : (tag : TagNode) → node_at L m ≡ Some (node.Tag tag) → On (moved 0 (tree.Tag m) st)
    tag_step tag e = walk_expands L c g.body g.guide.now here st.plan [] st.here (at (st.here.place + 0) (st.here.trees ++ tree.Tag m ∷ [])) st.trail w
        (leaf L c m ends st.here 0 (tree.Tag m) (tag_leaf L c m ends st.here tag e) done)

    pub null_step : node_at L m ≡ Some node.Null → On (moved 0 tree.Null st)
    null_step e = walk_expands L c g.body g.guide.now here st.plan [] st.here (at (st.here.place + 0) (st.here.trees ++ tree.Null ∷ [])) st.trail w
        (leaf L c m ends st.here 0 tree.Null (null_leaf L c m ends st.here e) done)

    pub void_step : node_at L m ≡ Some node.Void → On (moved 0 tree.Null st)
    void_step e = walk_expands L c g.body g.guide.now here st.plan [] st.here (at (st.here.place + 0) (st.here.trees ++ tree.Null ∷ [])) st.trail w
        (leaf L c m ends st.here 0 tree.Null (void_leaf L c m ends st.here e) done)

    pub sequence_step : (ps : List NodeIx) (now : State) → node_at L m ≡ Some (node.Seq ps) → Sequenced c ps ends st now → On now
    sequence_step ps now e s =
        let place = (node_place m ends st w).1 in
        let begins = sequence_begins L c ran ends m ps st.here s.jobs s.first e w.fair.0 place s.lined done.0 done.1 done.2 in
        let step = walk_expands L c g.body g.guide.now here st.plan (s.jobs ++ job.Close (close.Seq (length st.here.trees)) ∷ []) st.here st.here st.trail w
        (sequence L c ran ends m ps st.here s.jobs s.first e w.fair.0 place s.lined begins) in
        subst On (sym s.state)
        (subst (λ xs. On (record { plan = xs; here = st.here; trail = st.trail })) (append_assoc s.jobs (job.Close (close.Seq (length st.here.trees)) ∷ []) st.plan) step)

    pub alternative_step : (ps : List NodeIx) (now : State) → node_at L m ≡ Some (node.Alt ps) → Taken g ps ends st now → On now
    alternative_step ps now e t =
        subst On (sym t.state)
        (walk_chooses L c g.body g.guide.now here st.plan st.here st.trail w (job.Node t.part ends ∷ (job.Close (close.Alt t.taken) ∷ [])) st.here t.taken t.greater
        (alternative L c m ends st.here ps t.taken t.part e t.there w.fair.0)
        (picks_alternative L c g.body g.guide.now ran m ends st.here ps e w.fair.0 (bound_of g.guide.now st.trail) t.taken t.greater t.least t.next))

    pub reference_step : (q : RuleIx) (rule : LinkedRule) (now : State) → node_at L m ≡ Some (node.Ref q) → rule_at L q ≡ Some rule →
        now ≡ planned (job.Node rule.body ends ∷ (job.Close (close.Rule q) ∷ [])) st → On now
    reference_step q rule now e r is =
        subst On (sym is)
        (walk_expands L c g.body g.guide.now here st.plan (job.Node rule.body ends ∷ (job.Close (close.Rule q) ∷ [])) st.here st.here st.trail w (reference L c m ends st.here q rule e r w.fair.0))

    pub repeat_step : (r : Repeat) (now : State) → node_at L m ≡ Some (node.Rep r.least r.most r.inner) → Repeated g r ends st now → On now
    repeat_step r now e s =
        subst On (sym s.state)
        (walk_expands L c g.body g.guide.now here st.plan (job.Turns (record { repeat = r; made = 0; ways = s.ways }) ∷ (job.Close (close.Rep (length st.here.trees)) ∷ [])) st.here st.here st.trail w
        (begun_repeat L c m ends st.here r s.ways e s.are w.fair.0 (node_place m ends st w).1))

    pub garbage_begins : node_at L m ≡ Some node.Garbage → On (planned (job.Garbage st.here.place ends ∷ []) st)
    garbage_begins e = walk_expands L c g.body g.guide.now here st.plan (job.Garbage st.here.place ends ∷ []) st.here st.here st.trail w
        (begun_garbage L c m ends st.here e (node_place m ends st w).1)

  module _ (from : ℕ) (ends : Places) (st : State) (w : Before (job.Garbage from ends) st) where
    abbrev more : Job
    more = job.Garbage from ends

    pub garbage_place : (from ≤ st.here.place) × (st.here.place ≤ length c.words)
    garbage_place = w.fair.0

    pub garbage_stop : (first second : Bool) (trail : Trail) → TakesFirst g.guide.now first second st.trail trail → (IsTrue first ↔ Has ends st.here.place) → (IsTrue second ↔ Further L c from ends st.here) →
        On (record { plan = st.plan; here = stopped L c from ends st.here; trail = trail })
    garbage_stop first second trail takes one two =
        subst (λ (t : Trail). On (record { plan = st.plan; here = stopped L c from ends st.here; trail = t })) (sym takes.taken)
        (walk_chooses L c g.body g.guide.now more st.plan st.here st.trail w [] (stopped L c from ends st.here) 0 (one_if second)
        (garbage_ends L c from ends st.here garbage_place.1 (one.0 takes.possible))
        (picks_first L c g.body g.guide.now more st.here (Has ends st.here.place) (Further L c from ends st.here) (garbage_ways L c from ends st.here g.body g.guide.now garbage_place.1) st.trail trail first second takes one two))

    pub garbage_go : (first : Bool) (trail : Trail) → TakesSecond g.guide.now first st.trail trail → (IsTrue first ↔ Has ends st.here.place) →
        (st.here.place < length c.words) × On (record { plan = more ∷ st.plan; here = at (st.here.place + 1) st.here.trees; trail = trail })
    garbage_go first trail takes one =
        let ways = garbage_ways L c from ends st.here g.body g.guide.now garbage_place.1 in
        let offer = offered L c g.body g.guide.now more st.plan st.here st.trail w (nonempty L c g.body g.guide.now more st.here (Has ends st.here.place) (Further L c from ends st.here) ways) in
        let picks = picks_second L c g.body g.guide.now more st.here (Has ends st.here.place) (Further L c from ends st.here) ways st.trail trail first takes one.1 offer in
        let d = picks.taken in
        let further : Further L c from ends st.here = ⊎_elim
        (λ (a : (rest : List ℕ) × (1 ∷ d.0 ≡ 0 ∷ rest) × Has ends st.here.place). absurd (let no = a.1 in cc (no)))
        (λ (b : (rest : List ℕ) × (1 ∷ d.0 ≡ 1 ∷ rest) × Further L c from ends st.here). b.2)
        (ways.each (1 ∷ d.0) d.1 d.2) in (
          omega (arith, further.1, further.2),
          subst (λ (t : Trail). On (record { plan = more ∷ st.plan; here = at (st.here.place + 1) st.here.trees; trail = t })) (sym takes.taken)
              (walk_chooses L c g.body g.guide.now more st.plan st.here st.trail w (more ∷ []) (at (st.here.place + 1) st.here.trees) 1 None
              (garbage_more L c from ends st.here garbage_place.0 further) picks),
        )

  module _ (t : Turns) (st : State) (w : Before (job.Turns t) st) where
    abbrev turns : Job
    turns = job.Turns t

    pub turn_place : st.here.place < 65
    turn_place = omega (arith, w.fair.0.front.within, ran.few)

    abbrev ready : (cs : List ℕ) × (s' : At) × Does L c.words turns st.here cs s'
    ready = doable L c g.body g.guide.now turns st.plan st.here st.trail w

    open_facts : opens t ≡ true → (t.repeat.least ≤ t.made) × IsAtMost t.repeat.most (t.made + 1)
    open_facts e = opened t.repeat.least t.repeat.most t.made e

    pub turn_step : (now : State) → Turned g t st now → On now
    turn_step now s = at_goes s.goes
      where
        at_goes : Goes g t s.ends st now → On now
        at_goes (chooses_turn first second trail is one two takes state) =
            let ways = turn_ways L c ran t st.here w.fair.0 s.ends s.onward g.body g.guide.now is (open_facts is).0 in
            let e = subst (λ b. Expands L c (choice_if b 0) turns st.here (one_more t s.ends) st.here) is (turns_go_on L c ran t st.here w.fair.0 s.ends s.onward (open_facts is).1) in
            subst On (sym state)
            (subst (λ (tr : Trail). On (chose tr (one_more t s.ends) st)) (sym takes.taken)
            (walk_chooses L c g.body g.guide.now turns st.plan st.here st.trail w (one_more t s.ends) st.here 0 (one_if second) e
            (picks_first L c g.body g.guide.now turns st.here ((j : ℕ) × Has s.ends j) (Has (ends_of t.ways) st.here.place) ways st.trail trail first second takes one two)))
        at_goes (chooses_end first trail is one takes state) =
            let ways = turn_ways L c ran t st.here w.fair.0 s.ends s.onward g.body g.guide.now is (open_facts is).0 in
            let offer = offered L c g.body g.guide.now turns st.plan st.here st.trail w (nonempty L c g.body g.guide.now turns st.here ((j : ℕ) × Has s.ends j) (Has (ends_of t.ways) st.here.place) ways) in
            let picks = picks_second L c g.body g.guide.now turns st.here ((j : ℕ) × Has s.ends j) (Has (ends_of t.ways) st.here.place) ways st.trail trail first takes one.1 offer in
            let d = picks.taken in
            let has : Has (ends_of t.ways) st.here.place = ⊎_elim
            (λ (a : (rest : List ℕ) × (1 ∷ d.0 ≡ 0 ∷ rest) × ((j : ℕ) × Has s.ends j)). absurd (let no = a.1 in cc (no)))
            (λ (b : (rest : List ℕ) × (1 ∷ d.0 ≡ 1 ∷ rest) × Has (ends_of t.ways) st.here.place). b.2)
            (ways.each (1 ∷ d.0) d.1 d.2) in
            let e = subst (λ b. Expands L c (choice_if b 1) turns st.here [] st.here) is (turns_end L c ran t st.here w.fair.0 (open_facts is).0 has) in
            subst On (sym state)
            (subst (λ (tr : Trail). On (chose tr [] st)) (sym takes.taken)
            (walk_chooses L c g.body g.guide.now turns st.plan st.here st.trail w [] st.here 1 None e picks))
        at_goes (must_go_on is lt state) =
            let more = must_turn L c ran t st.here w.fair.0 s.ends s.onward ready.0 ready.1 ready.2 lt in
            let e = subst (λ b. Expands L c (choice_if b 0) turns st.here (one_more t s.ends) st.here) is (turns_go_on L c ran t st.here w.fair.0 s.ends s.onward more) in
            subst On (sym state) (walk_expands L c g.body g.guide.now turns st.plan (one_more t s.ends) st.here st.here st.trail w e)
        at_goes (must_end is le state) =
            let has = must_stop L c ran t st.here w.fair.0 s.ends s.onward ready.0 ready.1 ready.2 le is in
            let e = subst (λ b. Expands L c (choice_if b 1) turns st.here [] st.here) is (turns_end L c ran t st.here w.fair.0 le has) in
            subst On (sym state) (walk_expands L c g.body g.guide.now turns st.plan [] st.here st.here st.trail w e)

  -- ---- the first step, and the last

  pub whole_line : slice_range c.words 0 (length c.words) ≡ c.words
  whole_line = let all : length c.words ≤ length c.words - 0 = omega arith in take_all (length c.words - 0) c.words all

  pub started : (ends : Places) (trail : Trail) → ((j : ℕ) → Has ends j ↔ (j ≡ length g.words.now)) → trail.log ≡ [] → trail.fork ≡ None →
      (more : List ℕ) × AreChoices L g.body g.words.now (g.guide.now ++ more) → On (record { plan = job.Node g.body ends ∷ []; here = at 0 []; trail = trail })
  started ends trail are none no_fork follow =
      let length_is : length c.words ≡ length g.words.now = ap length ground.words in
      record {
        down = λ cs s' r.
            (let made = r.first.makes in
            let last : r.middle.place ≡ length c.words = (are r.middle.place).0 made.spanned.accepted ∙ sym length_is in
            record {
              tree = made.tree;
              derives = subst (λ us. Derives L g.body us made.tree) (ap (λ k. slice_range c.words 0 k) last ∙ whole_line) made.derives;
              choices = ap (λ zs. zs ++ cs) none ∙ r.choices ∙ ap (λ zs. r.now ++ zs) r.rest.choices ∙ append-nil r.now ∙ made.choices;
              trees = ap (λ (a : At). a.trees) r.rest.same ∙ r.first.trees ∙ made.trees;
            });
        up = λ cs ts h.
            (let is : cs ≡ choices L g.body h.tree = ap (λ zs. zs ++ cs) (sym none) ∙ h.choices in (
              at (length c.words) ts,
              record {
                middle = at (length c.words) ts;
                now = cs;
                later = [];
                first = record {
                  new = ts;
                  makes = record {
                    spanned = record { order = omega arith; within = omega arith; accepted = (are (length c.words)).1 length_is };
                    tree = h.tree;
                    derives = subst (λ us. Derives L g.body us h.tree) (sym whole_line) h.derives;
                    choices = is;
                    trees = h.trees;
                  };
                  trees = refl;
                };
                rest = record { choices = refl; same = refl };
                choices = sym (append-nil cs);
              },
              refl,
            ));
        fair = (at_start ground.body.0 ground.body.1 (sym ground.body.2) refl, λ j lead. (tt, can_nothing L c j));
        trail = begun (AreChoices L g.body c.words) g.guide.now follow.0 trail (subst (λ us. AreChoices L g.body us (g.guide.now ++ follow.0)) (sym ground.words) follow.1) none no_fork;
      }
