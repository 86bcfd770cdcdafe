-- The step at a sequence: a job for each part, up to the places from which the parts behind it can be completed
-- (`sequence`). What derives the parts runs those jobs (`parts_onto`), and the other way round (`parts_back`).
use Rattle.std.proofs.Common.{ℕ, suc, ◌+◌, ◌≤◌, ◌≡◌, List, [], ◌∷◌, ◌++◌, Some, length, map, refl, sym, ap, ◌∙◌, subst, arith, append_assoc, append-nil, true≢false}
use Rattle.std.specs.Prelude.{slice_get, slice_range}
use Rattle.vg_base.specs.declared.numbers.NodeIx.{NodeIx}
use Rattle.grammar_tree.specs.declared.linked.Node.TheVariants as node
use Rattle.grammar_tree.specs.declared.parse_tree.ParseTree.{ParseTree}
use Rattle.grammar_tree.specs.declared.parse_tree.ParseTree.TheVariants as tree
use Rattle.grammar_tree.specs.Links.{Rules, node_at}
use Rattle.grammar_tree.specs.Derives.{Words, Derives, by_seq, DerivesEach, no_part, part}
use Rattle.grammar_tree.specs.Choices.{choices, chosen_by, parts_chosen}
use Rattle.grammar_tree.specs.Reached.{DerivesSpan, Front, Reached, at_front}
use Rattle.grammar_tree.proofs.Fronts.{one_more_part, no_step_no_word}
use Rattle.grammar_tree.proofs.Spans.{span_length, span_join, span_empty, span_cut}
use Rattle.grammar_tree.proofs.Views.{at_node, chosen_seq}
use Rattle.earley_chart.specs.declared.places.Places.{Places}
use Rattle.earley_chart.specs.Places.{Has}
use Rattle.earley_chart.specs.Chart.{Table, RanOn}
use Rattle.parse_choice.specs.declared.plan.Close.TheVariants as close
use Rattle.parse_choice.specs.declared.plan.Job.{Job}
use Rattle.parse_choice.specs.declared.plan.Job.TheVariants as job
use Rattle.parse_choice.specs.code.Plans.{At, at, wrap_from, Does, Runs, Can, IsFair}
use Rattle.parse_choice.specs.code.Steps.{AreLined}
use Rattle.parse_choice.proofs.Expansions.{Expands, runs_anywhere, runs_join, runs_split, fair_join}
use Rattle.parse_choice.proofs.NodeSteps.{same_at, can_nothing, can_close, wrapped_from}
use Rattle.parse_choice.proofs.Choosing.{span_derived, span_reached, derived_span}

module _ (L : Rules) (c : Table) (ran : RanOn L c) (ends : Places) where
  -- from a place of the first set the parts can be completed, one after another
  parts_can : (ps : List NodeIx) (xs : List Job) (first : Places) (i : ℕ) → AreLined c ps ends xs first → Has first i → Can L c.words xs i
  parts_can [] xs first i lined has = subst (λ ys. Can L c.words ys i) (sym lined.0) (can_nothing L c i)
  parts_can (p ∷ ps) xs first i lined has =
      let e = lined.4.from i has in
      let d = span_derived L c ran p i e.0 e.1.0 in
      let rest = parts_can ps lined.1 lined.0 e.0 lined.3 e.2 in
      let more = runs_from (lined.1) e.0 (d.derives.0 ∷ []) rest in
      subst (λ ys. Can L c.words ys i) (sym lined.2) (record {
        choices = choices L p d.derives.0 ++ rest.choices;
        last = more.0;
        runs = record {
          middle = at e.0 (d.derives.0 ∷ []);
          now = choices L p d.derives.0;
          later = rest.choices;
          first = record {
            new = d.derives.0 ∷ [];
            makes = record { spanned = record { order = d.order; within = d.within; accepted = e.2 }; tree = d.derives.0; derives = d.derives.1; choices = refl; trees = refl };
            trees = refl;
          };
          rest = more.1;
          choices = refl;
        };
      })
    where
      runs_from : (ys : List Job) (j : ℕ) (ts : List ParseTree) → (can : Can L c.words ys j) → (s' : At) × Runs L c.words ys (at j ts) can.choices s'
      runs_from ys j ts can = let r = runs_anywhere L c.words ys (at j []) can.last can.choices can.runs ts in (at can.last.place r.0, r.1)

  parts_fair : (ps : List NodeIx) (xs : List Job) (first : Places) (i : ℕ) → AreLined c ps ends xs first → Has first i → IsFair L c xs i
  parts_fair [] xs first i lined has = subst (λ ys. IsFair L c ys i) (sym lined.0) tt
  parts_fair (p ∷ ps) xs first i lined has =
      let e = lined.4.from i has in
      subst (λ ys. IsFair L c ys i) (sym lined.2) (
        span_reached L c ran p i e.0 e.1.0,
        λ j lead. (parts_fair ps lined.1 lined.0 j lined.3 lead.does.makes.spanned.accepted, parts_can ps lined.1 lined.0 j lined.3 lead.does.makes.spanned.accepted),
      )

  -- the jobs of the parts make trees of them, one after another
  record Parts (ps : List NodeIx) (s : At) (cs : List ℕ) (s' : At) : Type 0 where
    pub trees : List ParseTree
    pub derive : DerivesEach L ps (slice_range c.words s.place s'.place) trees
    pub new : s'.trees ≡ s.trees ++ trees
    pub choices : cs ≡ parts_chosen ps (map (chosen_by L) trees)
    pub order : s.place ≤ s'.place
    pub within : s'.place ≤ length c.words
    pub accepted : Has ends s'.place

  parts_back : (ps : List NodeIx) (xs : List Job) (first : Places) (s s' : At) (cs : List ℕ) → AreLined c ps ends xs first → Has first s.place → s.place ≤ length c.words →
      Runs L c.words xs s cs s' → Parts ps s cs s'
  parts_back [] xs first s s' cs lined has within run =
      let r = subst (λ ys. Runs L c.words ys s cs s') lined.0 run in
      let place : s'.place ≡ s.place = ap (λ (a : At). a.place) r.same in
      record {
        trees = [];
        derive = no_part (ap (λ k. slice_range c.words s.place k) place ∙ span_empty c.words s.place);
        new = ap (λ (a : At). a.trees) r.same ∙ sym (append-nil s.trees);
        choices = r.choices;
        order = omega (arith, place);
        within = omega (arith, place, within);
        accepted = subst (λ k. Has ends k) (sym place) (subst (λ (set : Places). Has set s.place) lined.1 has);
      }
  parts_back (p ∷ ps) xs first s s' cs lined has within run =
      let r = subst (λ ys. Runs L c.words ys s cs s') lined.2 run in
      let made = r.first.makes in
      let rest = parts_back ps lined.1 lined.0 r.middle s' r.later lined.3 made.spanned.accepted made.spanned.within r.rest in
      record {
        trees = made.tree ∷ rest.trees;
        derive = part (slice_range c.words s.place r.middle.place) (slice_range c.words r.middle.place s'.place)
            (span_join c.words s.place r.middle.place s'.place made.spanned.order rest.order) made.derives rest.derive;
        new = rest.new ∙ ap (λ us. us ++ rest.trees) (r.first.trees ∙ ap (λ us. s.trees ++ us) made.trees) ∙ append_assoc s.trees (made.tree ∷ []) rest.trees;
        choices = r.choices ∙ ap (λ zs. zs ++ r.later) made.choices ∙ ap (λ zs. choices L p made.tree ++ zs) rest.choices;
        order = omega (arith, made.spanned.order, rest.order);
        within = rest.within;
        accepted = rest.accepted;
      }

  module _ (n : NodeIx) (all : List NodeIx) (kind : node_at L n ≡ Some (node.Seq all)) (from : ℕ) (reached : Reached L c.words c.rule n from) where
    -- these parts are the last ones of the sequence, from so many on
    abbrev AreLast : List NodeIx → ℕ → Type 0
    AreLast ps k = (l : ℕ) (q : NodeIx) → slice_get ps l ≡ Some q → slice_get all (k + l) ≡ Some q

    abbrev Onto : List NodeIx → List Job → Places → ℕ → ℕ → List ParseTree → List ParseTree → Type 0
    Onto ps xs first i j us ts = Has first i × Runs L c.words xs (at i us) (parts_chosen ps (map (chosen_by L) ts)) (at j (us ++ ts))

    parts_onto : (ps : List NodeIx) (k i j : ℕ) (ws : Words) (ts us : List ParseTree) (xs : List Job) (first : Places) → DerivesEach L ps ws ts → ws ≡ slice_range c.words i j →
        i ≤ j → j ≤ length c.words → Has ends j → AreLast ps k → Front L c.words (node.Seq all) k from i → AreLined c ps ends xs first → Onto ps xs first i j us ts
    parts_onto _ k i j ws _ us xs first (no_part z) e le within has last front lined =
        let same : i ≡ j = omega (arith, span_length c.words i j le within, ap length (sym e ∙ z)) in (
          subst (λ (set : Places). Has set i) (sym lined.1) (subst (λ k. Has ends k) (sym same) has),
          subst (λ ys. Runs L c.words ys (at i us) [] (at j (us ++ []))) (sym lined.0) (record { choices = refl; same = same_at (at j (us ++ [])) i us (sym same) (append-nil us) }),
        )
    parts_onto _ k i j ws _ us xs first (part {p = p} {ps = ps} {t = t} {ts = ts} front rest z d ds) e le within has last so_far lined =
        let cut = span_cut c.words i j front rest le within (sym e ∙ z) in
        let here : slice_get all k ≡ Some p = (let same : k + 0 ≡ k = omega arith in subst (λ m. slice_get all m ≡ Some p) same (last 0 p refl)) in
        let dt : Derives L p (slice_range c.words i cut.place) t = subst (λ w. Derives L p w t) cut.is_front d in
        let in_line : cut.place ≤ length c.words = omega (arith, cut.before, within) in
        let span : DerivesSpan L c.words p i cut.place = record { order = cut.after; within = in_line; derives = (t, dt) } in
        let next : Front L c.words (node.Seq all) (k + 1) from cut.place = (one_more_part L c.words all k from cut.place).1 (i, p, here, so_far, span) in
        let later : AreLast ps (k + 1) = (λ l q g. (let same : k + suc l ≡ k + 1 + l = omega arith in subst (λ m. slice_get all m ≡ Some q) same (last (suc l) q g))) in
        let more = parts_onto ps (k + 1) cut.place j rest ts (us ++ t ∷ []) lined.1 lined.0 ds cut.is_rest cut.before within has later next lined.3 in
        let reached_here : Reached L c.words c.rule p i = at_front n (node.Seq all) k from reached kind here so_far in (
          lined.4.has i (omega (arith, cut.after, in_line, ran.few)) (cut.place, (derived_span L c ran p i cut.place reached_here span, λ no. absurd (true≢false (sym no))), more.0),
          subst (λ ys. Runs L c.words ys (at i us) (choices L p t ++ parts_chosen ps (map (chosen_by L) ts)) (at j (us ++ t ∷ ts))) (sym lined.2) (record {
            middle = at cut.place (us ++ t ∷ []);
            now = choices L p t;
            later = parts_chosen ps (map (chosen_by L) ts);
            first = record {
              new = t ∷ [];
              makes = record { spanned = record { order = cut.after; within = in_line; accepted = more.0 }; tree = t; derives = dt; choices = refl; trees = refl };
              trees = refl;
            };
            rest = subst (λ vs. Runs L c.words lined.1 (at cut.place (us ++ t ∷ [])) (parts_chosen ps (map (chosen_by L) ts)) (at j vs)) (append_assoc us (t ∷ []) ts) more.1;
            choices = refl;
          }),
        )

  module _ (n : NodeIx) (ps : List NodeIx) (s : At) (xs : List Job) (first : Places) (kind : node_at L n ≡ Some (node.Seq ps)) (reached : Reached L c.words c.rule n s.place) (within : s.place ≤ length c.words)
      (lined : AreLined c ps ends xs first) where
    parts_here : (j : ℕ) (ts : List ParseTree) → DerivesEach L ps (slice_range c.words s.place j) ts → s.place ≤ j → j ≤ length c.words → Has ends j →
        Onto n ps kind s.place reached ps xs first s.place j s.trees ts
    parts_here j ts d le in_line has =
        parts_onto n ps kind s.place reached ps 0 s.place j (slice_range c.words s.place j) ts s.trees xs first d refl le in_line has
        (λ l q g. (let same : l ≡ 0 + l = omega arith in subst (λ m. slice_get ps m ≡ Some q) same g))
        ((no_step_no_word L c.words (node.Seq ps) s.place s.place tt).1 (refl, within)) lined

    -- where the sequence can be made, its first part can be begun
    pub sequence_begins : (cs : List ℕ) (s' : At) → Does L c.words (job.Node n ends) s cs s' → Has first s.place
    sequence_begins cs s' d =
        let v = at_node L n (slice_range c.words s.place s'.place) d.makes.tree (node.Seq ps) kind d.makes.derives in
        (parts_here s'.place v.0 v.2 d.makes.spanned.order d.makes.spanned.within d.makes.spanned.accepted).0

    pub sequence : Has first s.place → Expands L c [] (job.Node n ends) s (xs ++ job.Close (close.Seq (length s.trees)) ∷ []) s
    sequence begins = record {
      onto = λ cs ds later s' d q.
          (let v = at_node L n (slice_range c.words s.place s'.place) d.makes.tree (node.Seq ps) kind d.makes.derives in
          let o = parts_here s'.place v.0 v.2 d.makes.spanned.order d.makes.spanned.within d.makes.spanned.accepted in
          let is : cs ≡ parts_chosen ps (map (chosen_by L) v.0) = d.makes.choices ∙ chosen_seq L n d.makes.tree ps v.0 kind v.1 in (
            cs,
            refl,
            subst (λ zs. Runs L c.words (xs ++ job.Close (close.Seq (length s.trees)) ∷ []) s zs s') (append-nil _ ∙ sym is)
                (runs_join L c.words xs (job.Close (close.Seq (length s.trees)) ∷ []) s (at s'.place (s.trees ++ v.0)) s' (parts_chosen ps (map (chosen_by L) v.0)) [] o.1
                (record {
                  middle = s';
                  now = [];
                  later = [];
                  first = record {
                    choices = refl;
                    place = refl;
                    trees = d.trees ∙ ap (λ us. s.trees ++ us) (d.makes.trees ∙ ap (λ t. t ∷ []) v.1) ∙ sym (wrapped_from tree.Seq s.trees v.0);
                  };
                  rest = record { choices = refl; same = refl };
                  choices = refl;
                })),
          ));
      back = λ cs s' run.
          (let t = runs_split L c.words xs (job.Close (close.Seq (length s.trees)) ∷ []) s s' cs run in
          let m = parts_back ps xs first s t.middle t.now lined begins within t.first in
          let none : t.later ≡ [] = t.rest.choices ∙ ap (λ zs. zs ++ t.rest.later) t.rest.first.choices ∙ t.rest.rest.choices in
          let place : s'.place ≡ t.middle.place = ap (λ (a : At). a.place) t.rest.rest.same ∙ t.rest.first.place in
          record {
            new = tree.Seq m.trees ∷ [];
            makes = record {
              spanned = record { order = omega (arith, m.order, place); within = omega (arith, m.within, place); accepted = subst (λ k. Has ends k) (sym place) m.accepted };
              tree = tree.Seq m.trees;
              derives = by_seq ps m.trees kind refl (subst (λ k. DerivesEach L ps (slice_range c.words s.place k) m.trees) (sym place) m.derive);
              choices = t.choices ∙ ap (λ zs. t.now ++ zs) none ∙ append-nil t.now ∙ m.choices ∙ sym (chosen_seq L n (tree.Seq m.trees) ps m.trees kind refl);
              trees = refl;
            };
            trees = ap (λ (a : At). a.trees) t.rest.rest.same ∙ t.rest.first.trees ∙ ap (wrap_from tree.Seq (length s.trees)) m.new ∙ wrapped_from tree.Seq s.trees m.trees;
          });
      fair = fair_join L c xs (job.Close (close.Seq (length s.trees)) ∷ []) s.place (parts_fair ps xs first s.place lined begins)
          (λ j r. ((tt, λ k l. (tt, can_nothing L c k)), can_close L c (close.Seq (length s.trees)) j));
    }
