-- The steps at nodes by their kinds: tokens, tags and `$NULL` make a tree at once (`leaf`); an alternative, a rule's
-- body and the turns of a repeat are made first, and then put together (`alternative`, `reference`, `begun_repeat`).
use Rattle.std.proofs.Common.{ℕ, ◌+◌, ◌-◌, ◌≤◌, ◌≡◌, List, [], ◌∷◌, ◌++◌, Some, length, map, drop, refl, sym, ap, ◌∙◌, subst, arith, append-nil}
use Rattle.std.specs.Prelude.{slice_get, slice_range}
use Rattle.std.proofs.Math.Seq.{take-append_seam}
use Rattle.std.proofs.lemmas.List.{drop_at}
use Rattle.vg_base.specs.declared.numbers.NodeIx.{NodeIx}
use Rattle.vg_base.specs.declared.numbers.RuleIx.{RuleIx}
use Rattle.grammar_tree.specs.declared.expansion.TagNode.{TagNode}
use Rattle.grammar_tree.specs.declared.linked.Node.TheVariants as node
use Rattle.grammar_tree.specs.declared.linked.LinkedRule.{LinkedRule}
use Rattle.grammar_tree.specs.declared.parse_tree.ParseTree.{ParseTree}
use Rattle.grammar_tree.specs.declared.parse_tree.ParseTree.TheVariants as tree
use Rattle.grammar_tree.specs.Links.{Rules, node_at, rule_at}
use Rattle.grammar_tree.specs.Derives.{Words, IsAtMost, Derives, by_alt, by_ref, by_rep, by_garbage, DerivesTurns}
use Rattle.grammar_tree.specs.Choices.{choices, chosen_by, turns_chosen}
use Rattle.grammar_tree.specs.Reached.{Reached, at_alternative, at_reference}
use Rattle.grammar_tree.proofs.Spans.{span_length}
use Rattle.grammar_tree.proofs.Fronts.{no_step_no_word}
use Rattle.grammar_tree.proofs.Views.{at_node, chosen_token, chosen_alt, chosen_rep, chosen_ref, chosen_tag, chosen_null, chosen_garbage}
use Rattle.earley_chart.specs.declared.places.Places.{Places}
use Rattle.earley_chart.specs.Places.{Has}
use Rattle.earley_chart.specs.Chart.{Table}
use Rattle.parse_choice.specs.declared.accepted.Repeat.{Repeat}
use Rattle.parse_choice.specs.declared.accepted.Turns.{Turns}
use Rattle.parse_choice.specs.declared.plan.Close.{Close}
use Rattle.parse_choice.specs.declared.plan.Close.TheVariants as close
use Rattle.parse_choice.specs.declared.plan.Job.{Job}
use Rattle.parse_choice.specs.declared.plan.Job.TheVariants as job
use Rattle.parse_choice.specs.code.Ways.{AreWays}
use Rattle.parse_choice.specs.code.Plans.{At, at, wrap_last, wrap_from, closed, NodeMade, Does, Runs, Can, IsDue, IsFair}
use Rattle.parse_choice.proofs.Expansions.{Expands}

pub wrapped_last : (f : ParseTree → ParseTree) (ts : List ParseTree) (u : ParseTree) → wrap_last f (ts ++ u ∷ []) ≡ ts ++ f u ∷ []
wrapped_last f [] u = refl
wrapped_last f (t ∷ []) u = refl
wrapped_last f (t ∷ (v ∷ ts)) u = ap (λ xs. t ∷ xs) (wrapped_last f (v ∷ ts) u)

pub wrapped_from : (f : List ParseTree → ParseTree) (ts us : List ParseTree) → wrap_from f (length ts) (ts ++ us) ≡ ts ++ f us ∷ []
wrapped_from f ts us = ap (λ xs. xs ++ f (drop (length ts) (ts ++ us)) ∷ []) (take-append_seam ts us) ∙ ap (λ xs. ts ++ f xs ∷ []) (drop_at ts us (length ts) refl)

pub same_at : (s : At) (i : ℕ) (ts : List ParseTree) → s.place ≡ i → s.trees ≡ ts → s ≡ at i ts
same_at s i ts p t = λ k. record { place = p k; trees = t k }

module _ (L : Rules) (c : Table) where
  -- what is done at the end needs nothing more
  pub can_nothing : (i : ℕ) → Can L c.words [] i
  can_nothing i = record { choices = []; last = at i []; runs = record { choices = refl; same = refl } }

  pub can_close : (x : Close) (i : ℕ) → Can L c.words (job.Close x ∷ []) i
  can_close x i = record {
    choices = [];
    last = at i (closed x []);
    runs = record {
      middle = at i (closed x []);
      now = [];
      later = [];
      first = record { choices = refl; place = refl; trees = refl };
      rest = record { choices = refl; same = refl };
      choices = refl;
    };
  }

  -- a job that is due, and then the trees are put together
  pub fair_closed : (x : Job) (y : Close) (i : ℕ) → IsDue L c x i → IsFair L c (x ∷ (job.Close y ∷ [])) i
  fair_closed x y i due = (due, λ j lead. ((tt, λ k l. (tt, can_nothing k)), can_close y j))

  -- putting together is done at once
  pub closing : (x : Close) (s : At) → Expands L c [] (job.Close x) s [] (at s.place (closed x s.trees))
  closing x s = record {
    onto = λ cs ds later s' d e. (cs, refl, record { choices = d.choices; same = same_at s' s.place (closed x s.trees) d.place d.trees });
    back = λ cs s' r. record { choices = r.choices; place = ap (λ (a : At). a.place) r.same; trees = ap (λ (a : At). a.trees) r.same };
    fair = tt;
  }

  -- two jobs of which the second puts together, as one fact
  pub closed_in : (x : Job) (y : Close) (s m s' : At) (cs : List ℕ) → Does L c.words x s cs m → s'.place ≡ m.place → s'.trees ≡ closed y m.trees →
      Runs L c.words (x ∷ (job.Close y ∷ [])) s cs s'
  closed_in x y s m s' cs d p t = record {
    middle = m;
    now = cs;
    later = [];
    first = d;
    rest = record { middle = s'; now = []; later = []; first = record { choices = refl; place = p; trees = t }; rest = record { choices = refl; same = refl }; choices = refl };
    choices = sym (append-nil cs);
  }

  pub record ClosedOut (x : Job) (y : Close) (s : At) (cs : List ℕ) (s' : At) : Type 0 where
    pub middle : At
    pub does : Does L c.words x s cs middle
    pub place : s'.place ≡ middle.place
    pub trees : s'.trees ≡ closed y middle.trees

  pub closed_out : (x : Job) (y : Close) (s s' : At) (cs : List ℕ) → Runs L c.words (x ∷ (job.Close y ∷ [])) s cs s' → ClosedOut x y s cs s'
  closed_out x y s s' cs r =
      let none : r.later ≡ [] = r.rest.choices ∙ ap (λ zs. zs ++ r.rest.later) r.rest.first.choices ∙ r.rest.rest.choices in
      let same : r.now ≡ cs = sym (append-nil r.now) ∙ ap (λ zs. r.now ++ zs) (sym none) ∙ sym r.choices in
      record {
        middle = r.middle;
        does = subst (λ zs. Does L c.words x s zs r.middle) same r.first;
        place = ap (λ (a : At). a.place) r.rest.rest.same ∙ r.rest.first.place;
        trees = ap (λ (a : At). a.trees) r.rest.rest.same ∙ r.rest.first.trees;
      }

  module _ (n : NodeIx) (ends : Places) (s : At) where
    abbrev here : Job
    here = job.Node n ends

    -- a node that has one tree here, without choices
    pub record IsLeaf (words : ℕ) (t : ParseTree) (j : ℕ) (u : ParseTree) : Type 0 where
      pub tree : u ≡ t
      pub place : j ≡ s.place + words
      pub choices : choices L n u ≡ []

    pub leaf : (words : ℕ) (t : ParseTree) → ((j : ℕ) (u : ParseTree) → s.place ≤ j → j ≤ length c.words → Derives L n (slice_range c.words s.place j) u → IsLeaf words t j u) →
        (cs : List ℕ) × (s' : At) × Does L c.words here s cs s' → Expands L c [] here s [] (at (s.place + words) (s.trees ++ t ∷ []))
    leaf words t unique done = record {
      onto = λ cs ds later s' d e. (cs, refl, record { choices = (is cs s' d).0; same = (is cs s' d).1 });
      back = λ cs s' r. (let it = is done.0 done.1 done.2 in
          subst (λ zs. Does L c.words here s zs s') (sym r.choices)
          (subst (λ (a : At). Does L c.words here s [] a) (it.1 ∙ sym r.same) (subst (λ zs. Does L c.words here s zs done.1) it.0 done.2)));
      fair = tt;
    }
      where
        is : (cs : List ℕ) (s' : At) → Does L c.words here s cs s' → (cs ≡ []) × (s' ≡ at (s.place + words) (s.trees ++ t ∷ []))
        is cs s' d =
            let one = unique s'.place d.makes.tree d.makes.spanned.order d.makes.spanned.within d.makes.derives in (
              d.makes.choices ∙ one.choices,
              same_at s' (s.place + words) (s.trees ++ t ∷ []) one.place (d.trees ∙ ap (λ us. s.trees ++ us) (d.makes.trees ∙ ap (λ u. u ∷ []) one.tree)),
            )

    pub token_leaf : (own : Words) → node_at L n ≡ Some (node.Token own) → (j : ℕ) (u : ParseTree) → s.place ≤ j → j ≤ length c.words →
        Derives L n (slice_range c.words s.place j) u → IsLeaf (length own) (tree.Token own) j u
    token_leaf own e j u le within d =
        let v = at_node L n (slice_range c.words s.place j) u (node.Token own) e d in
        record {
          tree = v.1 ∙ ap tree.Token v.0;
          place = omega (arith, span_length c.words s.place j le within, ap length v.0);
          choices = chosen_token L n u own (slice_range c.words s.place j) e v.1;
        }

    no_words : (j : ℕ) → s.place ≤ j → j ≤ length c.words → slice_range c.words s.place j ≡ [] → j ≡ s.place + 0
    no_words j le within e = omega (arith, span_length c.words s.place j le within, ap length e)

    pub tag_leaf : (tag : TagNode) → node_at L n ≡ Some (node.Tag tag) → (j : ℕ) (u : ParseTree) → s.place ≤ j → j ≤ length c.words →
        Derives L n (slice_range c.words s.place j) u → IsLeaf 0 (tree.Tag n) j u
    tag_leaf tag e j u le within d =
        let v = at_node L n (slice_range c.words s.place j) u (node.Tag tag) e d in
        record { tree = v.1; place = no_words j le within v.0; choices = chosen_tag L n u tag e v.1 }

    pub null_leaf : node_at L n ≡ Some node.Null → (j : ℕ) (u : ParseTree) → s.place ≤ j → j ≤ length c.words →
        Derives L n (slice_range c.words s.place j) u → IsLeaf 0 tree.Null j u
    null_leaf e j u le within d =
        let v = at_node L n (slice_range c.words s.place j) u node.Null e d in
        record { tree = v.1; place = no_words j le within v.0; choices = chosen_null L n u e v.1 }

    pub void_leaf : node_at L n ≡ Some node.Void → (j : ℕ) (u : ParseTree) → s.place ≤ j → j ≤ length c.words →
        Derives L n (slice_range c.words s.place j) u → IsLeaf 0 tree.Null j u
    void_leaf e j u le within d = absurd (at_node L n (slice_range c.words s.place j) u node.Void e d)

    -- an alternative is taken: its tree is made, and put into one of the alternatives
    pub alternative : (ps : List NodeIx) (k : ℕ) (p : NodeIx) → node_at L n ≡ Some (node.Alt ps) → slice_get ps k ≡ Some p → Reached L c.words c.rule n s.place →
        Expands L c (k ∷ []) here s (job.Node p ends ∷ (job.Close (close.Alt k) ∷ [])) s
    alternative ps k p e g reached = record {
      onto = λ cs ds later s' d q.
          (let v = at_node L n (slice_range c.words s.place s'.place) d.makes.tree (node.Alt ps) e d.makes.derives in
          let is : cs ≡ v.0 ∷ choices L v.1 v.2 = d.makes.choices ∙ chosen_alt L n d.makes.tree ps v.0 v.1 v.2 e v.3 v.4 in
          let first : k ≡ v.0 = (let q' : k ∷ ds ≡ v.0 ∷ (choices L v.1 v.2 ++ later) = q ∙ ap (λ zs. zs ++ later) is in cc (q')) in
          let some : Some v.1 ≡ Some p = sym v.3 ∙ ap (λ m. slice_get ps m) (sym first) ∙ g in
          let same : v.1 ≡ p = cc (some) in (
            choices L v.1 v.2,
            is ∙ ap (λ m. m ∷ choices L v.1 v.2) (sym first),
            subst (λ (m : NodeIx). Runs L c.words (job.Node m ends ∷ (job.Close (close.Alt k) ∷ [])) s (choices L v.1 v.2) s') same
                (closed_in (job.Node v.1 ends) (close.Alt k) s (at s'.place (s.trees ++ v.2 ∷ [])) s' (choices L v.1 v.2)
                (record { new = v.2 ∷ []; makes = record { spanned = d.makes.spanned; tree = v.2; derives = v.5; choices = refl; trees = refl }; trees = refl })
                refl
                (d.trees ∙ ap (λ us. s.trees ++ us) (d.makes.trees ∙ ap (λ t. t ∷ []) (v.4 ∙ ap (λ m. tree.Alt m v.2) (sym first))) ∙ sym (wrapped_last (tree.Alt k) s.trees v.2))),
          ));
      back = λ cs s' r.
          (let o = closed_out (job.Node p ends) (close.Alt k) s s' cs r in
          let u = o.does.makes.tree in
          record {
            new = tree.Alt k u ∷ [];
            makes = subst (λ j. NodeMade L c.words n ends s.place (k ∷ cs) j (tree.Alt k u ∷ [])) (sym o.place) (record {
              spanned = o.does.makes.spanned;
              tree = tree.Alt k u;
              derives = by_alt ps k p u e g refl o.does.makes.derives;
              choices = ap (λ zs. k ∷ zs) o.does.makes.choices ∙ sym (chosen_alt L n (tree.Alt k u) ps k p u e g refl);
              trees = refl;
            });
            trees = o.trees ∙ ap (wrap_last (tree.Alt k)) (o.does.trees ∙ ap (λ us. s.trees ++ us) o.does.makes.trees) ∙ wrapped_last (tree.Alt k) s.trees u;
          });
      fair = fair_closed (job.Node p ends) (close.Alt k) s.place (at_alternative n ps k reached e g);
    }

    -- the body's tree is made, and put into one of the rule
    pub reference : (q : RuleIx) (rule : LinkedRule) → node_at L n ≡ Some (node.Ref q) → rule_at L q ≡ Some rule → Reached L c.words c.rule n s.place →
        Expands L c [] here s (job.Node rule.body ends ∷ (job.Close (close.Rule q) ∷ [])) s
    reference q rule e g reached = record {
      onto = λ cs ds later s' d eq.
          (let v = at_node L n (slice_range c.words s.place s'.place) d.makes.tree (node.Ref q) e d.makes.derives in
          let some : Some v.0 ≡ Some rule = sym v.2 ∙ g in
          let same : v.0 ≡ rule = cc (some) in
          let is : cs ≡ choices L v.0.body v.1 = d.makes.choices ∙ chosen_ref L n d.makes.tree q v.0 v.1 e v.2 v.3 in (
            cs,
            refl,
            subst (λ (m : LinkedRule). Runs L c.words (job.Node m.body ends ∷ (job.Close (close.Rule q) ∷ [])) s cs s') same
                (closed_in (job.Node v.0.body ends) (close.Rule q) s (at s'.place (s.trees ++ v.1 ∷ [])) s' cs
                (record { new = v.1 ∷ []; makes = record { spanned = d.makes.spanned; tree = v.1; derives = v.4; choices = is; trees = refl }; trees = refl })
                refl
                (d.trees ∙ ap (λ us. s.trees ++ us) (d.makes.trees ∙ ap (λ t. t ∷ []) v.3) ∙ sym (wrapped_last (tree.Rule q) s.trees v.1))),
          ));
      back = λ cs s' r.
          (let o = closed_out (job.Node rule.body ends) (close.Rule q) s s' cs r in
          let u = o.does.makes.tree in
          record {
            new = tree.Rule q u ∷ [];
            makes = subst (λ j. NodeMade L c.words n ends s.place cs j (tree.Rule q u ∷ [])) (sym o.place) (record {
              spanned = o.does.makes.spanned;
              tree = tree.Rule q u;
              derives = by_ref q rule u e g refl o.does.makes.derives;
              choices = o.does.makes.choices ∙ sym (chosen_ref L n (tree.Rule q u) q rule u e g refl);
              trees = refl;
            });
            trees = o.trees ∙ ap (wrap_last (tree.Rule q)) (o.does.trees ∙ ap (λ us. s.trees ++ us) o.does.makes.trees) ∙ wrapped_last (tree.Rule q) s.trees u;
          });
      fair = fair_closed (job.Node rule.body ends) (close.Rule q) s.place (at_reference n q rule reached e g refl);
    }

    -- the turns of a repeat are made, and put together
    pub begun_repeat : (r : Repeat) (ways : List Places) → node_at L n ≡ Some (node.Rep r.least r.most r.inner) → AreWays c r.inner ends ways → Reached L c.words c.rule n s.place → s.place ≤ length c.words →
        Expands L c [] here s (job.Turns (record { repeat = r; made = 0; ways = ways }) ∷ (job.Close (close.Rep (length s.trees)) ∷ [])) s
    begun_repeat r ways e are reached within = record {
      onto = λ cs ds later s' d eq.
          (let v = at_node L n (slice_range c.words s.place s'.place) d.makes.tree (node.Rep r.least r.most r.inner) e d.makes.derives in
          let is : cs ≡ turns_chosen r.least r.most r.inner 0 (map (chosen_by L) v.0) = d.makes.choices ∙ chosen_rep L n d.makes.tree r.least r.most r.inner v.0 e v.1 in
          let all : 0 + length v.0 ≡ length v.0 = omega arith in
          let free : r.least - 0 ≡ r.least = omega arith in (
            cs,
            refl,
            closed_in (job.Turns none) (close.Rep (length s.trees)) s (at s'.place (s.trees ++ v.0)) s' cs
                (record {
                  new = v.0;
                  makes = record {
                    spanned = record { order = d.makes.spanned.order; within = d.makes.spanned.within; accepted = subst (λ (set : Places). Has set s'.place) (sym are.first) d.makes.spanned.accepted };
                    derive = subst (λ k. DerivesTurns L r.inner k (slice_range c.words s.place s'.place) v.0) (sym free) v.4;
                    least = omega (arith, v.2);
                    most = subst (λ k. IsAtMost r.most k) (sym all) v.3;
                    choices = is;
                  };
                  trees = refl;
                })
                refl
                (d.trees ∙ ap (λ us. s.trees ++ us) (d.makes.trees ∙ ap (λ t. t ∷ []) v.1) ∙ sym (wrapped_from tree.Rep s.trees v.0)),
          ));
      back = λ cs s' run.
          (let o = closed_out (job.Turns none) (close.Rep (length s.trees)) s s' cs run in
          let ts = o.does.new in
          let m = o.does.makes in
          let all : 0 + length ts ≡ length ts = omega arith in
          let free : r.least - 0 ≡ r.least = omega arith in
          record {
            new = tree.Rep ts ∷ [];
            makes = subst (λ j. NodeMade L c.words n ends s.place cs j (tree.Rep ts ∷ [])) (sym o.place) (record {
              spanned = record { order = m.spanned.order; within = m.spanned.within; accepted = subst (λ (set : Places). Has set o.middle.place) are.first m.spanned.accepted };
              tree = tree.Rep ts;
              derives = by_rep r.least r.most r.inner ts e refl (omega (arith, m.least)) (subst (λ k. IsAtMost r.most k) all m.most)
                  (subst (λ k. DerivesTurns L r.inner k (slice_range c.words s.place o.middle.place) ts) free m.derive);
              choices = m.choices ∙ sym (chosen_rep L n (tree.Rep ts) r.least r.most r.inner ts e refl);
              trees = refl;
            });
            trees = o.trees ∙ ap (wrap_from tree.Rep (length s.trees)) o.does.trees ∙ wrapped_from tree.Rep s.trees ts;
          });
      fair = fair_closed (job.Turns none) (close.Rep (length s.trees)) s.place (record {
        at = n;
        kind = e;
        from = s.place;
        reached = reached;
        front = (no_step_no_word L c.words (node.Rep r.least r.most r.inner) s.place s.place tt).1 (refl, within);
        ways = subst (λ (set : Places). AreWays c r.inner set ways) (sym are.first) are;
      });
    }
      where
        none : Turns
        none = record { repeat = r; made = 0; ways = ways }

    -- $GARBAGE begins
    pub begun_garbage : node_at L n ≡ Some node.Garbage → s.place ≤ length c.words → Expands L c [] here s (job.Garbage s.place ends ∷ []) s
    begun_garbage e within = record {
      onto = λ cs ds later s' d eq.
          (let v = at_node L n (slice_range c.words s.place s'.place) d.makes.tree node.Garbage e d.makes.derives in (
            cs,
            refl,
            record {
              middle = s';
              now = cs;
              later = [];
              first = record {
                new = d.new;
                makes = record {
                  spanned = d.makes.spanned;
                  choices = d.makes.choices ∙ chosen_garbage L n d.makes.tree (slice_range c.words s.place s'.place) e v;
                  trees = d.makes.trees ∙ ap (λ t. t ∷ []) v;
                };
                trees = d.trees;
              };
              rest = record { choices = refl; same = refl };
              choices = sym (append-nil cs);
            },
          ));
      back = λ cs s' r.
          (let same : r.now ≡ cs = sym (append-nil r.now) ∙ ap (λ zs. r.now ++ zs) (sym r.rest.choices) ∙ sym r.choices in
          let words = slice_range c.words s.place r.middle.place in
          subst (λ (a : At). Does L c.words here s cs a) (sym r.rest.same)
          (record {
            new = r.first.new;
            makes = record {
              spanned = r.first.makes.spanned;
              tree = tree.Garbage words;
              derives = by_garbage e refl;
              choices = sym same ∙ r.first.makes.choices ∙ sym (chosen_garbage L n (tree.Garbage words) words e refl);
              trees = r.first.makes.trees;
            };
            trees = r.first.trees;
          }));
      fair = ((omega arith, within), λ j lead. (tt, can_nothing j));
    }
