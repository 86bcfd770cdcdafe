-- The steps of a run keep its facts right: what a goal, an item and its ends mean goes on from step to step.
use Rattle.std.proofs.Common.{Bool, true, false, leb, ℕ, zero, suc, ◌+◌, ◌-◌, ◌<◌, ◌≤◌, ◌≡◌, ◌≢◌, ◌⊎◌, List, [], ◌∷◌, ◌++◌, Option, Some, None, length, take, refl, sym, ap, ◌∙◌, subst, ⊎_elim, arith, length-append}
use Rattle.std.specs.Prelude.{slice_get}
use Rattle.std.proofs.lemmas.Bool.Decides.{leb_tells}
use Rattle.std.proofs.lemmas.Option.{slice_get_within}
use Rattle.vg_base.specs.declared.numbers.NodeIx.{NodeIx}
use Rattle.vg_base.specs.declared.numbers.RuleIx.{RuleIx}
use Rattle.grammar_tree.specs.declared.expansion.TagNode.{TagNode}
use Rattle.grammar_tree.specs.declared.linked.Node.{Node}
use Rattle.grammar_tree.specs.declared.linked.Node.TheVariants as node
use Rattle.grammar_tree.specs.declared.linked.LinkedRule.{LinkedRule}
use Rattle.grammar_tree.specs.declared.parse_tree.ParseTree.{ParseTree}
use Rattle.grammar_tree.specs.declared.parse_tree.ParseTree.TheVariants as tree
use Rattle.grammar_tree.specs.Links.{Rules, node_at, rule_at}
use Rattle.grammar_tree.specs.Derives.{Words, IsAtMost, Derives, by_token, by_seq, by_alt, by_rep, by_ref, by_tag, by_null, by_garbage, DerivesEach, no_part, DerivesTurns, no_turn}
use Rattle.grammar_tree.proofs.Fronts.{each_more, turns_more}
use Rattle.earley_chart.specs.code.Reads.{Reads, IsPlace}
use Rattle.earley_chart.specs.code.Steps.{level, next_level, Leads, PartsLead, FullTurns, TurnsLead}
use Rattle.earley_chart.proofs.ReadLaws.{reads_none, reads_here, reads_join}
use Rattle.earley_chart.proofs.Turns.{level_none, level_next, level_within}

taken_next : (ps : List NodeIx) (k : ℕ) (p : NodeIx) → slice_get ps k ≡ Some p → take (k + 1) ps ≡ take k ps ++ p ∷ []
taken_next [] k p g = absurd (cc)
taken_next (q ∷ ps) zero p g = let same : q ≡ p = cc in ap (λ x. x ∷ []) same
taken_next (q ∷ ps) (suc k) p g =
    let e : suc k + 1 ≡ suc (k + 1) = omega arith in
    ap (λ x. take x (q ∷ ps)) e ∙ ap (λ xs. q ∷ xs) (taken_next ps k p g)

pub taken_whole : {X : Type 0} (xs : List X) → take (length xs) xs ≡ xs
taken_whole [] = refl
taken_whole (x ∷ xs) = ap (λ ys. x ∷ ys) (taken_whole xs)

any_most : (most : Option ℕ) → IsAtMost most 0
any_most None = tt
any_most (Some most) = omega arith

module _ (L : Rules) (ws : Words) (goes_on : Bool) where
  pub token_leads : (n : NodeIx) (us : Words) (i j : ℕ) → node_at L n ≡ Some (node.Token us) → Reads ws goes_on i us j → Leads L ws goes_on n i j
  token_leads n us i j e read = (us, read, (tree.Token us, by_token e refl))

  pub tag_leads : (n : NodeIx) (tag : TagNode) (i : ℕ) → node_at L n ≡ Some (node.Tag tag) → IsPlace ws goes_on i → Leads L ws goes_on n i i
  tag_leads n tag i e place = ([], reads_here ws goes_on i place, (tree.Tag n, by_tag tag e refl refl))

  pub null_leads : (n : NodeIx) (i : ℕ) → node_at L n ≡ Some node.Null → IsPlace ws goes_on i → Leads L ws goes_on n i i
  null_leads n i e place = ([], reads_here ws goes_on i place, (tree.Null, by_null e refl refl))

  pub garbage_leads : (n : NodeIx) (us : Words) (i j : ℕ) → node_at L n ≡ Some node.Garbage → Reads ws goes_on i us j → Leads L ws goes_on n i j
  garbage_leads n us i j e read = (us, read, (tree.Garbage us, by_garbage e refl))

  pub alternative_leads : (n : NodeIx) (ps : List NodeIx) (k : ℕ) (p : NodeIx) (i j : ℕ) → node_at L n ≡ Some (node.Alt ps) → slice_get ps k ≡ Some p →
      Leads L ws goes_on p i j → Leads L ws goes_on n i j
  alternative_leads n ps k p i j e g h = (h.0, h.1, (tree.Alt k h.2.0, by_alt ps k p h.2.0 e g refl h.2.1))

  pub reference_leads : (n : NodeIx) (q : RuleIx) (rule : LinkedRule) (i j : ℕ) → node_at L n ≡ Some (node.Ref q) → rule_at L q ≡ Some rule →
      Leads L ws goes_on rule.body i j → Leads L ws goes_on n i j
  reference_leads n q rule i j e g h = (h.0, h.1, (tree.Rule q h.2.0, by_ref q rule h.2.0 e g refl h.2.1))

  -- ---- parts

  pub no_part_leads : (ps : List NodeIx) (i : ℕ) → IsPlace ws goes_on i → PartsLead L ws goes_on ps 0 i i
  no_part_leads ps i place = ([], reads_here ws goes_on i place, omega arith, ([], no_part refl))

  pub one_more_part_leads : (ps : List NodeIx) (k : ℕ) (p : NodeIx) (i m j : ℕ) → slice_get ps k ≡ Some p → PartsLead L ws goes_on ps k i m →
      Leads L ws goes_on p m j → PartsLead L ws goes_on ps (k + 1) i j
  one_more_part_leads ps k p i m j g h one = (
    h.0 ++ one.0,
    reads_join ws goes_on i m j h.0 one.0 h.1 one.1,
    omega (arith, slice_get_within ps k p g),
    (
      h.3.0 ++ one.2.0 ∷ [],
      subst (λ qs. DerivesEach L qs (h.0 ++ one.0) (h.3.0 ++ one.2.0 ∷ [])) (sym (taken_next ps k p g))
          (each_more L (take k ps) h.0 one.0 h.3.0 p one.2.0 h.3.1 one.2.1),
    ),
  )

  pub all_parts_lead : (n : NodeIx) (ps : List NodeIx) (i j : ℕ) → node_at L n ≡ Some (node.Seq ps) → PartsLead L ws goes_on ps (length ps) i j → Leads L ws goes_on n i j
  all_parts_lead n ps i j e h =
      (h.0, h.1, (tree.Seq h.3.0, by_seq ps h.3.0 e refl (subst (λ qs. DerivesEach L qs h.0 h.3.0) (taken_whole ps) h.3.1)))

  -- ---- turns

  -- so many turns as a list, each with a word, so that any number of them may count as free
  pub record Turning (p : NodeIx) (turns i j : ℕ) : Type 0 where
    pub words : Words
    pub leads : Reads ws goes_on i words j
    pub trees : List ParseTree
    pub many : length trees ≡ turns
    pub derives : (free : ℕ) → DerivesTurns L p free words trees

  pub turning : (p : NodeIx) (turns i j : ℕ) → IsPlace ws goes_on i → FullTurns L ws goes_on p turns i j → Turning p turns i j
  turning p zero i j place h = record {
    words = [];
    leads = subst (λ k. Reads ws goes_on i [] k) h (reads_here ws goes_on i place);
    trees = [];
    many = refl;
    derives = λ free. no_turn refl;
  }
  turning p (suc turns) i j place h =
      let before = turning p turns i h.0 place h.1 in
      let one = h.3 in
      let some : one.0 ≢ [] = λ z. h.2 (reads_none ws goes_on h.0 one.0 j z one.1) in
      record {
        words = before.words ++ one.0;
        leads = reads_join ws goes_on i h.0 j before.words one.0 before.leads one.1;
        trees = before.trees ++ one.2.0 ∷ [];
        many = omega (arith, length-append before.trees (one.2.0 ∷ []), before.many);
        derives = λ free. turns_more L p free before.words one.0 before.trees one.2.0 (before.derives free) (λ le. some) one.2.1;
      }

  -- turns, and where there are fewer than the least as many more as are wanted, each of which leads nowhere further
  record Filled (p : NodeIx) (least i j : ℕ) : Type 0 where
    words : Words
    leads : Reads ws goes_on i words j
    trees : List ParseTree
    many : length trees ≡ least
    derives : DerivesTurns L p least words trees

  fill : (p : NodeIx) (least i j more : ℕ) → Leads L ws goes_on p j j → (us : Words) (ts : List ParseTree) → Reads ws goes_on i us j →
      length ts + more ≡ least → DerivesTurns L p least us ts → Filled p least i j
  fill p least i j zero one us ts read many d = record { words = us; leads = read; trees = ts; many = omega (arith, many); derives = d }
  fill p least i j (suc more) one us ts read many d =
      fill p least i j more one (us ++ one.0) (ts ++ one.2.0 ∷ []) (reads_join ws goes_on i j j us one.0 read one.1)
      (omega (arith, length-append ts (one.2.0 ∷ []), many))
      (turns_more L p least us one.0 ts one.2.0 d (λ le. absurd (omega (arith, le, many))) one.2.1)

  pub no_turn_leads : (least : ℕ) (most : Option ℕ) (p : NodeIx) (i : ℕ) → TurnsLead L ws goes_on least most p 0 i i
  no_turn_leads least most p i = (0, sym (level_none least most), any_most most, refl)

  -- where the count may rise, the turns may
  pub turns_allowed : (least : ℕ) (most : Option ℕ) (k turns : ℕ) → k ≡ level least most turns → IsAtMost most (k + 1) → IsAtMost most (suc turns)
  turns_allowed least None k turns e hi = tt
  turns_allowed least (Some most) k turns e hi = omega (arith, e, hi)

  pub one_more_turn_leads : (least : ℕ) (most : Option ℕ) (p : NodeIx) (k i m j : ℕ) → TurnsLead L ws goes_on least most p k i m → IsAtMost most (k + 1) →
      m ≢ j → Leads L ws goes_on p m j → TurnsLead L ws goes_on least most p (next_level least most k) i j
  one_more_turn_leads least most p k i m j h hi other one =
      let more : h.0 + 1 ≡ suc h.0 = omega arith in
      (suc h.0, ap (next_level least most) h.1 ∙ level_next least most h.0 ∙ ap (level least most) more, turns_allowed least most k h.0 h.1 hi, (m, h.3, other, one))

  pub enough_turns_lead : (n : NodeIx) (least : ℕ) (most : Option ℕ) (p : NodeIx) (k i j : ℕ) → node_at L n ≡ Some (node.Rep least most p) →
      IsPlace ws goes_on i → TurnsLead L ws goes_on least most p k i j → least ≤ k → Leads L ws goes_on n i j
  enough_turns_lead n least most p k i j e place h lo =
      let w = turning p h.0 i j place h.3 in (
        w.words,
        w.leads,
        (tree.Rep w.trees, by_rep least most p w.trees e refl (omega (arith, lo, h.1, level_within least most h.0, w.many)) (subst (IsAtMost most) (sym w.many) h.2) (w.derives least)),
      )

  pub filled_turns_lead : (n : NodeIx) (least : ℕ) (most : Option ℕ) (p : NodeIx) (k i j : ℕ) → node_at L n ≡ Some (node.Rep least most p) →
      IsPlace ws goes_on i → TurnsLead L ws goes_on least most p k i j → IsAtMost most least → Leads L ws goes_on p j j → Leads L ws goes_on n i j
  filled_turns_lead n least most p k i j e place h hi one =
      let w = turning p h.0 i j place h.3 in
      ⊎_elim
      (λ a. (w.words, w.leads, (tree.Rep w.trees, by_rep least most p w.trees e refl (omega (arith, a.1, w.many)) (subst (IsAtMost most) (sym w.many) h.2) (w.derives least))))
      (λ a.
      let all : length w.trees + (least - h.0) ≡ least = omega (arith, a.1, w.many) in
      let f = fill p least i j (least - h.0) one w.words w.trees w.leads all (w.derives least) in
      (f.words, f.leads, (tree.Rep f.trees, by_rep least most p f.trees e refl (omega (arith, f.many)) (subst (IsAtMost most) (sym f.many) hi) f.derives)))
      (leb_tells least h.0)
