-- What is met and what leads, in the words of the public definitions: over a line that ends, spans and what is reached;
-- over a line that goes on, what is longer.
use Rattle.std.proofs.Common.{Bool, true, false, leb, ℕ, zero, suc, ◌+◌, ◌-◌, ◌<◌, ◌≤◌, ◌≡◌, ◌≢◌, ◌⊎◌, List, [], ◌∷◌, ◌++◌, Option, Some, None, length, take, drop, refl, sym, ap, ◌∙◌, subst, ⊎_elim, inl, inr, arith}
use Rattle.std.specs.Prelude.{◌↔◌, slice_get, slice_range}
use Rattle.std.proofs.lemmas.Bool.Decides.{leb_tells}
use Rattle.vg_base.specs.declared.numbers.NodeIx.{NodeIx}
use Rattle.vg_base.specs.declared.numbers.RuleIx.{RuleIx}
use Rattle.grammar_tree.specs.declared.linked.Node.{Node}
use Rattle.grammar_tree.specs.declared.linked.Node.TheVariants as node
use Rattle.grammar_tree.specs.declared.linked.LinkedRule.{LinkedRule}
use Rattle.grammar_tree.specs.declared.parse_tree.ParseTree.{ParseTree}
use Rattle.grammar_tree.specs.Links.{Rules, node_at, rule_at}
use Rattle.grammar_tree.specs.Derives.{Words, IsAtMost, HasTree, RuleHasTree, DerivesEach, DerivesTurns}
use Rattle.grammar_tree.specs.Reached.{DerivesSpan, Front, Follows, Reached, at_start, at_alternative, at_reference, at_front}
use Rattle.grammar_tree.specs.Longer.{Longer}
use Rattle.grammar_tree.proofs.Decode.{fewer}
use Rattle.grammar_tree.proofs.Fronts.{no_step_no_word, one_more_turn}
use Rattle.earley_chart.specs.code.Reads.{Reads, between, past, beyond, IsPlace}
use Rattle.earley_chart.specs.code.Steps as steps
use Rattle.earley_chart.specs.code.Steps.{level, Leads, PartsLead, FullTurns, TurnsLead, Met}
use Rattle.earley_chart.proofs.Right.{taken_whole, turning, turns_allowed}
use Rattle.earley_chart.proofs.Turns.{level_allows}

pub whole : {X : Type 0} (xs : List X) → slice_range xs 0 (length xs) ≡ xs
whole xs = let e : length xs - 0 ≡ length xs = omega arith in ap (λ n. take n xs) e ∙ taken_whole xs

module _ (L : Rules) (ws : Words) where
  -- over a line that ends words lead by standing between two places
  pub stands_between : (i : ℕ) (us : Words) (j : ℕ) → Reads ws false i us j → (i ≤ j) × (j ≤ length ws) × (us ≡ slice_range ws i j)
  stands_between i us j (between le within e) = (le, within, e)
  stands_between i us j (past more on le at some e) = absurd (cc)
  stands_between i us j (beyond on from to) = absurd (cc)

  pub leads_span : (n : NodeIx) (i j : ℕ) → Leads L ws false n i j ↔ DerivesSpan L ws n i j
  leads_span n i j = (
    λ h.
        let s = stands_between i h.0 j h.1 in
        record { order = s.0; within = s.1; derives = subst (HasTree L n) s.2 h.2 },
    λ span. (slice_range ws i j, between span.order span.within refl, span.derives),
  )

  front_parts : (ps : List NodeIx) (k i j : ℕ) → Front L ws (node.Seq ps) k i j → PartsLead L ws false ps k i j
  front_parts ps k i j front = (slice_range ws i j, between front.order front.within refl, front.derive.0, front.derive.1)

  parts_front : (ps : List NodeIx) (k i j : ℕ) → PartsLead L ws false ps k i j → Front L ws (node.Seq ps) k i j
  parts_front ps k i j h =
      let s = stands_between i h.0 j h.1 in
      record { order = s.0; within = s.1; derive = (h.2, (h.3.0, subst (λ us. DerivesEach L (take k ps) us h.3.0) s.2 h.3.1)) }

  turns_front : (least : ℕ) (most : Option ℕ) (p : NodeIx) (turns i j : ℕ) → IsPlace ws false i → IsAtMost most turns → FullTurns L ws false p turns i j →
      Front L ws (node.Rep least most p) turns i j
  turns_front least most p turns i j place hi h =
      let w = turning L ws false p turns i j place h in
      let s = stands_between i w.words j w.leads in
      record { order = s.0; within = s.1; derive = (hi, (w.trees, w.many, subst (λ us. DerivesTurns L p least us w.trees) s.2 (w.derives least))) }

  -- of the turns of a front those are kept that have a word
  front_turns : (least : ℕ) (most : Option ℕ) (p : NodeIx) (k i j : ℕ) → Front L ws (node.Rep least most p) k i j →
      (turns : ℕ) × (turns ≤ k) × FullTurns L ws false p turns i j
  front_turns least most p zero i j front = (0, omega arith, ((no_step_no_word L ws (node.Rep least most p) i j tt).0 front).0)
  front_turns least most p (suc k) i j front =
      let one : suc k ≡ k + 1 = omega arith in
      let h = (one_more_turn L ws least most p k i j).0 (subst (λ x. Front L ws (node.Rep least most p) x i j) one front) in
      let before = front_turns least most p k i h.0 h.3 in
      ⊎_elim
      (λ a.
      let same : h.0 ≡ j = omega (arith, a.1, h.4.order) in
      (before.0, omega (arith, before.1), subst (λ x. FullTurns L ws false p before.0 i x) same before.2))
      (λ a. (suc before.0, omega (arith, before.1), (h.0, before.2, λ same. absurd (omega (arith, a.1, same)), (leads_span p h.0 j).1 h.4)))
      (leb_tells j h.0)

  pub met_place : (r : RuleIx) (n : NodeIx) (i : ℕ) → Met L ws false r n i → i ≤ length ws
  met_place r n i (steps.at_body rule e same first) = omega (arith, first)
  met_place r n i (steps.at_alternative above ps k there e g) = met_place r above i there
  met_place r n i (steps.at_reference above q rule there e g same) = met_place r above i there
  met_place r n i (steps.at_part above ps k start there e g parts) = (stands_between start parts.0 i parts.1).1
  met_place r n i (steps.at_turn above least most k start there e turns hi) =
      (turns_front least most n turns.0 start i (inl (met_place r above start there)) turns.2 turns.3).within

  pub met_reached : (r : RuleIx) (n : NodeIx) (i : ℕ) → Met L ws false r n i → Reached L ws r n i
  met_reached r n i (steps.at_body rule e same first) = at_start rule e same first
  met_reached r n i (steps.at_alternative above ps k there e g) = at_alternative above ps k (met_reached r above i there) e g
  met_reached r n i (steps.at_reference above q rule there e g same) = at_reference above q rule (met_reached r above i there) e g same
  met_reached r n i (steps.at_part above ps k start there e g parts) =
      at_front above (node.Seq ps) k start (met_reached r above start there) e g (parts_front ps k start i parts)
  met_reached r n i (steps.at_turn above least most k start there e turns hi) =
      let one : suc turns.0 ≡ turns.0 + 1 = omega arith in
      at_front above (node.Rep least most n) turns.0 start (met_reached r above start there) e
      (refl, subst (IsAtMost most) one (turns_allowed L ws false least most k turns.0 turns.1 hi))
      (turns_front least most n turns.0 start i (inl (met_place r above start there)) turns.2 turns.3)

  pub reached_met : (r : RuleIx) (n : NodeIx) (i : ℕ) → Reached L ws r n i → Met L ws false r n i
  reached_met r n i (at_start rule e same first) = steps.at_body rule e same first
  reached_met r n i (at_alternative above ps k there e g) = steps.at_alternative above ps k (reached_met r above i there) e g
  reached_met r n i (at_reference above q rule there e g same) = steps.at_reference above q rule (reached_met r above i there) e g same
  reached_met r n i (at_front above x k j there e follows front) = by_kind x e follows front (reached_met r above j there)
    where
      by_kind : (x : Node) → node_at L above ≡ Some x → Follows x k n → Front L ws x k j i → Met L ws false r above j → Met L ws false r n i
      by_kind (node.Seq ps) e g front there = steps.at_part above ps k j there e g (front_parts ps k j i front)
      by_kind (node.Rep least most p) e f front there =
          let e' : node_at L above ≡ Some (node.Rep least most n) = subst (λ (m : NodeIx). node_at L above ≡ Some (node.Rep least most m)) f.0 e in
          let turns = front_turns least most p k j i front in
          let one = fewer most (turns.0 + 1) (k + 1) (omega (arith, turns.1)) f.1 in
          let full = subst (λ (m : NodeIx). FullTurns L ws false m turns.0 j i) f.0 turns.2 in
          steps.at_turn above least most (level least most turns.0) j there e'
          (turns.0, refl, fewer most turns.0 (turns.0 + 1) (omega arith) one, full) (level_allows least most turns.0 one)
      by_kind (node.Token words) e f front there = absurd f
      by_kind (node.Alt ps) e f front there = absurd f
      by_kind (node.Ref q) e f front there = absurd f
      by_kind (node.Tag tag) e f front there = absurd f
      by_kind node.Null e f front there = absurd f
      by_kind node.Void e f front there = absurd f
      by_kind node.Garbage e f front there = absurd f

  -- over a line that goes on, the rule's body leads from the start past the end exactly where the rule derives more
  pub leads_longer : (r : RuleIx) (rule : LinkedRule) → rule_at L r ≡ Some rule → Leads L ws true rule.body 0 (length ws + 1) ↔ Longer L r ws
  leads_longer r rule e = (
    λ h. longer h.0 h.1 h.2,
    λ h.
        let same : h.2.0 ≡ rule = cc in
        let t = subst (λ (q : LinkedRule). HasTree L q.body (ws ++ h.0)) same h.2.2 in
        (ws ++ h.0, past h.0 refl (omega arith) refl h.1 (ap (λ xs. xs ++ h.0) (sym (whole ws))), t),
  )
    where
      longer : (us : Words) → Reads ws true 0 us (length ws + 1) → HasTree L rule.body us → Longer L r ws
      longer us (between le within f) t = absurd (omega (arith, within))
      longer us (past more on le at some f) t = (more, some, (rule, e, subst (HasTree L rule.body) (f ∙ ap (λ xs. xs ++ more) (whole ws)) t))
      longer us (beyond on from to) t = absurd (omega (arith, from))
