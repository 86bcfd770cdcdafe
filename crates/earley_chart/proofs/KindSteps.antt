-- What a spot asks is right where the spot is, and where that ends the spot ends rightly: kind by kind.
use Rattle.std.proofs.Common.{Bool, true, false, ℕ, zero, suc, ◌+◌, ◌-◌, ◌<◌, ◌≤◌, ◌≡◌, ◌≢◌, ◌⊎◌, inl, inr, List, Option, Some, None, length, get_or, refl, sym, ap, ◌∙◌, subst, ⊎_elim, arith}
use Rattle.std.specs.Prelude.{slice_get}
use Rattle.std.specs.List.{All, Contains}
use Rattle.std.proofs.lemmas.List.Elements.{All-contains}
use Rattle.std.proofs.lemmas.Option.{slice_get_within, slice_get-get_or, get_or_from_slice_get}
use Rattle.vg_base.specs.declared.numbers.NodeIx.{NodeIx}
use Rattle.vg_base.specs.declared.numbers.RuleIx.{RuleIx}
use Rattle.grammar_tree.specs.declared.expansion.TagNode.{TagNode}
use Rattle.grammar_tree.specs.declared.linked.Node.{Node}
use Rattle.grammar_tree.specs.declared.linked.Node.TheVariants as node
use Rattle.grammar_tree.specs.declared.linked.LinkedRule.{LinkedRule}
use Rattle.grammar_tree.specs.Links.{Rules, IsLinked, node_at, rule_at, parts}
use Rattle.grammar_tree.specs.Derives.{Words, IsAtMost}
use Rattle.earley_chart.specs.declared.board.Spot.{Spot}
use Rattle.earley_chart.specs.code.Reads.{Reads, IsPlace}
use Rattle.earley_chart.specs.code.Steps.{next_level, Leads, PartsLead, TurnsLead, Met, at_body, at_alternative, at_reference, at_part, at_turn}
use Rattle.earley_chart.specs.code.Boards.{node_of, spot_at}
use Rattle.earley_chart.specs.code.Sound.{Stood, IsRightSpot, IsRightEnd}
use Rattle.earley_chart.proofs.ReadLaws.{reads_to, reads_on}
use Rattle.earley_chart.proofs.Right.{token_leads, tag_leads, null_leads, garbage_leads, alternative_leads, reference_leads, no_part_leads, one_more_part_leads, all_parts_lead, no_turn_leads, one_more_turn_leads, enough_turns_lead, filled_turns_lead}

get_contains : {X : Type 0} (xs : List X) (k : ℕ) (x : X) → slice_get xs k ≡ Some x → Contains xs x
get_contains xs k x e = (k, slice_get_within xs k x e, get_or_from_slice_get xs k x x e)

-- the parts of a node are nodes
pub part_there : (L : Rules) → IsLinked L → (n : NodeIx) (x : Node) (k : ℕ) (p : NodeIx) → node_at L n ≡ Some x → slice_get (parts x) k ≡ Some p → p.0 < length L.nodes
part_there L linked n x k p e at =
    (All-contains (λ (q : NodeIx). (n.0 < q.0) × (q.0 < length L.nodes)) (parts x) p (linked.rises n.0 x e) (get_contains (parts x) k p at)).1

module _ (L : Rules) (ws : Words) (goes_on : Bool) (r : RuleIx) where
  pub stood_first : (x : Node) (m : ℕ) → IsPlace ws goes_on m → Stood L ws goes_on r x 0 m m
  stood_first (node.Seq ps) m place = (λ z. refl, no_part_leads L ws goes_on ps m place)
  stood_first (node.Rep least most p) m place = (λ z. refl, no_turn_leads L ws goes_on least most p m)
  stood_first (node.Token us) m place = (λ z. refl, refl)
  stood_first (node.Alt ps) m place = (λ z. refl, refl)
  stood_first (node.Ref q) m place = (λ z. refl, refl)
  stood_first (node.Tag tag) m place = (λ z. refl, refl)
  stood_first node.Null m place = (λ z. refl, refl)
  stood_first node.Void m place = (λ z. refl, refl)
  stood_first node.Garbage m place = (λ z. refl, refl)

  -- a node that is met is a right spot
  pub first_right : (p : NodeIx) (m : ℕ) → p.0 < length L.nodes → Met L ws goes_on r p m → IsPlace ws goes_on m → IsRightSpot L ws goes_on r (spot_at p 0 m)
  first_right p m lt met place = record {
    kind = get_or L.nodes p.0 node.Null;
    node = slice_get-get_or L.nodes p.0 node.Null lt;
    place = place;
    from = m;
    at = place;
    met = met;
    stood = stood_first (get_or L.nodes p.0 node.Null) m place;
  }

  -- where a node ends that began here
  pub first_leads : (p : NodeIx) (m j : ℕ) → IsRightSpot L ws goes_on r (spot_at p 0 m) → IsRightEnd L ws goes_on r (spot_at p 0 m) j → Leads L ws goes_on p m j
  first_leads p m j right end = end right.kind m right.node right.place (stood_first right.kind m right.place)

  pub leads_place : (n : NodeIx) (i j : ℕ) → Leads L ws goes_on n i j → (i ≤ j) × IsPlace ws goes_on j
  leads_place n i j h = (reads_on ws goes_on i h.0 j h.1, reads_to ws goes_on i h.0 j h.1)

  module _ (s : Spot) (x : Node) (e : node_at L (node_of s) ≡ Some x) where
    -- an end may be shown of the kind that the node has
    pub end_of : (j : ℕ) → ((i : ℕ) → IsPlace ws goes_on i → Stood L ws goes_on r x s.step i s.start → Leads L ws goes_on (node_of s) i j) → IsRightEnd L ws goes_on r s j
    end_of j f = λ x' i e' place stood.
        (let both : Some x' ≡ Some x = sym e' ∙ e in
        let same : x' ≡ x = cc in
        f i place (subst (λ (y : Node). Stood L ws goes_on r y s.step i s.start) same stood))

    pub stood_of : (right : IsRightSpot L ws goes_on r s) → Stood L ws goes_on r x s.step right.from s.start
    stood_of right =
        let both : Some right.kind ≡ Some x = sym right.node ∙ e in
        let same : right.kind ≡ x = cc in
        subst (λ (y : Node). Stood L ws goes_on r y s.step right.from s.start) same right.stood

  module _ (s : Spot) (right : IsRightSpot L ws goes_on r s) (linked : IsLinked L) where
    module _ (ps : List NodeIx) (e : node_at L (node_of s) ≡ Some (node.Seq ps)) where
      pub seq_first : (p : NodeIx) → slice_get ps s.step ≡ Some p → IsRightSpot L ws goes_on r (spot_at p 0 s.start)
      seq_first p at = first_right p s.start (part_there L linked (node_of s) (node.Seq ps) s.step p e at)
          (at_part (node_of s) ps s.step right.from right.met e at (stood_of s (node.Seq ps) e right).1) right.place

      pub seq_next : (p : NodeIx) (j : ℕ) → slice_get ps s.step ≡ Some p → IsRightEnd L ws goes_on r (spot_at p 0 s.start) j →
          IsRightSpot L ws goes_on r (spot_at (node_of s) (s.step + 1) j)
      seq_next p j at end =
          let leads = first_leads p s.start j (seq_first p at) end in
          record {
            kind = node.Seq ps;
            node = e;
            place = (leads_place p s.start j leads).1;
            from = right.from;
            at = right.at;
            met = right.met;
            stood = (λ z. absurd (omega (arith, z)), one_more_part_leads L ws goes_on ps s.step p right.from s.start j at (stood_of s (node.Seq ps) e right).1 leads);
          }

      pub seq_step : s.step ≤ length ps
      seq_step = (stood_of s (node.Seq ps) e right).1.2

      pub seq_all : s.step ≡ length ps → IsRightEnd L ws goes_on r s s.start
      seq_all same = end_of s (node.Seq ps) e s.start
          (λ i place stood. all_parts_lead L ws goes_on (node_of s) ps i s.start e (subst (λ k. PartsLead L ws goes_on ps k i s.start) same stood.1))

      pub seq_last : (p : NodeIx) (j : ℕ) → slice_get ps s.step ≡ Some p → s.step + 1 ≡ length ps → IsRightEnd L ws goes_on r (spot_at p 0 s.start) j → IsRightEnd L ws goes_on r s j
      seq_last p j at same end = end_of s (node.Seq ps) e j
          (λ i place stood. all_parts_lead L ws goes_on (node_of s) ps i j e (subst (λ k. PartsLead L ws goes_on ps k i j) same
          (one_more_part_leads L ws goes_on ps s.step p i s.start j at stood.1 (first_leads p s.start j (seq_first p at) end))))

      pub seq_on : (p : NodeIx) (j k : ℕ) → slice_get ps s.step ≡ Some p → IsRightEnd L ws goes_on r (spot_at p 0 s.start) j →
          IsRightEnd L ws goes_on r (spot_at (node_of s) (s.step + 1) j) k → IsRightEnd L ws goes_on r s k
      seq_on p j k at end next = end_of s (node.Seq ps) e k
          (λ i place stood. next (node.Seq ps) i e place
          (λ z. absurd (omega (arith, z)), one_more_part_leads L ws goes_on ps s.step p i s.start j at stood.1 (first_leads p s.start j (seq_first p at) end)))

    module _ (ps : List NodeIx) (e : node_at L (node_of s) ≡ Some (node.Alt ps)) where
      pub alt_first : (p : NodeIx) → slice_get ps s.step ≡ Some p → IsRightSpot L ws goes_on r (spot_at p 0 s.start)
      alt_first p at = first_right p s.start (part_there L linked (node_of s) (node.Alt ps) s.step p e at)
          (at_alternative (node_of s) ps s.step (subst (λ k. Met L ws goes_on r (node_of s) k) (stood_of s (node.Alt ps) e right).1 right.met) e at) right.place

      pub alt_next : IsRightSpot L ws goes_on r (spot_at (node_of s) (s.step + 1) s.start)
      alt_next = record {
        kind = node.Alt ps;
        node = e;
        place = right.place;
        from = right.from;
        at = right.at;
        met = right.met;
        stood = (λ z. absurd (omega (arith, z)), (stood_of s (node.Alt ps) e right).1);
      }

      pub alt_end : (p : NodeIx) (j : ℕ) → slice_get ps s.step ≡ Some p → IsRightEnd L ws goes_on r (spot_at p 0 s.start) j → IsRightEnd L ws goes_on r s j
      alt_end p j at end = end_of s (node.Alt ps) e j
          (λ i place stood. alternative_leads L ws goes_on (node_of s) ps s.step p i j e at
          (subst (λ k. Leads L ws goes_on p k j) (sym stood.1) (first_leads p s.start j (alt_first p at) end)))

      pub alt_on : (j : ℕ) → IsRightEnd L ws goes_on r (spot_at (node_of s) (s.step + 1) s.start) j → IsRightEnd L ws goes_on r s j
      alt_on j next = end_of s (node.Alt ps) e j (λ i place stood. next (node.Alt ps) i e place (λ z. absurd (omega (arith, z)), stood.1))

    module _ (least : ℕ) (most : Option ℕ) (p : NodeIx) (e : node_at L (node_of s) ≡ Some (node.Rep least most p)) where
      pub rep_first : IsAtMost most (s.step - 1 + 1) → IsRightSpot L ws goes_on r (spot_at p 0 s.start)
      rep_first hi = first_right p s.start (part_there L linked (node_of s) (node.Rep least most p) 0 p e refl)
          (at_turn (node_of s) least most (s.step - 1) right.from right.met e (stood_of s (node.Rep least most p) e right).1 hi) right.place

      pub rep_next : (j : ℕ) → IsAtMost most (s.step - 1 + 1) → s.start ≢ j → IsRightEnd L ws goes_on r (spot_at p 0 s.start) j →
          IsRightSpot L ws goes_on r (spot_at (node_of s) (next_level least most (s.step - 1) + 1) j)
      rep_next j hi ne end =
          let leads = first_leads p s.start j (rep_first hi) end in
          record {
            kind = node.Rep least most p;
            node = e;
            place = (leads_place p s.start j leads).1;
            from = right.from;
            at = right.at;
            met = right.met;
            stood = turned right.from j (stood_of s (node.Rep least most p) e right).1 hi ne leads;
          }
        where
          turned : (i j : ℕ) → TurnsLead L ws goes_on least most p (s.step - 1) i s.start → IsAtMost most (s.step - 1 + 1) → s.start ≢ j → Leads L ws goes_on p s.start j →
              Stood L ws goes_on r (node.Rep least most p) (next_level least most (s.step - 1) + 1) i j
          turned i j h hi ne leads =
              let back : next_level least most (s.step - 1) ≡ next_level least most (s.step - 1) + 1 - 1 = omega arith in (
                λ z. absurd (omega (arith, z)),
                subst (λ k. TurnsLead L ws goes_on least most p k i j) back (one_more_turn_leads L ws goes_on least most p (s.step - 1) i s.start j h hi ne leads),
              )

      pub rep_enough : least ≤ s.step - 1 → IsRightEnd L ws goes_on r s s.start
      rep_enough lo = end_of s (node.Rep least most p) e s.start
          (λ i place stood. enough_turns_lead L ws goes_on (node_of s) least most p (s.step - 1) i s.start e place stood.1 lo)

      pub rep_filled : IsAtMost most (s.step - 1 + 1) → IsAtMost most least → IsRightEnd L ws goes_on r (spot_at p 0 s.start) s.start → IsRightEnd L ws goes_on r s s.start
      rep_filled hi bound end = end_of s (node.Rep least most p) e s.start
          (λ i place stood. filled_turns_lead L ws goes_on (node_of s) least most p (s.step - 1) i s.start e place stood.1 bound (first_leads p s.start s.start (rep_first hi) end))

      pub rep_on : (j k : ℕ) → IsAtMost most (s.step - 1 + 1) → s.start ≢ j → IsRightEnd L ws goes_on r (spot_at p 0 s.start) j →
          IsRightEnd L ws goes_on r (spot_at (node_of s) (next_level least most (s.step - 1) + 1) j) k → IsRightEnd L ws goes_on r s k
      rep_on j k hi ne end next = end_of s (node.Rep least most p) e k
          (λ i place stood.
          (let back : next_level least most (s.step - 1) ≡ next_level least most (s.step - 1) + 1 - 1 = omega arith in
          let leads = first_leads p s.start j (rep_first hi) end in
          next (node.Rep least most p) i e place (
            λ z. absurd (omega (arith, z)),
            subst (λ t. TurnsLead L ws goes_on least most p t i j) back (one_more_turn_leads L ws goes_on least most p (s.step - 1) i s.start j stood.1 hi ne leads),
          )))

    module _ (q : RuleIx) (e : node_at L (node_of s) ≡ Some (node.Ref q)) (rule : LinkedRule) (at : rule_at L q ≡ Some rule) where
      pub ref_first : rule.body.0 < length L.nodes → IsRightSpot L ws goes_on r (spot_at rule.body 0 s.start)
      ref_first lt = first_right rule.body s.start lt
          (at_reference (node_of s) q rule (subst (λ k. Met L ws goes_on r (node_of s) k) (stood_of s (node.Ref q) e right).1 right.met) e at refl) right.place

      pub ref_end : (j : ℕ) → rule.body.0 < length L.nodes → IsRightEnd L ws goes_on r (spot_at rule.body 0 s.start) j → IsRightEnd L ws goes_on r s j
      ref_end j lt end = end_of s (node.Ref q) e j
          (λ i place stood. reference_leads L ws goes_on (node_of s) q rule i j e at
          (subst (λ k. Leads L ws goes_on rule.body k j) (sym stood.1) (first_leads rule.body s.start j (ref_first lt) end)))

    pub token_end : (us : Words) (j : ℕ) → node_at L (node_of s) ≡ Some (node.Token us) → Reads ws goes_on s.start us j → IsRightEnd L ws goes_on r s j
    token_end us j e read = end_of s (node.Token us) e j
        (λ i place stood. subst (λ k. Leads L ws goes_on (node_of s) k j) (sym stood.1) (token_leads L ws goes_on (node_of s) us s.start j e read))

    pub garbage_end : (us : Words) (j : ℕ) → node_at L (node_of s) ≡ Some node.Garbage → Reads ws goes_on s.start us j → IsRightEnd L ws goes_on r s j
    garbage_end us j e read = end_of s node.Garbage e j
        (λ i place stood. subst (λ k. Leads L ws goes_on (node_of s) k j) (sym stood.1) (garbage_leads L ws goes_on (node_of s) us s.start j e read))

    pub tag_end : (tag : TagNode) → node_at L (node_of s) ≡ Some (node.Tag tag) → IsRightEnd L ws goes_on r s s.start
    tag_end tag e = end_of s (node.Tag tag) e s.start
        (λ i place stood. subst (λ k. Leads L ws goes_on (node_of s) k s.start) (sym stood.1) (tag_leads L ws goes_on (node_of s) tag s.start e right.place))

    pub null_end : node_at L (node_of s) ≡ Some node.Null → IsRightEnd L ws goes_on r s s.start
    null_end e = end_of s node.Null e s.start
        (λ i place stood. subst (λ k. Leads L ws goes_on (node_of s) k s.start) (sym stood.1) (null_leads L ws goes_on (node_of s) s.start e right.place))
