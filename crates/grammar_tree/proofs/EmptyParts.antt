-- Nodes that derive no word, and which of their parts then derive none.
use Rattle.std.proofs.Common.{ℕ, zero, suc, ◌-◌, ◌<◌, ◌≤◌, ◌≡◌, ◌⊎◌, inl, inr, List, [], ◌∷◌, Option, Some, length, get_or, replicate, refl, sym, ap, ◌∙◌, subst, arith}
use Rattle.std.specs.Prelude.{slice_get}
use Rattle.std.specs.List.{All}
use Rattle.std.proofs.lemmas.Bool.{cases_order}
use Rattle.std.proofs.lemmas.List.{length-replicate}
use Rattle.std.proofs.lemmas.Option.{slice_get-get_or, slice_get_within, slice_get_read, get_or_from_slice_get}
use Rattle.vg_base.specs.declared.numbers.NodeIx.{NodeIx}
use Rattle.grammar_tree.specs.declared.linked.Node.{Node}
use Rattle.grammar_tree.specs.declared.linked.Node.TheVariants as node
use Rattle.grammar_tree.specs.declared.parse_tree.ParseTree.{ParseTree}
use Rattle.grammar_tree.specs.declared.parse_tree.ParseTree.TheVariants as tree
use Rattle.grammar_tree.specs.Links.{Rules, node_at}
use Rattle.grammar_tree.specs.Derives.{Words, IsAtMost, CanBeEmpty, Derives, by_token, by_seq, by_alt, by_rep, by_ref, by_tag, by_null, by_garbage, DerivesEach, no_part, part, DerivesTurns, no_turn, turn}
use Rattle.grammar_tree.specs.EmptyNodes.{EmptyCase, EmptyByKind}
use Rattle.grammar_tree.proofs.Decode.{fewer}
use Rattle.grammar_tree.proofs.Lists.{nil_front, nil_back}
use Rattle.grammar_tree.proofs.Views.{at_node}

module _ (L : Rules) where
  -- the parts that derive no word can each be empty
  pub each_empty : (ps : List NodeIx) (ws : Words) (ts : List ParseTree) → ws ≡ [] → DerivesEach L ps ws ts → (j : ℕ) (p : NodeIx) → slice_get ps j ≡ Some p → CanBeEmpty L p
  each_empty _ ws _ e (no_part z) j p g = absurd (cc)
  each_empty _ ws _ e (part {p = m} {t = t} u v z d ds) zero p g =
      let same : m ≡ p = cc in (t, subst (λ x. Derives L x [] t) same (subst (λ w. Derives L m w t) (nil_front u v (sym z ∙ e)) d))
  each_empty _ ws _ e (part {ps = ps} {ts = ts} u v z d ds) (suc j) p g = each_empty ps v ts (nil_back u v (sym z ∙ e)) ds j p g

  pub turns_empty : (p : NodeIx) (free : ℕ) (ws : Words) (ts : List ParseTree) → ws ≡ [] → 0 < length ts → DerivesTurns L p free ws ts → CanBeEmpty L p
  turns_empty p free ws _ e pos (no_turn z) = absurd (omega arith)
  turns_empty p free ws _ e pos (turn {t = t} u v z full d ds) = (t, subst (λ w. Derives L p w t) (nil_front u v (sym z ∙ e)) d)

  empty_each : (ps : List NodeIx) → All (λ p. CanBeEmpty L p) ps → (ts : List ParseTree) × DerivesEach L ps [] ts
  empty_each [] all = ([], no_part refl)
  empty_each (p ∷ ps) all =
      let one = all 0 p (omega arith) in
      let more = empty_each ps (λ k d lt. all (suc k) d (omega arith)) in
      (one.0 ∷ more.0, part [] [] refl one.1 more.1)

  -- as many empty turns as may be empty
  empty_turns : (p : NodeIx) (t : ParseTree) → Derives L p [] t → (free : ℕ) → DerivesTurns L p free [] (replicate free t)
  empty_turns p t d zero = no_turn refl
  empty_turns p t d (suc free) =
      let e : free ≡ suc free - 1 = omega arith in
      turn [] [] refl (λ none. absurd (omega arith)) d (subst (λ k. DerivesTurns L p k [] (replicate free t)) e (empty_turns p t d free))

  module _ (n : NodeIx) where
    some_turns : (p : NodeIx) (least : ℕ) (ts : List ParseTree) → least ≤ length ts → DerivesTurns L p least [] ts → (least ≡ 0) ⊎ CanBeEmpty L p
    some_turns p least ts lo d = at (cases_order least 0)
      where
        at : (least ≡ 0) ⊎ ((least < 0) ⊎ (0 < least)) → (least ≡ 0) ⊎ CanBeEmpty L p
        at (inl none) = inl none
        at (inr (inl never)) = absurd (omega arith)
        at (inr (inr some)) = inr (turns_empty p least [] ts refl (omega arith) d)

    no_turns_needed : (least : ℕ) (most : Option ℕ) (p : NodeIx) → node_at L n ≡ Some (node.Rep least most p) → IsAtMost most least → least ≡ 0 → CanBeEmpty L n
    no_turns_needed least most p e hi none = (tree.Rep [], by_rep least most p [] e refl (omega arith) (subst (IsAtMost most) none hi) (no_turn refl))

    enough_empty : (least : ℕ) (most : Option ℕ) (p : NodeIx) → node_at L n ≡ Some (node.Rep least most p) → IsAtMost most least → (t : ParseTree) → Derives L p [] t → CanBeEmpty L n
    enough_empty least most p e hi t d =
        let many : length (replicate least t) ≡ least = length-replicate least t in (
          tree.Rep (replicate least t),
          by_rep least most p (replicate least t) e refl (omega arith) (subst (IsAtMost most) (sym many) hi) (empty_turns p t d least),
        )

    rep_empty : (least : ℕ) (most : Option ℕ) (p : NodeIx) → node_at L n ≡ Some (node.Rep least most p) → IsAtMost most least → (least ≡ 0) ⊎ CanBeEmpty L p → CanBeEmpty L n
    rep_empty least most p e hi (inl none) = no_turns_needed least most p e hi none
    rep_empty least most p e hi (inr c) = enough_empty least most p e hi c.0 c.1

    to_case : (x : Node) → node_at L n ≡ Some x → (t : ParseTree) → Derives L n [] t → EmptyCase L x
    to_case (node.Token words) e t d = sym (at_node L n [] t (node.Token words) e d).0
    to_case (node.Seq ps) e t d =
        let c = at_node L n [] t (node.Seq ps) e d in
        λ k p lt. each_empty ps [] c.0 refl c.2 k (get_or ps k p) (slice_get-get_or ps k p lt)
    to_case (node.Alt ps) e t d =
        let c = at_node L n [] t (node.Alt ps) e d in
        (c.0, c.1, slice_get_within ps c.0 c.1 c.3, get_or_from_slice_get ps c.0 c.1 c.1 c.3, (c.2, c.5))
    to_case (node.Rep least most p) e t d =
        let c = at_node L n [] t (node.Rep least most p) e d in
        (fewer most least (length c.0) c.2 c.3, some_turns p least c.0 c.2 c.4)
    to_case (node.Ref r) e t d = let c = at_node L n [] t (node.Ref r) e d in (c.0, c.2, (c.1, c.4))
    to_case (node.Tag tag) e t d = tt
    to_case node.Null e t d = tt
    to_case node.Void e t d = at_node L n [] t node.Void e d
    to_case node.Garbage e t d = tt

    from_case : (x : Node) → node_at L n ≡ Some x → EmptyCase L x → CanBeEmpty L n
    from_case (node.Token words) e none = (tree.Token [], by_token (e ∙ ap (λ ws. Some (node.Token ws)) none) refl)
    from_case (node.Seq ps) e all = let c = empty_each ps all in (tree.Seq c.0, by_seq ps c.0 e refl c.1)
    from_case (node.Alt ps) e c =
        (tree.Alt c.0 c.4.0, by_alt ps c.0 c.1 c.4.0 e (slice_get_read ps (length ps) c.0 c.1 refl c.2 (sym c.3)) refl c.4.1)
    from_case (node.Rep least most p) e c = rep_empty least most p e c.0 c.1
    from_case (node.Ref r) e c = (tree.Rule r c.2.0, by_ref r c.0 c.2.0 e c.1 refl c.2.1)
    from_case (node.Tag tag) e c = (tree.Tag n, by_tag tag e refl refl)
    from_case node.Null e c = (tree.Null, by_null e refl refl)
    from_case node.Void e c = absurd c
    from_case node.Garbage e c = (tree.Garbage [], by_garbage e refl)

pub empty_by_kind : EmptyByKind
empty_by_kind L n x e = (λ c. to_case L n x e c.0 c.1, from_case L n x e)
