-- Which nodes can be empty, counted: a node can be where so many of those that it looks at can as it needs (`empty_by_count`),
-- and marks that are closed under this count have each node that derives no word (`closed_has`), by induction on its tree.
use Rattle.std.proofs.Common.{◌≡◌, ◌⊎◌, ℕ, zero, suc, ◌+◌, ◌<◌, ◌≤◌, Bool, true, false, cond, List, [], ◌∷◌, Option, Some, None, length, get_or, refl, sym, ap, ◌∙◌, subst, arith, inl, inr}
use Rattle.std.specs.Prelude.{slice_get, count_by}
use Rattle.std.specs.List.{All}
use Rattle.std.specs.Option.{option_map_or}
use Rattle.std.proofs.lemmas.Bool.{cases_lt, ne_eqb, lt-ltb, le-ltb}
use Rattle.std.proofs.lemmas.Option.{slice_get_within, get_or_from_slice_get}
use Rattle.std.proofs.lemmas.List.Sums.{sum_by-cons, count_by-le-length}
use Rattle.vg_base.specs.declared.numbers.NodeIx.{NodeIx}
use Rattle.vg_base.specs.declared.numbers.RuleIx.{RuleIx}
use Rattle.grammar_tree.specs.declared.linked.LinkedRule.{LinkedRule}
use Rattle.grammar_tree.specs.declared.linked.Node.{Node}
use Rattle.grammar_tree.specs.declared.linked.Node.TheVariants as node
use Rattle.grammar_tree.specs.declared.parse_tree.ParseTree.{ParseTree}
use Rattle.grammar_tree.specs.Links.{Rules, rule_at}
use Rattle.grammar_tree.specs.Derives.{Words, IsAtMost, CanBeEmpty, OfBody, Derives, by_token, by_seq, by_alt, by_rep, by_ref, by_tag, by_null, by_garbage, DerivesEach, no_part, part, DerivesTurns, no_turn, turn}
use Rattle.grammar_tree.specs.EmptyNodes.{EmptyCase}
use Rattle.grammar_tree.proofs.Lists.{nil_front, nil_back}
use Rattle.self_derivation.specs.code.Marks.{bit}
use Rattle.self_derivation.specs.code.Nodes.{node_ix, below, needs, turns_needed}

-- how many of the nodes are marked
abbrev marked : (ℕ → Bool) → List NodeIx → ℕ
marked E ps = count_by (λ p. E p.0) ps

-- each node is marked that needs no more than is marked of those that it looks at
abbrev pub Closed : Rules → (ℕ → Bool) → Type 0
Closed L E = (n : ℕ) (x : Node) → slice_get L.nodes n ≡ Some x → needs x ≤ marked E (below L x) → E n ≡ true

module _ (E : ℕ → Bool) where
  marked-cons : (p : NodeIx) (ps : List NodeIx) → marked E (p ∷ ps) ≡ bit (E p.0) + marked E ps
  marked-cons p ps = sum_by-cons (λ q. bit (E q.0)) p ps

  -- one that is marked counts
  some_marked : (ps : List NodeIx) (k : ℕ) (p : NodeIx) → slice_get ps k ≡ Some p → E p.0 ≡ true → 1 ≤ marked E ps
  some_marked [] k p at e = absurd (cc)
  some_marked (q ∷ ps) zero p at e =
      let same : q ≡ p = cc in omega (arith, marked-cons q ps, ap bit (ap (λ (r : NodeIx). E r.0) same ∙ e))
  some_marked (q ∷ ps) (suc k) p at e = omega (arith, marked-cons q ps, some_marked ps k p at e)

  -- where some count, one is marked
  marked_some : (ps : List NodeIx) → 1 ≤ marked E ps → (k : ℕ) × (p : NodeIx) × (slice_get ps k ≡ Some p) × (E p.0 ≡ true)
  marked_some [] some = absurd (omega arith)
  marked_some (q ∷ ps) some = at (E q.0) refl (λ more. marked_some ps more)
    where
      Some_of : List NodeIx → Type 0
      Some_of qs = (k : ℕ) × (p : NodeIx) × (slice_get qs k ≡ Some p) × (E p.0 ≡ true)

      at : (b : Bool) → E q.0 ≡ b → (1 ≤ marked E ps → Some_of ps) → Some_of (q ∷ ps)
      at true e later = (0, q, refl, e)
      at false e later = let h = later (omega (arith, some, marked-cons q ps, ap bit e)) in (suc h.0, h.1, h.2, h.3)

  -- where all count, each is marked
  all_marked : (ps : List NodeIx) → length ps ≤ marked E ps → All (λ p. E p.0 ≡ true) ps
  all_marked [] all = λ k d lt. absurd (omega arith)
  all_marked (q ∷ ps) all = at (E q.0) refl (λ more. all_marked ps more)
    where
      each : E q.0 ≡ true → All (λ p. E p.0 ≡ true) ps → (k : ℕ) (d : NodeIx) → k < length (q ∷ ps) → E (get_or (q ∷ ps) k d).0 ≡ true
      each e more zero d lt = e
      each e more (suc k) d lt = more k d (omega arith)

      at : (b : Bool) → E q.0 ≡ b → (length ps ≤ marked E ps → All (λ p. E p.0 ≡ true) ps) → All (λ p. E p.0 ≡ true) (q ∷ ps)
      at false e later = absurd (omega (arith, all, marked-cons q ps, ap bit e, count_by-le-length (λ (p : NodeIx). E p.0) ps))
      at true e later = each e (later (omega (arith, all, marked-cons q ps, ap bit e)))

  one_marked : (p : NodeIx) → 1 ≤ marked E (p ∷ []) → E p.0 ≡ true
  one_marked p some = at (E p.0) refl
    where
      at : (b : Bool) → E p.0 ≡ b → E p.0 ≡ true
      at true e = e
      at false e = absurd (omega (arith, some, marked-cons p [], ap bit e))

-- ---- turns

turn_needed : (least : ℕ) → 0 < least → turns_needed least None ≡ 1
turn_needed least some = ap (λ b. cond b 1 0) (lt-ltb 0 least some)

no_turn_needed : (least : ℕ) → least ≤ 0 → turns_needed least None ≡ 0
no_turn_needed least none = ap (λ b. cond b 1 0) (le-ltb 0 least none)

most_below : (least most : ℕ) → most < least → turns_needed least (Some most) ≡ 2
most_below least most above = ap (λ b. cond b 2 (turns_needed least None)) (lt-ltb most least above)

most_within : (least most : ℕ) → least ≤ most → turns_needed least (Some most) ≡ turns_needed least None
most_within least most within = ap (λ b. cond b 2 (turns_needed least None)) (le-ltb most least within)

-- ---- by their count

module _ (L : Rules) (E : ℕ → Bool) (sound : (n : ℕ) → E n ≡ true → CanBeEmpty L (node_ix n)) where
  no_words : (words : List (List ℕ)) → needs (node.Token words) ≤ 0 → words ≡ []
  no_words [] h = refl
  no_words (w ∷ ws) h = absurd (omega (arith, h, more))
    where
      more : needs (node.Token (w ∷ ws)) ≡ 1
      more = ap (λ b. cond b 0 1) (ne_eqb (length (w ∷ ws)) 0 (λ e. absurd (omega arith)))

  rep_empty : (least : ℕ) (most : Option ℕ) (p : NodeIx) → turns_needed least most ≤ marked E (p ∷ []) → IsAtMost most least × ((least ≡ 0) ⊎ CanBeEmpty L p)
  rep_empty zero None p enough = (tt, inl refl)
  rep_empty (suc least) None p enough = (tt, inr (sound p.0 (one_marked E p (omega (arith, enough, turn_needed (suc least) (omega arith))))))
  rep_empty least (Some most) p enough = at (cases_lt most least) (cases_lt 0 least)
    where
      at : (most < least) ⊎ (least ≤ most) → (0 < least) ⊎ (least ≤ 0) → (least ≤ most) × ((least ≡ 0) ⊎ CanBeEmpty L p)
      at (inl above) some = absurd (omega (arith, enough, most_below least most above, count_by-le-length (λ (q : NodeIx). E q.0) (p ∷ [])))
      at (inr within) (inr none) = (within, inl (omega arith))
      at (inr within) (inl some) = (within, inr (sound p.0 (one_marked E p (omega (arith, enough, most_within least most within, turn_needed least some)))))

  body_empty : (r : RuleIx) (o : Option LinkedRule) → rule_at L r ≡ o → 1 ≤ marked E (option_map_or (λ (rule : LinkedRule). rule.body ∷ []) o []) → OfBody L r (λ n. CanBeEmpty L n)
  body_empty r None is some = absurd (omega arith)
  body_empty r (Some rule) is some = (rule, is, sound rule.body.0 (one_marked E rule.body some))

  pub empty_by_count : (x : Node) → needs x ≤ marked E (below L x) → EmptyCase L x
  empty_by_count (node.Token words) enough = no_words words enough
  empty_by_count (node.Seq ps) enough = let all = all_marked E ps enough in λ k d lt. sound (get_or ps k d).0 (all k d lt)
  empty_by_count (node.Alt ps) enough =
      let h = marked_some E ps enough in
      (h.0, h.1, slice_get_within ps h.0 h.1 h.2, get_or_from_slice_get ps h.0 h.1 h.1 h.2, sound h.1.0 h.3)
  empty_by_count (node.Rep least most p) enough = rep_empty least most p enough
  empty_by_count (node.Ref r) enough = body_empty r (rule_at L r) refl enough
  empty_by_count (node.Tag tag) enough = tt
  empty_by_count node.Null enough = tt
  empty_by_count node.Void enough = absurd (omega arith)
  empty_by_count node.Garbage enough = tt

-- ---- what is closed

module _ (L : Rules) (E : ℕ → Bool) (closed : Closed L E) where
  turns_enough : (least : ℕ) (p : NodeIx) (turns : ℕ) → least ≤ turns → (0 < turns → E p.0 ≡ true) → turns_needed least None ≤ marked E (p ∷ [])
  turns_enough least p turns lo some = at (cases_lt 0 least)
    where
      at : (0 < least) ⊎ (least ≤ 0) → turns_needed least None ≤ marked E (p ∷ [])
      at (inl needs_one) = omega (arith, turn_needed least needs_one, some_marked E (p ∷ []) 0 p refl (some (omega arith)))
      at (inr none) = omega (arith, no_turn_needed least none)

  rep_enough : (least : ℕ) (most : Option ℕ) (p : NodeIx) (turns : ℕ) → least ≤ turns → IsAtMost most turns → (0 < turns → E p.0 ≡ true) → turns_needed least most ≤ marked E (p ∷ [])
  rep_enough least None p turns lo hi some = turns_enough least p turns lo some
  rep_enough least (Some most) p turns lo hi some = omega (arith, most_within least most (omega (arith, lo, hi)), turns_enough least p turns lo some)

  mutual
    pub closed_has : (n : NodeIx) (ws : Words) (t : ParseTree) → ws ≡ [] → Derives L n ws t → E n.0 ≡ true
    closed_has n ws t e (by_token is q) = closed n.0 (node.Token ws) is (omega (arith, ap (λ us. needs (node.Token us)) e))
    closed_has n ws t e (by_seq ps ts is q ds) = closed n.0 (node.Seq ps) is (each ps ws ts e ds)
    closed_has n ws t e (by_alt ps k p u is g q d) = closed n.0 (node.Alt ps) is (some_marked E ps k p g (closed_has p ws u e d))
    closed_has n ws t e (by_rep least most p ts is q lo hi ds) =
        closed n.0 (node.Rep least most p) is (rep_enough least most p (length ts) lo hi (λ some. turns p least ws ts e some ds))
    closed_has n ws t e (by_ref r rule u is g q d) =
        closed n.0 (node.Ref r) is
        (subst (λ (o : Option LinkedRule). 1 ≤ marked E (option_map_or (λ (linked : LinkedRule). linked.body ∷ []) o [])) (sym g)
        (some_marked E (rule.body ∷ []) 0 rule.body refl (closed_has rule.body ws u e d)))
    closed_has n ws t e (by_tag tag is z q) = closed n.0 (node.Tag tag) is (omega arith)
    closed_has n ws t e (by_null is z q) = closed n.0 node.Null is (omega arith)
    closed_has n ws t e (by_garbage is q) = closed n.0 node.Garbage is (omega arith)

    each : (ps : List NodeIx) (ws : Words) (ts : List ParseTree) → ws ≡ [] → DerivesEach L ps ws ts → length ps ≤ marked E ps
    each _ ws _ e (no_part z) = omega arith
    each _ ws _ e (part {p = p} {ps = ps} {t = t} {ts = ts} front rest z d ds) =
        omega (arith, marked-cons E p ps, ap bit (closed_has p front t (nil_front front rest (sym z ∙ e)) d), each ps rest ts (nil_back front rest (sym z ∙ e)) ds)

    turns : (p : NodeIx) (free : ℕ) (ws : Words) (ts : List ParseTree) → ws ≡ [] → 0 < length ts → DerivesTurns L p free ws ts → E p.0 ≡ true
    turns p free ws _ e some (no_turn z) = absurd (omega arith)
    turns p free ws _ e some (turn {t = t} front rest z full d ds) = closed_has p front t (nil_front front rest (sym z ∙ e)) d
