use Rattle.std.proofs.Common.{ℕ, zero, suc, ◌≡◌, ◌≢◌, ◌⊎◌, List, [], ◌∷◌, ◌++◌, Some, length, refl, sym, ap, ◌∙◌, subst, inl, inr, arith}
use Rattle.std.specs.Prelude.{codes}
use Rattle.std.specs.List.{Contains}
use Rattle.std.specs.declared.cmp.Ordering.TheVariants.{Less, Equal, Greater}
use Rattle.std.proofs.lemmas.List.{append-nil}
use Rattle.vg_base.specs.declared.numbers.NodeIx.{NodeIx}
use Rattle.vg_base.specs.declared.numbers.RuleIx.{RuleIx}
use Rattle.grammar_tree.specs.declared.expansion.TagNode.{TagNode}
use Rattle.grammar_tree.specs.declared.linked.LinkedRule.{LinkedRule}
use Rattle.grammar_tree.specs.declared.linked.Node.TheVariants as node
use Rattle.grammar_tree.specs.declared.parse_tree.ParseTree.{ParseTree}
use Rattle.grammar_tree.specs.declared.parse_tree.ParseTree.TheVariants as tree
use Rattle.grammar_tree.specs.Links.{Rules, node_at, rule_at}
use Rattle.grammar_tree.specs.Derives.{Words, Derives, by_token, by_seq, by_ref, by_tag, by_garbage, DerivesEach, no_part, part}
use Rattle.grammar_tree.specs.Choices.{choices, garbage_chosen}
use Rattle.grammar_tree.specs.Firsts.{choice_cmp, First}
use Rattle.grammar_tree.specs.Samples.{at, rule, named, stop, two_garbages, divided}
use Rattle.grammar_tree.proofs.Orders.{Differs, Differs-Less, same-Equal}
use Rattle.grammar_tree.proofs.Views.{at_node, chosen_seq, chosen_token, chosen_ref, chosen_tag, chosen_garbage}
use Rattle.grammar_tree.proofs.samples.garbage_takes_few_words.Goals as goal

-- a rule of one $GARBAGE
module _ (L : Rules) (n body : NodeIx) (r : RuleIx) (named : LinkedRule) where
  module _ (is_ref : node_at L n ≡ Some (node.Ref r)) (is_rule : rule_at L r ≡ Some named) (is_body : node_at L named.body ≡ Some node.Garbage) where
    takes : (ws : Words) → Derives L n ws (tree.Rule r (tree.Garbage ws))
    takes ws = by_ref r named (tree.Garbage ws) is_ref is_rule refl (by_garbage is_body refl)

    takes_all : (ws : Words) (t : ParseTree) → Derives L n ws t → t ≡ tree.Rule r (tree.Garbage ws)
    takes_all ws t d =
        let c = at_node L n ws t (node.Ref r) is_ref d in
        let same : c.0 ≡ named = cc (sym c.2 ∙ is_rule) in
        let inner = at_node L named.body ws c.1 node.Garbage is_body (subst (λ (x : LinkedRule). Derives L x.body ws c.1) same c.4) in
        c.3 ∙ ap (tree.Rule r) inner

    chooses : (ws : Words) → choices L n (tree.Rule r (tree.Garbage ws)) ≡ garbage_chosen ws
    chooses ws =
        chosen_ref L n (tree.Rule r (tree.Garbage ws)) r named (tree.Garbage ws) is_ref is_rule refl
        ∙ chosen_garbage L named.body (tree.Garbage ws) ws is_body refl

abbrev all : List NodeIx
all = at 1 ∷ (at 2 ∷ (at 3 ∷ (at 4 ∷ [])))

-- of two divisions the first one at the first `stop` is that one, or chooses less at a place
compare : (before after b a : Words) → (Contains before stop → ⊥) → before ++ stop ∷ after ≡ b ++ stop ∷ a →
    ((before ≡ b) × (after ≡ a)) ⊎ ((r1 r2 : List ℕ) → Differs (garbage_chosen before ++ r1) (garbage_chosen b ++ r2))
compare [] after [] a none e = inl (refl, cc)
compare [] after (w ∷ b) a none e = inr (λ r1 r2. inl (omega arith))
compare (v ∷ before) after [] a none e = let same : v ≡ stop = cc in absurd (none (0, omega arith, same))
compare (v ∷ before) after (w ∷ b) a none e =
    let first : v ≡ w = cc in
    let rest : before ++ stop ∷ after ≡ b ++ stop ∷ a = cc in
    further first (compare before after b a (λ h. none (suc h.0, omega (arith, h.1), h.2)) rest)
  where
    further : v ≡ w → ((before ≡ b) × (after ≡ a)) ⊎ ((r1 r2 : List ℕ) → Differs (garbage_chosen before ++ r1) (garbage_chosen b ++ r2)) →
        ((v ∷ before ≡ w ∷ b) × (after ≡ a)) ⊎ ((r1 r2 : List ℕ) → Differs (garbage_chosen (v ∷ before) ++ r1) (garbage_chosen (w ∷ b) ++ r2))
    further first (inl h) = inl (ap (λ x. x ∷ before) first ∙ ap (λ xs. w ∷ xs) h.0, h.1)
    further first (inr d) = inr (λ r1 r2. inr (refl, d r1 r2))

module _ (tag : TagNode) where
  abbrev G : Rules
  G = two_garbages tag

  derives_divided : (before after : Words) → Derives G (at 0) (before ++ stop ∷ after) (divided before after)
  derives_divided before after =
      by_seq all _ refl refl
      (part before (stop ∷ after) refl (takes G (at 1) (at 5) (rule 1) (named 103 5) refl refl refl before)
      (part (stop ∷ []) after refl (by_token refl refl)
      (part after [] (sym (append-nil after)) (takes G (at 3) (at 6) (rule 2) (named 104 6) refl refl refl after)
      (part [] [] refl (by_tag tag refl refl refl) (no_part refl)))))

  -- each tree divides the words at a `stop`
  is_divided : (ws : Words) (ts : List ParseTree) → DerivesEach G all ws ts → (b : Words) × (a : Words) × (tree.Seq ts ≡ divided b a) × (ws ≡ b ++ stop ∷ a)
  is_divided ws _ (part {t = t} f r z d (part {t = t'} f' r' z' d' (part {t = t''} f'' r'' z'' d'' (part {t = t3} f3 r3 z3 d3 (no_part z4))))) =
      let word = at_node G (at 2) f' t' (node.Token (stop ∷ [])) refl d' in
      let end = at_node G (at 4) f3 t3 (node.Tag tag) refl d3 in
      let none : r'' ≡ [] = z3 ∙ ap (λ w. w ++ r3) end.0 ∙ z4 in
      let behind : r' ≡ f'' = z'' ∙ ap (λ w. f'' ++ w) none ∙ append-nil f'' in (
        f,
        f'',
        ap (λ x. tree.Seq (x ∷ (t' ∷ (t'' ∷ (t3 ∷ []))))) (takes_all G (at 1) (at 5) (rule 1) (named 103 5) refl refl refl f t d)
            ∙ ap (λ x. tree.Seq (tree.Rule (rule 1) (tree.Garbage f) ∷ (x ∷ (t'' ∷ (t3 ∷ []))))) (word.1 ∙ ap tree.Token word.0)
            ∙ ap (λ x. tree.Seq (tree.Rule (rule 1) (tree.Garbage f) ∷ (tree.Token (stop ∷ []) ∷ (x ∷ (t3 ∷ []))))) (takes_all G (at 3) (at 6) (rule 2) (named 104 6) refl refl refl f'' t'' d'')
            ∙ ap (λ x. tree.Seq (tree.Rule (rule 1) (tree.Garbage f) ∷ (tree.Token (stop ∷ []) ∷ (tree.Rule (rule 2) (tree.Garbage f'') ∷ (x ∷ []))))) end.1,
        z ∙ ap (λ w. f ++ w) (z' ∙ ap (λ w. w ++ r') word.0 ∙ ap (λ w. (stop ∷ []) ++ w) behind),
      )

  -- what a division chooses
  abbrev chosen_after : Words → List ℕ
  chosen_after a = [] ++ (garbage_chosen a ++ ([] ++ []))

  chooses_divided : (b a : Words) → choices G (at 0) (divided b a) ≡ garbage_chosen b ++ chosen_after a
  chooses_divided b a =
      let third = tree.Rule (rule 2) (tree.Garbage a) in
      chosen_seq G (at 0) (divided b a) all _ refl refl
      ∙ ap (λ c. c ++ (choices G (at 2) (tree.Token (stop ∷ [])) ++ (choices G (at 3) third ++ (choices G (at 4) (tree.Tag (at 4)) ++ [])))) (chooses G (at 1) (at 5) (rule 1) (named 103 5) refl refl refl b)
      ∙ ap (λ c. garbage_chosen b ++ (c ++ (choices G (at 3) third ++ (choices G (at 4) (tree.Tag (at 4)) ++ [])))) (chosen_token G (at 2) (tree.Token (stop ∷ [])) (stop ∷ []) (stop ∷ []) refl refl)
      ∙ ap (λ c. garbage_chosen b ++ ([] ++ (c ++ (choices G (at 4) (tree.Tag (at 4)) ++ [])))) (chooses G (at 3) (at 6) (rule 2) (named 104 6) refl refl refl a)
      ∙ ap (λ c. garbage_chosen b ++ ([] ++ (garbage_chosen a ++ (c ++ [])))) (chosen_tag G (at 4) (tree.Tag (at 4)) tag refl refl)

  not_after : (before after b a : Words) → ((before ≡ b) × (after ≡ a)) ⊎ ((r1 r2 : List ℕ) → Differs (garbage_chosen before ++ r1) (garbage_chosen b ++ r2)) →
      choice_cmp (choices G (at 0) (divided before after)) (choices G (at 0) (divided b a)) ≢ Greater
  not_after before after b a (inl h) g =
      let same : divided before after ≡ divided b a = ap (λ w. divided w after) h.0 ∙ ap (divided b) h.1 in
      let q : Equal ≡ Greater = sym (same-Equal _ _ (ap (choices G (at 0)) same)) ∙ g in cc
  not_after before after b a (inr d) g =
      let less = Differs-Less (garbage_chosen before ++ chosen_after after) (garbage_chosen b ++ chosen_after a) (d (chosen_after after) (chosen_after a)) in
      let q : Less ≡ Greater =
      sym less ∙ ap (λ c. choice_cmp c (garbage_chosen b ++ chosen_after a)) (sym (chooses_divided before after))
      ∙ ap (choice_cmp (choices G (at 0) (divided before after))) (sym (chooses_divided b a)) ∙ g in
      cc

  first_divided : (before after : Words) → (Contains before stop → ⊥) → First G (at 0) (before ++ stop ∷ after) (divided before after)
  first_divided before after none = record {
    derives = derives_divided before after;
    least = λ u d.
        let c = at_node G (at 0) (before ++ stop ∷ after) u (node.Seq all) refl d in
        let k = is_divided (before ++ stop ∷ after) c.0 c.2 in
        subst (λ v. choice_cmp (choices G (at 0) (divided before after)) (choices G (at 0) v) ≢ Greater) (sym (c.1 ∙ k.2))
        (not_after before after k.0 k.1 (compare before after k.0 k.1 none k.3));
  }

not_stop : Contains (codes "a" ∷ []) stop → ⊥
not_stop (zero, lt, e) = omega (arith, ap length e)
not_stop (suc k, lt, e) = omega (arith, lt)

pub returns-clause-first : goal.returns-clause-first
returns-clause-first c before after none tag = (named 114 0, refl, first_divided tag before after none)

pub returns-clause-behind : goal.returns-clause-behind
returns-clause-behind c tag = (named 114 0, refl, first_divided tag (codes "a" ∷ []) (stop ∷ []) not_stop)

pub returns-clause-ahead : goal.returns-clause-ahead
returns-clause-ahead c tag = (named 114 0, refl, first_divided tag [] (codes "a" ∷ (stop ∷ [])) (λ h. omega (arith, h.1)))
