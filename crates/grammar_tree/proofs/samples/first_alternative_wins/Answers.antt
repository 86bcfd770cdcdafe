use Rattle.std.proofs.Common.{ℕ, zero, suc, ◌≡◌, List, [], ◌∷◌, Some, map, refl, sym, ap, ◌∙◌, subst, inl, inr}
use Rattle.std.specs.Prelude.{slice_get}
use Rattle.std.specs.List.Sorted.{IsStrictlySortedBy}
use Rattle.std.specs.declared.cmp.Ordering.TheVariants.{Less}
use Rattle.grammar_tree.specs.declared.expansion.TagNode.{TagNode}
use Rattle.vg_base.specs.declared.numbers.NodeIx.{NodeIx}
use Rattle.grammar_tree.specs.declared.linked.Node.TheVariants as node
use Rattle.grammar_tree.specs.declared.parse_tree.ParseTree.{ParseTree}
use Rattle.grammar_tree.specs.declared.parse_tree.ParseTree.TheVariants as tree
use Rattle.grammar_tree.specs.Derives.{Words, Derives, by_token, by_seq, by_alt, by_tag, DerivesEach, no_part, part}
use Rattle.grammar_tree.specs.Choices.{choices}
use Rattle.grammar_tree.specs.Firsts.{choice_cmp, InOrder}
use Rattle.grammar_tree.specs.Samples.{at, named, xs, token_x, alternatives}
use Rattle.grammar_tree.proofs.Lists.{AnyByRecursion, any_if_contained, contained_if_any}
use Rattle.grammar_tree.proofs.Sorting.{head_first}
use Rattle.grammar_tree.proofs.Views.{at_node, chosen_alt}
use Rattle.grammar_tree.proofs.samples.first_alternative_wins.Goals as goal

abbrev first : ParseTree
first = tree.Alt 0 token_x

abbrev tagged : ParseTree
tagged = tree.Seq (token_x ∷ (tree.Tag (at 4) ∷ []))

abbrev second : ParseTree
second = tree.Alt 1 tagged

module _ (tag : TagNode) where
  derives_first : Derives (alternatives tag) (at 0) (xs 1) first
  derives_first = by_alt (at 1 ∷ (at 2 ∷ [])) 0 (at 1) token_x refl refl refl (by_token refl refl)

  derives_second : Derives (alternatives tag) (at 0) (xs 1) second
  derives_second =
      by_alt (at 1 ∷ (at 2 ∷ [])) 1 (at 2) tagged refl refl refl
      (by_seq (at 3 ∷ (at 4 ∷ [])) _ refl refl (part (xs 1) [] refl (by_token refl refl) (part [] [] refl (by_tag tag refl refl refl) (no_part refl))))

  is_tagged : (ws : Words) (ts : List ParseTree) → DerivesEach (alternatives tag) (at 3 ∷ (at 4 ∷ [])) ws ts → tree.Seq ts ≡ tagged
  is_tagged ws _ (part {t = t} f r z d (part {t = u} f' r' z' d' (no_part z''))) =
      let k = at_node (alternatives tag) (at 3) f t (node.Token (xs 1)) refl d in
      let k' = at_node (alternatives tag) (at 4) f' u (node.Tag tag) refl d' in
      ap (λ v. tree.Seq (v ∷ (u ∷ []))) (k.1 ∙ ap tree.Token k.0) ∙ ap (λ v. tree.Seq (token_x ∷ (v ∷ []))) k'.1

  taken : (k : ℕ) (p : NodeIx) (u t : ParseTree) → slice_get (at 1 ∷ (at 2 ∷ [])) k ≡ Some p → t ≡ tree.Alt k u → Derives (alternatives tag) p (xs 1) u → AnyByRecursion (λ v. v ≡ t) (first ∷ (second ∷ []))
  taken zero p u t g q d =
      let same : at 1 ≡ p = cc in
      let k = at_node (alternatives tag) (at 1) (xs 1) u (node.Token (xs 1)) refl (subst (λ m. Derives (alternatives tag) m (xs 1) u) (sym same) d) in
      inl (sym (q ∙ ap (tree.Alt 0) k.1))
  taken (suc zero) p u t g q d =
      let same : at 2 ≡ p = cc in
      let k = at_node (alternatives tag) (at 2) (xs 1) u (node.Seq (at 3 ∷ (at 4 ∷ []))) refl (subst (λ m. Derives (alternatives tag) m (xs 1) u) (sym same) d) in
      inr (inl (sym (q ∙ ap (tree.Alt 1) (k.1 ∙ is_tagged (xs 1) k.0 k.2))))
  taken (suc (suc k)) p u t g q d = absurd (cc)

  one_of_two : (t : ParseTree) → Derives (alternatives tag) (at 0) (xs 1) t → AnyByRecursion (λ v. v ≡ t) (first ∷ (second ∷ []))
  one_of_two t d =
      let k = at_node (alternatives tag) (at 0) (xs 1) t (node.Alt (at 1 ∷ (at 2 ∷ []))) refl d in
      taken k.0 k.1 k.2 t k.3 k.4 k.5

  each_derives : (t : ParseTree) → AnyByRecursion (λ v. v ≡ t) (first ∷ (second ∷ [])) → Derives (alternatives tag) (at 0) (xs 1) t
  each_derives t (inl e) = subst (Derives (alternatives tag) (at 0) (xs 1)) e derives_first
  each_derives t (inr (inl e)) = subst (Derives (alternatives tag) (at 0) (xs 1)) e derives_second
  each_derives t (inr (inr none)) = absurd none

  first_before : choice_cmp (choices (alternatives tag) (at 0) first) (choices (alternatives tag) (at 0) second) ≡ Less
  first_before =
      ap (λ c. choice_cmp c (choices (alternatives tag) (at 0) second)) (chosen_alt (alternatives tag) (at 0) first (at 1 ∷ (at 2 ∷ [])) 0 (at 1) token_x refl refl refl)
      ∙ ap (choice_cmp (0 ∷ choices (alternatives tag) (at 1) token_x)) (chosen_alt (alternatives tag) (at 0) second (at 1 ∷ (at 2 ∷ [])) 1 (at 2) tagged refl refl refl)

  rising : IsStrictlySortedBy choice_cmp (map (choices (alternatives tag) (at 0)) (first ∷ (second ∷ [])))
  unfolding IsStrictlySortedBy
  rising = ((first_before, tt), (tt, tt))

  in_order : InOrder (alternatives tag) (at 0) (xs 1) (first ∷ (second ∷ []))
  in_order = record {
    trees = λ t. (λ h. each_derives t (any_if_contained (first ∷ (second ∷ [])) t h), λ d. contained_if_any (first ∷ (second ∷ [])) t (one_of_two t d));
    rising = rising;
  }

pub returns-clause-first : goal.returns-clause-first
returns-clause-first c tag = (named 114 0, refl, head_first (alternatives tag) (at 0) (xs 1) first (second ∷ []) (in_order tag))

pub returns-clause-both : goal.returns-clause-both
returns-clause-both c tag = (named 114 0, refl, (first ∷ (second ∷ []), in_order tag, refl))
