use Rattle.std.proofs.Common.{ℕ, zero, suc, ◌+◌, ◌≡◌, ◌≢◌, List, [], ◌∷◌, ◌++◌, Some, None, length, refl, sym, ap, ◌∙◌, subst, arith, length-append}
use Rattle.std.specs.Prelude.{slice_get}
use Rattle.std.proofs.lemmas.List.{append_cancel_right, replicate-append-replicate}
use Rattle.vg_base.specs.declared.numbers.NodeIx.{NodeIx}
use Rattle.vg_base.specs.declared.numbers.RuleIx.{RuleIx}
use Rattle.grammar_tree.specs.declared.linked.LinkedRule.{LinkedRule}
use Rattle.grammar_tree.specs.declared.linked.Node.TheVariants as node
use Rattle.grammar_tree.specs.declared.parse_tree.ParseTree.{ParseTree}
use Rattle.grammar_tree.specs.declared.parse_tree.ParseTree.TheVariants as tree
use Rattle.grammar_tree.specs.Derives.{Words, CanBeEmpty, HasTree, Derives, by_token, by_seq, by_alt, by_ref, DerivesEach, no_part, part}
use Rattle.grammar_tree.specs.Alone.{Alone, Leads, LeadsThrough}
use Rattle.grammar_tree.specs.Samples.{at, rule, named, xs, token_x, left_recursion, left_tree}
use Rattle.grammar_tree.specs.Firsts.{First}
use Rattle.grammar_tree.proofs.AloneViews.{alone_view}
use Rattle.grammar_tree.proofs.Inversions.{at_body, only_first}
use Rattle.grammar_tree.proofs.Views.{at_node}
use Rattle.grammar_tree.proofs.samples.left_recursion_ends.Goals as goal

-- ---- which words have which tree

-- the word alone, or one word more than a tree below has
data Step (ws : Words) (t : ParseTree) : Type 0 where
  word : ws ≡ xs 1 → t ≡ left_tree 0 → Step ws t
  more : (front : Words) (u : ParseTree) → ws ≡ front ++ xs 1 → t ≡ tree.Alt 0 (tree.Seq (tree.Rule (rule 0) u ∷ (token_x ∷ []))) → Derives left_recursion (at 0) front u → Step ws t

step_parts : (ws : Words) (ts : List ParseTree) (t : ParseTree) → t ≡ tree.Alt 0 (tree.Seq ts) → DerivesEach left_recursion (at 2 ∷ (at 3 ∷ [])) ws ts → Step ws t
step_parts ws _ t q (part {t = r} front rest z d (part {t = x} front' rest' z' d' (no_part z''))) =
    let k = at_node left_recursion (at 2) front r (node.Ref (rule 0)) refl d in
    let k' = at_node left_recursion (at 3) front' x (node.Token (xs 1)) refl d' in
    let body : named 114 0 ≡ k.0 = cc (k.2) in
    more front k.1 (z ∙ ap (λ w. front ++ w) (z' ∙ ap (λ w. w ++ rest') k'.0 ∙ ap (λ w. xs 1 ++ w) z''))
    (q ∙ ap (λ v. tree.Alt 0 (tree.Seq (v ∷ (x ∷ [])))) k.3 ∙ ap (λ v. tree.Alt 0 (tree.Seq (tree.Rule (rule 0) k.1 ∷ (v ∷ [])))) (k'.1 ∙ ap tree.Token k'.0))
    (subst (λ (b : LinkedRule). Derives left_recursion b.body front k.1) (sym body) k.4)

step_taken : (taken : ℕ) (p : NodeIx) (u t : ParseTree) (ws : Words) → slice_get (at 1 ∷ (at 4 ∷ [])) taken ≡ Some p → t ≡ tree.Alt taken u → Derives left_recursion p ws u → Step ws t
step_taken zero p u t ws g q d =
    let same : at 1 ≡ p = cc in
    let k = at_node left_recursion (at 1) ws u (node.Seq (at 2 ∷ (at 3 ∷ []))) refl (subst (λ m. Derives left_recursion m ws u) (sym same) d) in
    step_parts ws k.0 t (q ∙ ap (tree.Alt 0) k.1) k.2
step_taken (suc zero) p u t ws g q d =
    let same : at 4 ≡ p = cc in
    let k = at_node left_recursion (at 4) ws u (node.Token (xs 1)) refl (subst (λ m. Derives left_recursion m ws u) (sym same) d) in
    word k.0 (q ∙ ap (tree.Alt 1) (k.1 ∙ ap tree.Token k.0))
step_taken (suc (suc k)) p u t ws g q d = absurd (cc)

step : (ws : Words) (t : ParseTree) → Derives left_recursion (at 0) ws t → Step ws t
step ws t d =
    let k = at_node left_recursion (at 0) ws t (node.Alt (at 1 ∷ (at 4 ∷ []))) refl d in
    step_taken k.0 k.1 k.2 t ws k.3 k.4 k.5

some_word : (ws : Words) (t : ParseTree) → Step ws t → ws ≢ []
some_word ws t (word e q) z = absurd (omega (arith, ap length e, ap length z))
some_word ws t (more front u e q d) z = absurd (omega (arith, ap length e, ap length z, length-append front (xs 1)))

-- as many words again and one
one_more : (count : ℕ) → xs (suc count) ≡ xs count ++ xs 1
one_more count = let e : suc count ≡ count + 1 = omega arith in ap xs e ∙ sym (replicate-append-replicate count 1 (120 ∷ []))

derives_tree : (count : ℕ) → Derives left_recursion (at 0) (xs (suc count)) (left_tree count)
derives_tree zero = by_alt (at 1 ∷ (at 4 ∷ [])) 1 (at 4) token_x refl refl refl (by_token refl refl)
derives_tree (suc count) =
    by_alt (at 1 ∷ (at 4 ∷ [])) 0 (at 1) _ refl refl refl
    (by_seq (at 2 ∷ (at 3 ∷ [])) _ refl refl
    (part (xs (suc count)) (xs 1) (one_more (suc count)) (by_ref (rule 0) (named 114 0) (left_tree count) refl refl refl (derives_tree count))
    (part (xs 1) [] refl (by_token refl refl) (no_part refl))))

only_tree : (count : ℕ) (ws : Words) (t : ParseTree) → ws ≡ xs (suc count) → Step ws t → t ≡ left_tree count
only_tree zero ws t e (word e' q) = q
only_tree zero ws t e (more front u e' q d) =
    let none : front ≡ [] = append_cancel_right front [] (xs 1) (sym e' ∙ e) in absurd (some_word front u (step front u d) none)
only_tree (suc count) ws t e (word e' q) = let h : xs 1 ≡ xs (suc (suc count)) = sym e' ∙ e in absurd (omega (arith, ap length h))
only_tree (suc count) ws t e (more front u e' q d) =
    let below : front ≡ xs (suc count) = append_cancel_right front (xs (suc count)) (xs 1) (sym e' ∙ e ∙ one_more (suc count)) in
    q ∙ ap (λ v. tree.Alt 0 (tree.Seq (tree.Rule (rule 0) v ∷ (token_x ∷ [])))) (only_tree count front u below (step front u d))

-- ---- the rule leads to none

-- the recursive alternative has a word beside the rule, the other is a word
not_alone_in : (k : ℕ) (p : NodeIx) (q : RuleIx) → slice_get (at 1 ∷ (at 4 ∷ [])) k ≡ Some p → Alone left_recursion p q → ⊥
not_alone_in zero p q g a =
    let same : at 1 ≡ p = cc in
    let c = alone_view left_recursion (at 1) q (subst (λ m. Alone left_recursion m q) (sym same) a) in
    beside c.0 c.1 c.2 c.3 c.4
  where
    beside : (j : ℕ) (m : NodeIx) → slice_get (at 2 ∷ (at 3 ∷ [])) j ≡ Some m → Alone left_recursion m q →
        ((i : ℕ) (other : NodeIx) → i ≢ j → slice_get (at 2 ∷ (at 3 ∷ [])) i ≡ Some other → CanBeEmpty left_recursion other) → ⊥
    beside zero m g a others =
        let empty = others 1 (at 3) (λ e. absurd (omega arith)) refl in
        let k = at_node left_recursion (at 3) [] empty.0 (node.Token (xs 1)) refl empty.1 in
        let h : [] ≡ xs 1 = k.0 in absurd (omega (arith, ap length h))
    beside (suc zero) m g a others = let same : at 3 ≡ m = cc in alone_view left_recursion (at 3) q (subst (λ x. Alone left_recursion x q) (sym same) a)
    beside (suc (suc j)) m g a others = absurd (cc)
not_alone_in (suc zero) p q g a = let same : at 4 ≡ p = cc in alone_view left_recursion (at 4) q (subst (λ m. Alone left_recursion m q) (sym same) a)
not_alone_in (suc (suc k)) p q g a = absurd (cc)

no_lead : (r : ℕ) (q : RuleIx) → Leads left_recursion (rule r) q → ⊥
no_lead zero q lead =
    let c = alone_view left_recursion (at 0) q (at_body left_recursion (rule 0) (λ n. Alone left_recursion n q) (named 114 0) refl lead) in
    not_alone_in c.0 c.1 q c.2 c.3
no_lead (suc r) q lead = let none : None ≡ Some lead.0 = lead.1 in cc

pub returns-clause-sound : goal.returns-clause-sound
returns-clause-sound c r around = at_all around.0 around.1
  where
    at_all : (ms : List RuleIx) → LeadsThrough left_recursion r ms r → ⊥
    at_all [] l = no_lead r.0 r l
    at_all (m ∷ ms) l = no_lead r.0 m l.0

pub returns-clause-none : goal.returns-clause-none
returns-clause-none c h =
    let d = at_body left_recursion (rule 0) (λ n. HasTree left_recursion n []) (named 114 0) refl h in
    some_word [] d.0 (step [] d.0 d.1) refl

pub returns-clause-first : goal.returns-clause-first
returns-clause-first c count =
    let e : suc count ≡ count + 1 = omega arith in (
      named 114 0,
      refl,
      subst (λ k. First left_recursion (at 0) (xs k) (left_tree count)) e
          (only_first left_recursion (at 0) (xs (suc count)) (left_tree count) (derives_tree count) (λ u d. only_tree count (xs (suc count)) u refl (step (xs (suc count)) u d))),
    )

pub returns-clause-only : goal.returns-clause-only
returns-clause-only c count t h =
    let e : count + 1 ≡ suc count = omega arith in
    let d = at_body left_recursion (rule 0) (λ n. Derives left_recursion n (xs (count + 1)) t) (named 114 0) refl h in
    only_tree count (xs (count + 1)) t (ap xs e) (step (xs (count + 1)) t d)
