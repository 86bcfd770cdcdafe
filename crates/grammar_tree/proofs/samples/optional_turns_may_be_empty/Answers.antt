use Rattle.std.proofs.Common.{ℕ, ◌≤◌, ◌≡◌, ◌≢◌, ◌⊎◌, List, [], ◌∷◌, ◌++◌, Some, length, refl, sym, ap, ◌∙◌, subst, inl, inr, arith, length-append}
use Rattle.std.specs.declared.cmp.Ordering.TheVariants.{Less, Equal, Greater}
use Rattle.std.proofs.lemmas.List.{nil_from_length}
use Rattle.grammar_tree.specs.declared.linked.Node.TheVariants as node
use Rattle.grammar_tree.specs.declared.parse_tree.ParseTree.{ParseTree}
use Rattle.grammar_tree.specs.declared.parse_tree.ParseTree.TheVariants as tree
use Rattle.grammar_tree.specs.Derives.{Words, HasTree, Derives, by_token, by_rep, DerivesTurns, no_turn, turn}
use Rattle.grammar_tree.specs.Choices.{choices}
use Rattle.grammar_tree.specs.Firsts.{choice_cmp, First}
use Rattle.grammar_tree.specs.Samples.{at, rule, named, xs, token_x, optional_repeated}
use Rattle.grammar_tree.proofs.Inversions.{at_body}
use Rattle.grammar_tree.proofs.Orders.{same-Equal}
use Rattle.grammar_tree.proofs.Views.{at_node, chosen_rep, chosen_token}
use Rattle.grammar_tree.proofs.samples.optional_turns_may_be_empty.Goals as goal

abbrev taken : ParseTree
taken = tree.Rep (token_x ∷ [])

abbrev left_out : ParseTree
left_out = tree.Rep []

-- an optional part is over the word or over none
data Optional (ws : Words) (t : ParseTree) : Type 0 where
  with_word : ws ≡ xs 1 → t ≡ taken → Optional ws t
  without : ws ≡ [] → t ≡ left_out → Optional ws t

optional_turns : (ws : Words) (ts : List ParseTree) → length ts ≤ 1 → DerivesTurns optional_repeated (at 2) 0 ws ts → Optional ws (tree.Rep ts)
optional_turns ws _ few (no_turn z) = without z refl
optional_turns ws _ few (turn {t = t} front rest z full d (no_turn z')) =
    let k = at_node optional_repeated (at 2) front t (node.Token (xs 1)) refl d in
    with_word (z ∙ ap (λ w. w ++ rest) k.0 ∙ ap (λ w. xs 1 ++ w) z') (ap (λ u. tree.Rep (u ∷ [])) (k.1 ∙ ap tree.Token k.0))
optional_turns ws _ few (turn front rest z full d (turn front' rest' z' full' d' ds)) = absurd (omega arith)

optional : (ws : Words) (t : ParseTree) → Derives optional_repeated (at 1) ws t → Optional ws t
optional ws t d =
    let c = at_node optional_repeated (at 1) ws t (node.Rep 0 (Some 1) (at 2)) refl d in
    subst (Optional ws) (sym c.1) (optional_turns ws c.0 c.3 c.4)

short : (ws : Words) (t : ParseTree) → Optional ws t → length ws ≤ 1
short ws t (with_word e q) = omega (arith, ap length e)
short ws t (without e q) = omega (arith, ap length e)

-- two optional parts have two words at most
two_short : (ws : Words) (ts : List ParseTree) (free : ℕ) → length ts ≤ 2 → DerivesTurns optional_repeated (at 1) free ws ts → length ws ≤ 2
two_short ws _ free few (no_turn z) = omega (arith, ap length z)
two_short ws _ free few (turn {t = t} front rest z full d (no_turn z')) =
    omega (arith, short front t (optional front t d), ap length z, ap length z', length-append front rest)
two_short ws _ free few (turn {t = t} front rest z full d (turn {t = u} front' rest' z' full' d' (no_turn z''))) =
    omega (arith, short front t (optional front t d), short front' u (optional front' u d'), ap length z, ap length z', ap length z'', length-append front rest, length-append front' rest')
two_short ws _ free few (turn f r z o d (turn f' r' z' o' d' (turn f'' r'' z'' o'' d'' ds))) = absurd (omega arith)

abbrev first : ParseTree
first = tree.Rep (taken ∷ (left_out ∷ []))

abbrev other : ParseTree
other = tree.Rep (left_out ∷ (taken ∷ []))

-- the word is in the first of the two parts or in the second
two_parts : (ws : Words) (ts : List ParseTree) (free : ℕ) → ws ≡ xs 1 → 2 ≤ length ts → length ts ≤ 2 → DerivesTurns optional_repeated (at 1) free ws ts → (tree.Rep ts ≡ first) ⊎ (tree.Rep ts ≡ other)
two_parts ws _ free e many few (no_turn z) = absurd (omega arith)
two_parts ws _ free e many few (turn front rest z full d (no_turn z')) = absurd (omega arith)
two_parts ws _ free e many few (turn f r z o d (turn f' r' z' o' d' (turn f'' r'' z'' o'' d'' ds))) = absurd (omega arith)
two_parts ws _ free e many few (turn {t = t} front rest z full d (turn {t = u} front' rest' z' full' d' (no_turn z''))) =
    two (optional front t d) (optional front' u d')
  where
    words : xs 1 ≡ front ++ (front' ++ [])
    words = sym e ∙ z ∙ ap (λ w. front ++ w) (z' ∙ ap (λ w. front' ++ w) z'')

    two : Optional front t → Optional front' u → (tree.Rep (t ∷ (u ∷ [])) ≡ first) ⊎ (tree.Rep (t ∷ (u ∷ [])) ≡ other)
    two (with_word h q) (with_word h' q') = let k : xs 1 ≡ xs 1 ++ (xs 1 ++ []) = words ∙ ap (λ w. w ++ (front' ++ [])) h ∙ ap (λ w. xs 1 ++ (w ++ [])) h' in absurd (omega (arith, ap length k))
    two (with_word h q) (without h' q') = inl (ap (λ v. tree.Rep (v ∷ (u ∷ []))) q ∙ ap (λ v. tree.Rep (taken ∷ (v ∷ []))) q')
    two (without h q) (with_word h' q') = inr (ap (λ v. tree.Rep (v ∷ (u ∷ []))) q ∙ ap (λ v. tree.Rep (left_out ∷ (v ∷ []))) q')
    two (without h q) (without h' q') = let k : xs 1 ≡ [] = words ∙ ap (λ w. w ++ (front' ++ [])) h ∙ ap (λ w. w ++ []) h' in cc

-- what the parts choose
taken_chooses : choices optional_repeated (at 1) taken ≡ 0 ∷ []
taken_chooses = chosen_rep optional_repeated (at 1) taken 0 (Some 1) (at 2) (token_x ∷ []) refl refl ∙ ap (λ c. 0 ∷ (c ++ [])) (chosen_token optional_repeated (at 2) token_x (xs 1) (xs 1) refl refl)

left_out_chooses : choices optional_repeated (at 1) left_out ≡ 1 ∷ []
left_out_chooses = chosen_rep optional_repeated (at 1) left_out 0 (Some 1) (at 2) [] refl refl

first_chooses : choices optional_repeated (at 0) first ≡ 0 ∷ (1 ∷ [])
first_chooses =
    chosen_rep optional_repeated (at 0) first 2 (Some 2) (at 1) (taken ∷ (left_out ∷ [])) refl refl
    ∙ ap (λ c. c ++ (choices optional_repeated (at 1) left_out ++ [])) taken_chooses ∙ ap (λ c. (0 ∷ []) ++ (c ++ [])) left_out_chooses

other_chooses : choices optional_repeated (at 0) other ≡ 1 ∷ (0 ∷ [])
other_chooses =
    chosen_rep optional_repeated (at 0) other 2 (Some 2) (at 1) (left_out ∷ (taken ∷ [])) refl refl
    ∙ ap (λ c. c ++ (choices optional_repeated (at 1) taken ++ [])) left_out_chooses ∙ ap (λ c. (1 ∷ []) ++ (c ++ [])) taken_chooses

derives_taken : Derives optional_repeated (at 1) (xs 1) taken
derives_taken = by_rep 0 (Some 1) (at 2) (token_x ∷ []) refl refl (omega arith) (omega arith) (turn (xs 1) [] refl (λ z e. cc) (by_token refl refl) (no_turn refl))

derives_left_out : Derives optional_repeated (at 1) [] left_out
derives_left_out = by_rep 0 (Some 1) (at 2) [] refl refl (omega arith) (omega arith) (no_turn refl)

first_first : First optional_repeated (at 0) (xs 1) first
first_first = record {
  derives = by_rep 2 (Some 2) (at 1) (taken ∷ (left_out ∷ [])) refl refl (omega arith) (omega arith)
      (turn (xs 1) [] refl (λ z e. cc) derives_taken (turn [] [] refl (λ z. absurd (omega arith)) derives_left_out (no_turn refl)));
  least = λ u d.
      let k = at_node optional_repeated (at 0) (xs 1) u (node.Rep 2 (Some 2) (at 1)) refl d in
      least u (by_cases u k.0 k.1 (two_parts (xs 1) k.0 2 refl k.2 k.3 k.4));
}
  where
    by_cases : (u : ParseTree) (ts : List ParseTree) → u ≡ tree.Rep ts → (tree.Rep ts ≡ first) ⊎ (tree.Rep ts ≡ other) → (u ≡ first) ⊎ (u ≡ other)
    by_cases u ts e (inl h) = inl (e ∙ h)
    by_cases u ts e (inr h) = inr (e ∙ h)

    least : (u : ParseTree) → (u ≡ first) ⊎ (u ≡ other) → choice_cmp (choices optional_repeated (at 0) first) (choices optional_repeated (at 0) u) ≢ Greater
    least u (inl h) g = let q : Equal ≡ Greater = sym (same-Equal _ _ (ap (choices optional_repeated (at 0)) (sym h))) ∙ g in cc
    least u (inr h) g =
        let q : choice_cmp (0 ∷ (1 ∷ [])) (1 ∷ (0 ∷ [])) ≡ Greater =
        ap (λ c. choice_cmp c (1 ∷ (0 ∷ []))) (sym first_chooses) ∙ ap (choice_cmp (choices optional_repeated (at 0) first)) (sym (ap (choices optional_repeated (at 0)) h ∙ other_chooses)) ∙ g in
        let r : Less ≡ Greater = q in cc

pub returns-clause-first : goal.returns-clause-first
returns-clause-first c = (named 114 0, refl, first_first)

pub returns-clause-three : goal.returns-clause-three
returns-clause-three c h =
    let d = at_body optional_repeated (rule 0) (λ n. HasTree optional_repeated n (xs 3)) (named 114 0) refl h in
    let k = at_node optional_repeated (at 0) (xs 3) d.0 (node.Rep 2 (Some 2) (at 1)) refl d.1 in
    let short = two_short (xs 3) k.0 2 k.3 k.4 in
    omega (arith, short)

derives_two : Derives optional_repeated (at 0) (xs 2) (tree.Rep (taken ∷ (taken ∷ [])))
derives_two =
    by_rep 2 (Some 2) (at 1) (taken ∷ (taken ∷ [])) refl refl (omega arith) (omega arith)
    (turn (xs 1) (xs 1) refl (λ z. absurd (omega arith)) derives_taken (turn (xs 1) [] refl (λ z. absurd (omega arith)) derives_taken (no_turn refl)))

pub returns-clause-goes_on : goal.returns-clause-goes_on
returns-clause-goes_on c = (xs 1, (λ e. cc), (named 114 0, refl, (tree.Rep (taken ∷ (taken ∷ [])), derives_two)))

pub returns-clause-full : goal.returns-clause-full
returns-clause-full c h =
    let d = at_body optional_repeated (rule 0) (λ n. HasTree optional_repeated n (xs 2 ++ h.0)) (named 114 0) refl h.2 in
    let k = at_node optional_repeated (at 0) (xs 2 ++ h.0) d.0 (node.Rep 2 (Some 2) (at 1)) refl d.1 in
    let short = two_short (xs 2 ++ h.0) k.0 2 k.3 k.4 in
    h.1 (nil_from_length h.0 (omega (arith, short, length-append (xs 2) h.0)))
