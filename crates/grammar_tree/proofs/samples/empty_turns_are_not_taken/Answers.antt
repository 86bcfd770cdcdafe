use Rattle.std.proofs.Common.{ℕ, ◌≡◌, List, [], ◌∷◌, ◌++◌, Some, None, refl, sym, ap, ◌∙◌, arith, append-nil}
use Rattle.grammar_tree.specs.declared.expansion.TagNode.{TagNode}
use Rattle.grammar_tree.specs.declared.linked.Node.TheVariants as node
use Rattle.grammar_tree.specs.declared.parse_tree.ParseTree.{ParseTree}
use Rattle.grammar_tree.specs.declared.parse_tree.ParseTree.TheVariants as tree
use Rattle.grammar_tree.specs.Derives.{Words, Derives, by_token, by_seq, by_rep, by_tag, DerivesEach, no_part, part, no_turn, turn}
use Rattle.grammar_tree.specs.Firsts.{First}
use Rattle.grammar_tree.specs.Samples.{at, rule, named, xs, token_x, empty_turns}
use Rattle.grammar_tree.proofs.Inversions.{at_body, no_turns, one_turn, only_first}
use Rattle.grammar_tree.proofs.Views.{at_node}
use Rattle.grammar_tree.proofs.samples.empty_turns_are_not_taken.Goals as goal

word : List ℕ
word = 120 ∷ []

abbrev inner : ParseTree
inner = tree.Seq (tree.Rep (token_x ∷ []) ∷ (tree.Tag (at 4) ∷ []))

derives_inner : (tag : TagNode) → Derives (empty_turns tag) (at 1) (xs 1) inner
derives_inner tag =
    by_seq (at 2 ∷ (at 4 ∷ [])) _ refl refl
    (part (xs 1) [] refl
    (by_rep 0 (Some 1) (at 3) (token_x ∷ []) refl refl (omega arith) (omega arith) (turn (xs 1) [] refl (λ z e. cc) (by_token refl refl) (no_turn refl)))
    (part [] [] refl (by_tag tag refl refl refl) (no_part refl)))

-- the optional part over the word is one turn
is_optional : (tag : TagNode) (ws : Words) (t : ParseTree) → ws ≡ xs 1 → Derives (empty_turns tag) (at 2) ws t → t ≡ tree.Rep (token_x ∷ [])
is_optional tag ws t e d =
    let c = at_node (empty_turns tag) (at 2) ws t (node.Rep 0 (Some 1) (at 3)) refl d in
    let one = one_turn (empty_turns tag) (at 3) _ ws c.0 e c.4 in
    let k = at_node (empty_turns tag) (at 3) (xs 1) one.0 (node.Token (xs 1)) refl one.2 in
    c.1 ∙ ap tree.Rep (one.1 ∙ ap (λ u. u ∷ []) k.1)

parts_inner : (tag : TagNode) (ws : Words) (ts : List ParseTree) → ws ≡ xs 1 → DerivesEach (empty_turns tag) (at 2 ∷ (at 4 ∷ [])) ws ts → tree.Seq ts ≡ inner
parts_inner tag ws _ e (part {t = t} f r z d (part {t = u} f' r' z' d' (no_part z''))) =
    let k = at_node (empty_turns tag) (at 4) f' u (node.Tag tag) refl d' in
    let none : r ≡ [] = z' ∙ ap (λ w. w ++ r') k.0 ∙ z'' in
    let all : f ≡ xs 1 = sym (append-nil f) ∙ ap (λ w. f ++ w) (sym none) ∙ sym z ∙ e in
    ap (λ v. tree.Seq (v ∷ (u ∷ []))) (is_optional tag f t all d) ∙ ap (λ v. tree.Seq (tree.Rep (token_x ∷ []) ∷ (v ∷ []))) k.1

is_inner : (tag : TagNode) (t : ParseTree) → Derives (empty_turns tag) (at 1) (xs 1) t → t ≡ inner
is_inner tag t d =
    let c = at_node (empty_turns tag) (at 1) (xs 1) t (node.Seq (at 2 ∷ (at 4 ∷ []))) refl d in
    c.1 ∙ parts_inner tag (xs 1) c.0 refl c.2

no_turn_first : (tag : TagNode) → First (empty_turns tag) (at 0) [] (tree.Rep [])
no_turn_first tag =
    only_first (empty_turns tag) (at 0) [] (tree.Rep []) (by_rep 0 None (at 1) [] refl refl (omega arith) tt (no_turn refl))
    (λ u d.
    let k = at_node (empty_turns tag) (at 0) [] u (node.Rep 0 None (at 1)) refl d in
    k.1 ∙ ap tree.Rep (no_turns (empty_turns tag) (at 1) [] k.0 refl k.4))

pub returns-clause-none : goal.returns-clause-none
returns-clause-none c tag = (named 114 0, refl, no_turn_first tag)

pub returns-clause-only : goal.returns-clause-only
returns-clause-only c tag t h =
    let d = at_body (empty_turns tag) (rule 0) (λ n. Derives (empty_turns tag) n [] t) (named 114 0) refl h in
    let k = at_node (empty_turns tag) (at 0) [] t (node.Rep 0 None (at 1)) refl d in
    k.1 ∙ ap tree.Rep (no_turns (empty_turns tag) (at 1) [] k.0 refl k.4)

first_turn : (tag : TagNode) → First (empty_turns tag) (at 0) (xs 1) (tree.Rep (inner ∷ []))
first_turn tag =
    only_first (empty_turns tag) (at 0) (xs 1) _
    (by_rep 0 None (at 1) (inner ∷ []) refl refl (omega arith) tt (turn (xs 1) [] refl (λ z e. cc) (derives_inner tag) (no_turn refl)))
    (λ u d.
    let k = at_node (empty_turns tag) (at 0) (xs 1) u (node.Rep 0 None (at 1)) refl d in
    let one = one_turn (empty_turns tag) (at 1) _ (xs 1) k.0 refl k.4 in
    k.1 ∙ ap tree.Rep (one.1 ∙ ap (λ v. v ∷ []) (is_inner tag one.0 one.2)))

pub returns-clause-one : goal.returns-clause-one
returns-clause-one c tag = (named 114 0, refl, first_turn tag)
