-- Choices tell trees apart, so trees are in one order and the first is unique.
use Rattle.std.proofs.Common.{ℕ, ◌≡◌, ◌⊎◌, List, [], ◌++◌, refl, sym, ap, ◌∙◌, inl, inr, append-nil}
use Rattle.std.specs.declared.cmp.Ordering.{Ordering}
use Rattle.std.specs.declared.cmp.Ordering.TheVariants.{Less, Equal, Greater}
use Rattle.std.specs.Ordering.{ordering_reverse}
use Rattle.std.proofs.lemmas.Cmp.{nat_list_cmp_total}
use Rattle.std.proofs.lemmas.Map.Lookups.{exact_bytes}
use Rattle.grammar_tree.specs.Choices.{choices}
use Rattle.grammar_tree.specs.Firsts.{choice_cmp}
use Rattle.grammar_tree.specs.Laws.{EqualChoicesAreOneTree, NoChoicesGoOn, ChoicesTellTrees, TreesAreInOrder, FirstIsUnique}
use Rattle.grammar_tree.proofs.Decode.{decode}

pub choices_tell : ChoicesTellTrees
choices_tell L n ws ws' vs vs' t u cs cs' d e h g = let s = decode L n ws ws' vs vs' t u cs cs' d e h g in (s.value, s.words)

pub equal_choices : EqualChoicesAreOneTree
equal_choices L n ws t u d e h = (choices_tell L n ws [] ws [] t u [] [] d e refl (ap (λ c. c ++ []) h)).0

pub none_goes_on : NoChoicesGoOn
none_goes_on L n ws t u more d e h = (decode L n ws [] ws [] t u more [] d e refl (h ∙ sym (append-nil _))).rest

pub turned : (xs ys : List ℕ) (o : Ordering) → choice_cmp xs ys ≡ o → choice_cmp ys xs ≡ ordering_reverse o
turned xs ys o e = nat_list_cmp_total.antisymm ys xs ∙ ap ordering_reverse e

pub in_order : TreesAreInOrder
in_order L n ws t u d e = at (choice_cmp (choices L n t) (choices L n u)) refl
  where
    at : (o : Ordering) → choice_cmp (choices L n t) (choices L n u) ≡ o →
        (choice_cmp (choices L n t) (choices L n u) ≡ Less) ⊎ ((t ≡ u) ⊎ (choice_cmp (choices L n u) (choices L n t) ≡ Less))
    at Less h = inl h
    at Equal h = inr (inl (equal_choices L n ws t u d e (exact_bytes _ _ h)))
    at Greater h = inr (inr (turned (choices L n t) (choices L n u) Greater h))

pub first_unique : FirstIsUnique
first_unique L n ws t u a b = at (in_order L n ws t u a.derives b.derives)
  where
    at : (choice_cmp (choices L n t) (choices L n u) ≡ Less) ⊎ ((t ≡ u) ⊎ (choice_cmp (choices L n u) (choices L n t) ≡ Less)) → t ≡ u
    at (inl h) = absurd (b.least t a.derives (turned (choices L n t) (choices L n u) Less h))
    at (inr (inl h)) = h
    at (inr (inr h)) = absurd (a.least u b.derives (turned (choices L n u) (choices L n t) Less h))
