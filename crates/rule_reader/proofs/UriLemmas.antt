-- References of parts, and of all parts together.
use Rattle.std.proofs.Common.{arith, ◌≡◌, ◌⊎◌, ℕ, zero, suc, ◌<◌, inl, inr, ap, sym, subst, ◌∙◌, List, [], ◌∷◌, length, map, get_or}
use Rattle.std.specs.List.{flat_map, AllByRecursion}
use Rattle.std.proofs.lemmas.List.Folds.{flat_map-map}
use Rattle.grammar_tree.specs.declared.expansion.Expansion as tree
use Rattle.grammar_tree.specs.declared.expansion.Expansion.{Expansion}
use Rattle.grammar_tree.specs.declared.expansion.Expansion.TheVariants as e
use Rattle.grammar_tree.specs.declared.expansion.Expansion.TheOpen.{Expansion-F}
use Rattle.grammar_tree.specs.declared.expansion.Expansion.TheFolds.{fold-roll-Expansion}
use Rattle.rule_reader.specs.Imports.{IsReadable, uris_in, uris_of_level}

of_sequence : (parts : List Expansion) → uris_in (e.Seq parts) ≡ flat_map uris_in parts
unfolding tree.roll-Expansion denote.Hole.Carrier.roll
of_sequence parts = fold-roll-Expansion (List (List ℕ)) uris_of_level (Expansion-F.Seq parts) ∙ flat_map-map (λ uris. uris) uris_in parts

of_alternatives : (parts : List Expansion) → uris_in (e.Alt parts) ≡ flat_map uris_in parts
unfolding tree.roll-Expansion denote.Hole.Carrier.roll
of_alternatives parts = fold-roll-Expansion (List (List ℕ)) uris_of_level (Expansion-F.Alt parts) ∙ flat_map-map (λ uris. uris) uris_in parts

-- the references of parts, each list in its place
pub of_parts : (x : Expansion) (parts : List Expansion) → (x ≡ e.Seq parts) ⊎ (x ≡ e.Alt parts) → uris_in x ≡ flat_map uris_in parts
of_parts x parts (inl is) = ap uris_in is ∙ of_sequence parts
of_parts x parts (inr is) = ap uris_in is ∙ of_alternatives parts

-- what holds of all of them holds of one
pub of_one : {X : Type 0} (f : X → List ℕ) (xs : List X) (i : ℕ) (x : X) → i < length xs → x ≡ get_or xs i x → AllByRecursion IsReadable (map f xs) → IsReadable (f x)
of_one f [] i x lt is h = absurd (omega (arith, lt))
of_one f (y ∷ xs) zero x lt is h = subst (λ z. IsReadable (f z)) (sym is) h.0
of_one f (y ∷ xs) (suc i) x lt is h = of_one f xs i x (omega arith) is h.1
