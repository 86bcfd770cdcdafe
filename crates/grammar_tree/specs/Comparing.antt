-- What comparing two trees tells of their choices.
use Rattle.std.specs.Prelude.{◌≡◌, ◌⊎◌, List, [], ◌∷◌, ◌++◌}
use Rattle.std.specs.declared.cmp.Ordering.{Ordering}
use Rattle.std.specs.declared.cmp.Ordering.TheVariants.{Equal}
use Rattle.vg_base.specs.declared.numbers.NodeIx.{NodeIx}
use Rattle.grammar_tree.specs.declared.parse_tree.ParseTree.{ParseTree}
use Rattle.grammar_tree.specs.Links.{Rules}
use Rattle.grammar_tree.specs.Derives.{Words, Derives}
use Rattle.grammar_tree.specs.Choices.{choices}
use Rattle.grammar_tree.specs.Firsts.{choice_cmp}

-- the order of the trees' choices, wherever both are trees of one node over fronts of one list of words
abbrev pub ComparesTrees : ParseTree → ParseTree → Ordering → Type 0
ComparesTrees one other o =
    (L : Rules) (n : NodeIx) (ws ws' vs vs' : Words) → Derives L n ws one → Derives L n vs other → ws ++ ws' ≡ vs ++ vs' → o ≡ choice_cmp (choices L n one) (choices L n other)

-- the first trees that differ decide
abbrev pub ComparesFronts : List ParseTree → List ParseTree → Ordering → Type 0
ComparesFronts [] us o = o ≡ Equal
ComparesFronts (t ∷ ts) [] o = o ≡ Equal
ComparesFronts (t ∷ ts) (u ∷ us) o = ((o ≡ Equal → ⊥) × ComparesTrees t u o) ⊎ (ComparesTrees t u Equal × ComparesFronts ts us o)
