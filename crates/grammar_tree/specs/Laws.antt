-- The laws of derivations, choices and first trees.
use Rattle.std.specs.Prelude.{ℕ, suc, ◌≡◌, ◌⊎◌, ◌↔◌, List, [], ◌∷◌, ◌++◌}
use Rattle.std.specs.List.{Contains}
use Rattle.std.specs.declared.cmp.Ordering.TheVariants.{Less}
use Rattle.vg_base.specs.declared.numbers.NodeIx.{NodeIx}
use Rattle.grammar_tree.specs.declared.parse_tree.ParseTree.{ParseTree}
use Rattle.grammar_tree.specs.Links.{Rules, IsLinked}
use Rattle.grammar_tree.specs.Derives.{Words, Derives, HasTree}
use Rattle.grammar_tree.specs.Choices.{choices}
use Rattle.grammar_tree.specs.Leaves.{leaves}
use Rattle.grammar_tree.specs.Firsts.{choice_cmp, First, Firsts}
use Rattle.grammar_tree.specs.Alone.{NoSelfDerivation}

-- the words that are derived are those at the leaves of the tree
abbrev pub LeavesAreWords : Type 0
LeavesAreWords = (L : Rules) (n : NodeIx) (ws : Words) (t : ParseTree) → Derives L n ws t → leaves t ≡ ws

-- two trees of a node over the same words with equal choices are one
abbrev pub EqualChoicesAreOneTree : Type 0
EqualChoicesAreOneTree =
    (L : Rules) (n : NodeIx) (ws : Words) (t u : ParseTree) → Derives L n ws t → Derives L n ws u → choices L n t ≡ choices L n u → t ≡ u

-- among the trees of a node over the same words, no list of choices goes on after another
abbrev pub NoChoicesGoOn : Type 0
NoChoicesGoOn =
    (L : Rules) (n : NodeIx) (ws : Words) (t u : ParseTree) (more : List ℕ) → Derives L n ws t → Derives L n ws u → choices L n t ++ more ≡ choices L n u → more ≡ []

-- both at once, also where the trees are over two fronts of one list of words: choices that are fronts of one list are those of one tree
abbrev pub ChoicesTellTrees : Type 0
ChoicesTellTrees =
    (L : Rules) (n : NodeIx) (ws ws' vs vs' : Words) (t u : ParseTree) (cs cs' : List ℕ) → Derives L n ws t → Derives L n vs u →
    ws ++ ws' ≡ vs ++ vs' → choices L n t ++ cs ≡ choices L n u ++ cs' → (t ≡ u) × (ws ≡ vs)

-- of two trees of a node over the same words one is before the other, or they are one
abbrev pub TreesAreInOrder : Type 0
TreesAreInOrder =
    (L : Rules) (n : NodeIx) (ws : Words) (t u : ParseTree) → Derives L n ws t → Derives L n ws u →
    (choice_cmp (choices L n t) (choices L n u) ≡ Less) ⊎ ((t ≡ u) ⊎ (choice_cmp (choices L n u) (choices L n t) ≡ Less))

-- where no rule derives itself, one list has all trees of a node over the same words
abbrev pub TreesAreFinitelyMany : Type 0
TreesAreFinitelyMany =
    (L : Rules) → IsLinked L → NoSelfDerivation L → (n : NodeIx) (ws : Words) → (ts : List ParseTree) × ((t : ParseTree) → Derives L n ws t → Contains ts t)

abbrev pub FirstIsUnique : Type 0
FirstIsUnique = (L : Rules) (n : NodeIx) (ws : Words) (t u : ParseTree) → First L n ws t → First L n ws u → t ≡ u

abbrev pub FirstExists : Type 0
FirstExists = (L : Rules) → IsLinked L → NoSelfDerivation L → (n : NodeIx) (ws : Words) → HasTree L n ws → (t : ParseTree) × First L n ws t

abbrev pub FirstsAreUnique : Type 0
FirstsAreUnique = (L : Rules) (n : NodeIx) (ws : Words) (k : ℕ) (ts us : List ParseTree) → Firsts L n ws k ts → Firsts L n ws k us → ts ≡ us

abbrev pub FirstsExist : Type 0
FirstsExist = (L : Rules) → IsLinked L → NoSelfDerivation L → (n : NodeIx) (ws : Words) (k : ℕ) → (ts : List ParseTree) × Firsts L n ws k ts

-- the first tree is the only one of the first trees cut after one
abbrev pub FirstIsFirstsOfOne : Type 0
FirstIsFirstsOfOne = (L : Rules) (n : NodeIx) (ws : Words) (ts : List ParseTree) → Firsts L n ws 1 ts → (t : ParseTree) → First L n ws t ↔ (ts ≡ t ∷ [])

-- there are no first trees exactly where there is no tree
abbrev pub NoFirstsWithoutTree : Type 0
NoFirstsWithoutTree = (L : Rules) (n : NodeIx) (ws : Words) (k : ℕ) (ts : List ParseTree) → Firsts L n ws (suc k) ts → (ts ≡ []) ↔ (HasTree L n ws → ⊥)
