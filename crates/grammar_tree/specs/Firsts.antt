-- The trees of a node over given words, in the lexicographic order of their choices.
use Rattle.std.specs.Prelude.{ℕ, ◌≡◌, ◌≢◌, ◌↔◌, List, map, take}
use Rattle.std.specs.List.{Contains}
use Rattle.std.specs.List.Sorted.{IsStrictlySortedBy}
use Rattle.std.specs.Ordering.{nat_cmp}
use Rattle.std.specs.Cmp.Lexicographic.{slice_cmp}
use Rattle.std.specs.declared.cmp.Ordering.{Ordering}
use Rattle.std.specs.declared.cmp.Ordering.TheVariants.{Greater}
use Rattle.vg_base.specs.declared.numbers.NodeIx.{NodeIx}
use Rattle.vg_base.specs.declared.numbers.RuleIx.{RuleIx}
use Rattle.grammar_tree.specs.declared.parse_tree.ParseTree.{ParseTree}
use Rattle.grammar_tree.specs.Links.{Rules}
use Rattle.grammar_tree.specs.Derives.{Words, Derives, OfBody}
use Rattle.grammar_tree.specs.Choices.{choices}

-- the lexicographic order of lists of choices
abbrev pub choice_cmp : List ℕ → List ℕ → Ordering
choice_cmp = slice_cmp nat_cmp

-- the tree whose choices come first
pub record First (L : Rules) (n : NodeIx) (ws : Words) (t : ParseTree) : Type 0 where
  pub derives : Derives L n ws t
  pub least : (u : ParseTree) → Derives L n ws u → choice_cmp (choices L n t) (choices L n u) ≢ Greater

-- the list has each tree, in rising order of choices
pub record InOrder (L : Rules) (n : NodeIx) (ws : Words) (ts : List ParseTree) : Type 0 where
  pub trees : (t : ParseTree) → Contains ts t ↔ Derives L n ws t
  pub rising : IsStrictlySortedBy choice_cmp (map (choices L n) ts)

-- the first k trees, or all where there are fewer
abbrev pub Firsts : Rules → NodeIx → Words → ℕ → List ParseTree → Type 0
Firsts L n ws k ts = (all : List ParseTree) × InOrder L n ws all × (ts ≡ take k all)

-- the first tree, and the first k trees, of a rule are those of its body
abbrev pub RuleFirst : Rules → RuleIx → Words → ParseTree → Type 0
RuleFirst L r ws t = OfBody L r (λ n. First L n ws t)

abbrev pub RuleFirsts : Rules → RuleIx → Words → ℕ → List ParseTree → Type 0
RuleFirsts L r ws k ts = OfBody L r (λ n. Firsts L n ws k ts)
