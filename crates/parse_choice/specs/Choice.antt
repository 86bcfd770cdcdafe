-- The first parse of a rule over a line of words.
use Rattle.std.specs.Prelude.{Option, MatchOption}
use Rattle.vg_base.specs.declared.numbers.RuleIx.{RuleIx}
use Rattle.grammar_tree.specs.declared.parse_tree.ParseTree.{ParseTree}
use Rattle.grammar_tree.specs.Links.{Rules}
use Rattle.grammar_tree.specs.Derives.{Words, RuleHasTree}
use Rattle.grammar_tree.specs.Firsts.{RuleFirst}

-- the rule's first tree over the words, or none where it has no tree
abbrev pub IsFirst : Rules → RuleIx → Words → Option ParseTree → Type 0
IsFirst L r ws answer = MatchOption answer (RuleHasTree L r ws → ⊥) (λ tree. RuleFirst L r ws tree)
