-- Whether words may go on.
use Rattle.std.specs.Prelude.{◌≢◌, [], ◌++◌}
use Rattle.vg_base.specs.declared.numbers.RuleIx.{RuleIx}
use Rattle.grammar_tree.specs.Links.{Rules}
use Rattle.grammar_tree.specs.Derives.{Words, RuleHasTree}

-- the rule derives some list of which the words are a proper prefix
abbrev pub Longer : Rules → RuleIx → Words → Type 0
Longer L r ws = (more : Words) × (more ≢ []) × RuleHasTree L r (ws ++ more)
