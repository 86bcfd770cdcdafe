use Rattle.std.proofs.Common.{◌≡◌, drop}
use Rattle.rule_reader.specs.Context.{first_by}
use Rattle.rule_reader.proofs.context.argument_by.Given as goal

abbrev pub invariant-loop-declaration : goal.invariant-loop-declaration
invariant-loop-declaration l = first_by l.keyword (drop l.declaration-index l.declarations) ≡ first_by l.keyword l.declarations
