-- A document whose references are followed. Cited by private contracts alone.
use Rattle.std.specs.Prelude.{◌≡◌, ℕ, length}
use Rattle.grammar_tree.specs.declared.document.Doc.{Doc}
use Rattle.grammar_tree.specs.declared.expansion.Goal.{Goal}
use Rattle.grammar_tree.specs.declared.expansion.Goal.TheVariants as goal
use Rattle.rule_reader.specs.Imports.{IsReadable, base_uri}
use Rattle.linker.specs.declared.scope.Scope.{Scope}
use Rattle.linker.specs.Readings.{Readings}
use Rattle.linker.specs.Targets.{rules_before}
use Rattle.linker.specs.code.Tables.{AreTables, IsKnown}

-- the document is this one, among these readings
pub record IsScope (docs : Readings) (own : Doc) (scope : Scope) : Type 0 where
  pub sized : length docs ≡ length scope.set.now
  pub tables : AreTables docs scope.tables.now
  pub known : IsKnown (rules_before docs scope.place) own scope.own.now
  pub base : scope.base.now ≡ base_uri scope.key.now own.base

-- a reference by URI can be read
abbrev pub IsReadableGoal : Goal → Type 0
IsReadableGoal (goal.Local name) = Unit {0}
IsReadableGoal (goal.Named uri name) = IsReadable uri
IsReadableGoal (goal.Root uri) = IsReadable uri
