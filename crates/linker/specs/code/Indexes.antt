-- By which rules of a version are found. Cited by private contracts alone.
use Rattle.std.specs.Prelude.{◌≡◌, ◌<◌, ℕ, false, List, [], ◌∷◌, Option, Some, None, length, slice_get, slice_index_or}
use Rattle.std.specs.Option.{option_map, option_map_or}
use Rattle.vg_base.specs.Pairs.{find}
use Rattle.grammar_tree.specs.declared.linked.LinkedRule.{LinkedRule}
use Rattle.linker.specs.declared.tables.NamedRule.{NamedRule}
use Rattle.linker.specs.declared.tables.Known.{Known}
use Rattle.linker.specs.Versions.{Linkage, rule_named}

abbrev pub Index : Type 0
Index = List (List ℕ × NamedRule)

-- the rule with this number
abbrev pub rule_with : List LinkedRule → ℕ → NamedRule
rule_with rules r = record { rule = record { 0 = r }; public = option_map_or (λ rule. rule.public) (slice_get rules r) false }

-- for each document an index, by which each name finds its rule
pub record AreIndexes (v : Linkage) (indexes : List Index) : Type 0 where
  pub sized : length indexes ≡ length v.docs
  pub finds : (d : ℕ) (name : List ℕ) → d < length v.docs →
      find name (slice_index_or indexes d []) ≡ option_map (rule_with v.linked.rules) (rule_named d name v.linked.rules)

-- the names in the tables that are there
abbrev pub names_in : List (Option Known) → List Index
names_in [] = []
names_in (Some known ∷ tables) = known.names ∷ names_in tables
names_in (None ∷ tables) = names_in tables
