-- What the tables of documents hold. Cited by private contracts alone.
use Rattle.std.specs.Prelude.{◌≡◌, ◌+◌, ◌<◌, ℕ, Bool, false, List, Option, Some, None, length, nat_eq, slice_get}
use Rattle.std.specs.List.{position}
use Rattle.std.specs.Option.{option_map, option_map_or}
use Rattle.std.specs.Cmp.Lexicographic.{pointwise}
use Rattle.vg_base.specs.Pairs.{find}
use Rattle.grammar_tree.specs.declared.document.Doc.{Doc}
use Rattle.grammar_tree.specs.declared.document.ReadDoc.{ReadDoc}
use Rattle.grammar_tree.specs.declared.document.ReadDoc.TheVariants as read
use Rattle.grammar_tree.specs.declared.document.Rule.{Rule}
use Rattle.linker.specs.declared.tables.NamedRule.{NamedRule}
use Rattle.linker.specs.declared.tables.Known.{Known}
use Rattle.linker.specs.Readings.{Readings}
use Rattle.linker.specs.Targets.{rules_before}

-- the rule at place k of these, before the first of which so many stand
abbrev pub named_rule : ℕ → List Rule → ℕ → NamedRule
named_rule before rules k = record { rule = record { 0 = before + k }; public = option_map_or (λ rule. rule.public) (slice_get rules k) false }

-- each name finds the first rule that has it
abbrev pub AreNamed : ℕ → List Rule → List (List ℕ × NamedRule) → Type 0
AreNamed before rules names =
    (name : List ℕ) → find name names ≡ option_map (named_rule before rules) (position (λ rule. pointwise nat_eq rule.name name) rules)

pub record IsKnown (before : ℕ) (doc : Doc) (known : Known) : Type 0 where
  pub mode : known.mode ≡ doc.mode
  pub names : AreNamed before doc.rules known.names
  pub root : known.root ≡ option_map_or (λ name. option_map (λ found. found.rule) (find name known.names)) doc.root None

-- a document that was read has a table
abbrev pub IsTable : ℕ → Option ReadDoc → Option Known → Type 0
IsTable before (Some (read.Good doc)) (Some known) = IsKnown before doc known
IsTable before (Some (read.Good doc)) None = ⊥
IsTable before _ (Some known) = ⊥
IsTable before _ None = Unit {0}

-- the reading at the place is there with its table
pub record HasTable (docs : Readings) (tables : List (Option Known)) (y : ℕ) : Type 0 where
  pub reading : Option ReadDoc
  pub table : Option Known
  pub is_read : slice_get docs y ≡ Some reading
  pub is_there : slice_get tables y ≡ Some table
  pub is_table : IsTable (rules_before docs y) reading table

pub record AreTables (docs : Readings) (tables : List (Option Known)) : Type 0 where
  pub sized : length tables ≡ length docs
  pub each : (y : ℕ) → y < length docs → HasTable docs tables y

-- the same of the first n
pub record AreFirstTables (docs : Readings) (n : ℕ) (tables : List (Option Known)) : Type 0 where
  pub sized : length tables ≡ n
  pub each : (y : ℕ) → y < n → HasTable docs tables y
