-- What was laid of a publish before it is judged. Cited by private contracts alone.
use Rattle.std.specs.Prelude.{◌≡◌, ℕ, List, Option, length}
use Rattle.grammar_tree.specs.declared.doc_set.DocText.{DocText}
use Rattle.grammar_tree.specs.declared.linked.LinkedRule.{LinkedRule}
use Rattle.grammar_tree.specs.declared.linked.Node.{Node}
use Rattle.linker.specs.declared.documents.Whole.{Whole}
use Rattle.linker.specs.declared.tables.Known.{Known}
use Rattle.linker.specs.Readings.{Readings, HaveReadings, staged, missing}
use Rattle.linker.specs.Numbers.{numbers}
use Rattle.linker.specs.SetFaults.{entry_faults}
use Rattle.linker.specs.code.Tables.{AreTables}
use Rattle.linker.specs.code.Wholes.{IsWhole}

-- the nodes and rules are those of these readings
pub record AreNumbers (set : List DocText) (docs : Readings) (nodes : List Node) (rules : List LinkedRule) : Type 0 where
  pub sized : length docs ≡ length set
  pub nodes_are : nodes ≡ (numbers set docs).nodes
  pub rules_are : rules ≡ (numbers set docs).rules

-- they are those of some readings of a set
abbrev pub HaveNumbers : List Node → List LinkedRule → Type 0
HaveNumbers nodes rules = (set : List DocText) × (docs : Readings) × AreNumbers set docs nodes rules

-- the documents of these readings were laid, and what is wrong with the entries and with them is told
pub record IsLaid (set : List DocText) (entries : List (List ℕ)) (docs : Readings) (tables : List (Option Known)) (whole : Whole) : Type 0 where
  pub readings : HaveReadings set (staged set entries) docs
  pub are_tables : AreTables docs tables
  pub is_whole : IsWhole set docs (entry_faults (missing set entries)) whole

-- the documents of some readings were
abbrev pub WasLaid : List DocText → List (Option Known) → Whole → Type 0
WasLaid set tables whole = (entries : List (List ℕ)) × (docs : Readings) × IsLaid set entries docs tables whole
