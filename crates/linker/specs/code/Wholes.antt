-- All documents laid, one after another. Cited by private contracts alone.
use Rattle.std.specs.Prelude.{◌≡◌, ◌++◌, ℕ, List, [], ◌∷◌, Option, Some, length, map, min, slice_get}
use Rattle.std.specs.List.{AllByRecursion, flat_map}
use Rattle.vg_base.specs.declared.numbers.DocIx.{DocIx}
use Rattle.grammar_tree.specs.declared.doc_set.DocText.{DocText}
use Rattle.grammar_tree.specs.declared.document.Doc.{Doc}
use Rattle.grammar_tree.specs.declared.document.ReadDoc.{ReadDoc}
use Rattle.grammar_tree.specs.declared.document.ReadDoc.TheVariants as read
use Rattle.grammar_tree.specs.declared.document.Rule.{Rule}
use Rattle.grammar_tree.specs.Size.{size_of}
use Rattle.rule_reader.specs.Imports.{IsReadable, IsResolvable, uris_of}
use Rattle.linker.specs.declared.defined.Defined.{Defined}
use Rattle.linker.specs.declared.documents.Library.{Library}
use Rattle.linker.specs.declared.documents.Whole.{Whole}
use Rattle.linker.specs.declared.scope.Scope.{Scope}
use Rattle.linker.specs.declared.set_fault.SetFault.{SetFault}
use Rattle.linker.specs.Readings.{Readings}
use Rattle.linker.specs.Numbers.{Definition, bodies, definitions, definitions_from, linked_rules, numbers, one_by_one, starts}
use Rattle.linker.specs.SetFaults.{faults_from, reference_faults, references_in}
use Rattle.linker.specs.Versions.{version_docs}
use Rattle.linker.specs.declared.version.VersionDoc.{VersionDoc}
use Rattle.linker.specs.code.Scopes.{IsScope}
use Rattle.linker.specs.code.Tables.{AreTables}
use Rattle.linker.specs.code.Tellings.{Keeps}

-- where a rule is defined, and its size, which stops past the largest
abbrev pub defined_of : Definition → Defined
defined_of d = record { doc = record { 0 = d.x }; place = d.rule.place; size = min (size_of d.rule.body) 65537 }

-- ---- what is added

pub record Added : Type 0 where
  pub definitions : List Definition
  pub docs : List VersionDoc
  pub faults : List SetFault

-- behind what was laid so far stand these definitions and documents, and their faults are told
pub record Grows (set : List DocText) (readings : Readings) (added : Added) (old new : Whole) : Type 0 where
  pub nodes : new.laying.nodes.items ≡ old.laying.nodes.items ++ one_by_one (length old.laying.nodes.items) (bodies set readings added.definitions)
  pub rules : new.rules ≡ old.rules ++ linked_rules added.definitions (starts (length old.laying.nodes.items) (bodies set readings added.definitions))
  pub docs : new.docs ≡ old.docs ++ added.docs
  pub defined : new.defined.items ≡ old.defined.items ++ map defined_of added.definitions
  pub faults : (all : List SetFault) → Keeps all old.laying.faults → Keeps (all ++ added.faults) new.laying.faults

-- a rule of the document whose references are followed, and which has this number
abbrev pub definition_in : Scope → Doc → DocIx → Rule → Definition
definition_in scope own number rule = record { x = scope.place; key = scope.key.now; own = own; doc = number; rule = rule }

-- these rules of it
abbrev pub rules_in : Readings → Doc → Scope → DocIx → List Rule → Added
rules_in readings own scope number rules = record {
  definitions = map (definition_in scope own number) rules;
  docs = [];
  faults = flat_map (λ rule. reference_faults scope.set.now readings scope.place scope.key.now own (references_in rule.body)) rules;
}

-- laying the rules adds them
abbrev pub LaysRules : Scope → DocIx → List Rule → Whole → Whole → Type 0
LaysRules scope number rules old new =
    (readings : Readings) (own : Doc) → IsScope readings own scope → AllByRecursion IsReadable (uris_of rules) →
    Grows scope.set.now readings (rules_in readings own scope number rules) old new

-- what these documents of a set add, the first of which is document x, where so many are numbered before them
abbrev pub documents_in : List DocText → Readings → (x number : ℕ) → List DocText → Readings → Added
documents_in set readings x number staged docs = record {
  definitions = definitions_from x number staged docs;
  docs = version_docs readings x staged docs;
  faults = faults_from set readings x staged docs;
}

-- one of them
abbrev pub one_in : List DocText → Readings → (x number : ℕ) → DocText → Option ReadDoc → Added
one_in set readings x number staged reading = documents_in set readings x number (staged ∷ []) (reading ∷ [])

-- laying the document at this place of the set, as it was read, adds it
abbrev pub LaysReading : Library → ℕ → Option ReadDoc → Whole → Whole → Type 0
LaysReading library place reading old new =
    (readings : Readings) (staged : DocText) → AreTables readings library.tables.now → slice_get readings place ≡ Some reading → slice_get library.set.now place ≡ Some staged →
    Grows library.set.now readings (one_in library.set.now readings place (length old.docs) staged reading) old new

-- ---- the whole

-- the references of each document that was read can be resolved
abbrev pub AreResolvable : Readings → Type 0
AreResolvable docs = (x : ℕ) (doc : Doc) → slice_get docs x ≡ Some (Some (read.Good doc)) → IsResolvable doc

-- the rules, their nodes and the documents are those of the set, and after what was told the faults of its documents are told
pub record IsWhole (set : List DocText) (readings : Readings) (before : List SetFault) (whole : Whole) : Type 0 where
  pub nodes : whole.laying.nodes.items ≡ (numbers set readings).nodes
  pub rules : whole.rules ≡ (numbers set readings).rules
  pub docs : whole.docs ≡ version_docs readings 0 set readings
  pub defined : whole.defined.items ≡ map defined_of (definitions set readings)
  pub faults : Keeps (before ++ faults_from set readings 0 set readings) whole.laying.faults
