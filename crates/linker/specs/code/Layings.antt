-- Nodes as they are laid, and what is told meanwhile. Cited by private contracts alone.
use Rattle.std.specs.Prelude.{◌≡◌, ◌++◌, List, [], ◌∷◌, ℕ, length, map}
use Rattle.std.specs.List.{flat_map, AllByRecursion}
use Rattle.grammar_tree.specs.declared.document.Doc.{Doc}
use Rattle.grammar_tree.specs.declared.expansion.Expansion.{Expansion}
use Rattle.grammar_tree.specs.declared.expansion.Goal.{Goal}
use Rattle.grammar_tree.specs.declared.expansion.Reference.{Reference}
use Rattle.vg_base.specs.declared.numbers.NodeIx.{NodeIx}
use Rattle.vg_base.specs.declared.numbers.RuleIx.{RuleIx}
use Rattle.rule_reader.specs.Imports.{IsReadable, uris_in}
use Rattle.linker.specs.declared.laying.Laying.{Laying}
use Rattle.linker.specs.declared.scope.Scope.{Scope}
use Rattle.linker.specs.declared.set_fault.SetFault.{SetFault}
use Rattle.linker.specs.Readings.{Readings}
use Rattle.linker.specs.Targets as targets
use Rattle.linker.specs.Numbers.{Laid, laid, one_by_one, starts, rule_meant}
use Rattle.linker.specs.SetFaults.{references_in, reference_faults}
use Rattle.linker.specs.code.Tellings.{Keeps}
use Rattle.linker.specs.code.Scopes.{IsScope, IsReadableGoal}

-- what references in the document mean
abbrev pub meant : Readings → Doc → Scope → Goal → RuleIx
meant docs own scope g = rule_meant (targets.target docs scope.set.now scope.place scope.key.now own g)

-- the nodes of these expansions, one after another, and the faults of their references
abbrev pub nodes_of : Readings → Doc → Scope → List Expansion → Laid
nodes_of docs own scope xs n = one_by_one n (map (laid (meant docs own scope)) xs)

abbrev pub faults_of : Readings → Doc → Scope → List Reference → List SetFault
faults_of docs own scope = reference_faults scope.set.now docs scope.place scope.key.now own

-- of these references, the ones by URI can be read
abbrev pub AreReadable : List Expansion → Type 0
AreReadable xs = AllByRecursion IsReadable (flat_map uris_in xs)

-- the nodes of these expansions are added, and the faults of their references are told
pub record Adds (docs : Readings) (own : Doc) (scope : Scope) (xs : List Expansion) (old new : Laying) : Type 0 where
  pub nodes : new.nodes.items ≡ old.nodes.items ++ nodes_of docs own scope xs (length old.nodes.items)
  pub faults : (all : List SetFault) → Keeps all old.faults → Keeps (all ++ faults_of docs own scope (flat_map references_in xs)) new.faults

-- these expansions are laid, one after another
abbrev pub Lays : Scope → List Expansion → Laying → Laying → Type 0
Lays scope xs old new = (docs : Readings) (own : Doc) → IsScope docs own scope → AreReadable xs → Adds docs own scope xs old new

-- the numbers of their first nodes
abbrev pub StartAt : Scope → List Expansion → ℕ → List NodeIx → Type 0
StartAt scope xs n at =
    (docs : Readings) (own : Doc) → IsScope docs own scope → AreReadable xs → at ≡ starts n (map (laid (meant docs own scope)) xs)

-- the reference is followed: the rule is the one that it means, or its fault is told
abbrev pub Follows : Scope → Reference → Laying → Laying → RuleIx → Type 0
Follows scope reference old new r =
    (docs : Readings) (own : Doc) → IsScope docs own scope → IsReadableGoal reference.goal →
    (r ≡ meant docs own scope reference.goal)
    × ((all : List SetFault) → Keeps all old.faults → Keeps (all ++ faults_of docs own scope (reference ∷ [])) new.faults)
