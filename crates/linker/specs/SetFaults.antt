-- The faults of a publish: the list of all, in the order in which they are told.
use Rattle.std.specs.Prelude.{◌≡◌, ◌≢◌, ◌+◌, ◌⊎◌, ℕ, Bool, List, [], ◌∷◌, ◌++◌, ◌&&◌, nat_le, nat_lt, if◌then◌else◌, Option, Some, None, map}
use Rattle.std.specs.List.{flat_map}
use Rattle.vg_base.specs.Limits as limits
use Rattle.vg_base.specs.declared.place.Place.{Place}
use Rattle.vg_base.specs.declared.link_fault.LinkKind.{LinkKind}
use Rattle.vg_base.specs.declared.link_fault.LinkKind.TheVariants.{NoDocument, SelfDerive, NodesOver}
use Rattle.grammar_tree.specs.declared.doc_set.DocText.{DocText}
use Rattle.grammar_tree.specs.declared.document.Doc.{Doc}
use Rattle.grammar_tree.specs.declared.document.ReadDoc.{ReadDoc}
use Rattle.grammar_tree.specs.declared.document.ReadDoc.TheVariants as read
use Rattle.grammar_tree.specs.declared.expansion.Reference.{Reference}
use Rattle.grammar_tree.specs.declared.expansion.Expansion.{Expansion}
use Rattle.grammar_tree.specs.declared.expansion.Expansion.TheOpen.{Expansion-F}
use Rattle.grammar_tree.specs.declared.expansion.Expansion.TheFolds.{fold-Expansion}
use Rattle.grammar_tree.specs.Alone as alone
use Rattle.grammar_tree.specs.Links.{Rules}
use Rattle.grammar_tree.specs.Size.{size_of}
use Rattle.linker.specs.declared.set_fault.SetFault.{SetFault}
use Rattle.linker.specs.declared.set_fault.FaultKind.{FaultKind}
use Rattle.linker.specs.declared.set_fault.FaultKind.TheVariants as kind
use Rattle.linker.specs.declared.target.Target.{Target}
use Rattle.linker.specs.declared.target.Target.TheVariants as t
use Rattle.linker.specs.Readings.{Readings, missing}
use Rattle.linker.specs.Targets.{target}
use Rattle.linker.specs.Numbers.{Definition, definitions, numbers}

abbrev pub fault_at : List ℕ → Place → FaultKind → SetFault
fault_at key place kind = record { uri = key; place = place; kind = kind }

-- ---- entries that aren't staged, and documents by themselves and by their references

-- an entry stands in no text
abbrev pub entry_faults : List (List ℕ) → List SetFault
entry_faults = map (λ key. fault_at key (record { line = 0; column = 0 }) (kind.Link NoDocument))

-- the references of an expansion, in reading order
abbrev pub references_of_level : Expansion-F (List Reference) → List Reference
references_of_level (Expansion-F.Ref reference) = reference ∷ []
references_of_level (Expansion-F.Seq parts) = flat_map (λ references. references) parts
references_of_level (Expansion-F.Alt parts) = flat_map (λ references. references) parts
references_of_level (Expansion-F.Rep least most inner) = inner
references_of_level _ = []

abbrev pub references_in : Expansion → List Reference
references_in = fold-Expansion (List Reference) references_of_level

-- the fault of a reference that means no rule
abbrev pub told : List ℕ → Place → Target → List SetFault
told key place (t.Fault fault) = fault_at key place (kind.Link fault) ∷ []
told key place _ = []

module _ (set : List DocText) (docs : Readings) where
  abbrev pub reference_faults : ℕ → List ℕ → Doc → List Reference → List SetFault
  reference_faults x key own = flat_map (λ reference. told key reference.place (target docs set x key own reference.goal))

  -- the one fault of the document, or those of its references in reading order, which is that of their places
  abbrev pub document_faults : ℕ → List ℕ → Option ReadDoc → List SetFault
  document_faults x key None = []
  document_faults x key (Some (read.Bad fault)) = fault_at key fault.place (kind.Doc fault.kind) ∷ []
  document_faults x key (Some (read.Good own)) = flat_map (λ rule. reference_faults x key own (references_in rule.body)) own.rules

  -- of these documents, the first of which is document x
  abbrev pub faults_from : ℕ → List DocText → Readings → List SetFault
  faults_from x (staged ∷ others) (reading ∷ readings) = document_faults x staged.key reading ++ faults_from (x + 1) others readings
  faults_from x _ _ = []

  abbrev pub early_faults : List (List ℕ) → List SetFault
  early_faults entries = entry_faults (missing set entries) ++ faults_from 0 set docs

-- ---- rules that derive themselves, and rules that are too large together

-- a fault where the rule is defined
abbrev pub rule_fault : Definition → LinkKind → SetFault
rule_fault d fault = fault_at d.key d.rule.place (kind.Link fault)

-- where it holds, a fault of this kind, else none
abbrev pub Told : Type 0 → Definition → LinkKind → List SetFault → Type 0
Told P d fault faults = (P × (faults ≡ rule_fault d fault ∷ [])) ⊎ ((P → ⊥) × (faults ≡ []))

-- the sizes of the rules before it are within the limit, and with its own they are past it
abbrev pub over : ℕ → Definition → List SetFault
over before d = if nat_le before limits.nodes && nat_lt limits.nodes (before + size_of d.rule.body) then rule_fault d NodesOver ∷ [] else []

-- of these definitions, the first of which is that of rule r, and before which rules of this size stand
abbrev pub LateFaults : Rules → (r before : ℕ) → List Definition → List SetFault → Type 0
LateFaults L r before [] faults = faults ≡ []
LateFaults L r before (d ∷ definitions) faults =
    (own others : List SetFault) × Told (alone.SelfDerive L (record { 0 = r })) d SelfDerive own
    × LateFaults L (r + 1) (before + size_of d.rule.body) definitions others × (faults ≡ own ++ (over before d ++ others))

-- ---- all

-- they are told only where there are none of the others
abbrev pub AreFaults : List DocText → Readings → List (List ℕ) → List SetFault → Type 0
AreFaults set docs entries faults =
    ((early_faults set docs entries ≢ []) × (faults ≡ early_faults set docs entries))
    ⊎ ((early_faults set docs entries ≡ []) × LateFaults (numbers set docs) 0 0 (definitions set docs) faults)
