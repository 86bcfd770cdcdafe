-- The faults that are told last. Cited by private contracts alone.
use Rattle.std.specs.Prelude.{◌≡◌, ◌++◌, ℕ, List, Some, drop, map, min, slice_get}
use Rattle.std.specs.List.{All}
use Rattle.grammar_tree.specs.declared.doc_set.DocText.{DocText}
use Rattle.grammar_tree.specs.Links.{Rules}
use Rattle.linker.specs.declared.defined.Defined.{Defined}
use Rattle.linker.specs.declared.faults.Faults.{Faults}
use Rattle.linker.specs.declared.set_fault.SetFault.{SetFault}
use Rattle.linker.specs.Numbers.{Definition}
use Rattle.linker.specs.SetFaults.{LateFaults}
use Rattle.linker.specs.code.Tellings.{Keeps}
use Rattle.linker.specs.code.Wholes.{defined_of}

-- the document of the definition stands in the set under its key
pub record StandsIn (set : List DocText) (d : Definition) : Type 0 where
  pub doc : DocText
  pub there : slice_get set d.x ≡ Some doc
  pub key : doc.key ≡ d.key

-- these are kept of the definitions
pub record AreDefined (set : List DocText) (definitions : List Definition) (defined : List Defined) : Type 0 where
  pub kept : defined ≡ map defined_of definitions
  pub stand : All (StandsIn set) definitions

-- the late faults of the rules are told
abbrev pub TellsLate : Rules → List Definition → Faults → Faults → Type 0
TellsLate L definitions old new =
    (late : List SetFault) × LateFaults L 0 0 definitions late × ((all : List SetFault) → Keeps all old → Keeps (all ++ late) new)

-- those of the rules before rule r are told; the sizes of these rules stop past the largest
pub record TellsSoFar (L : Rules) (definitions : List Definition) (old : Faults) (r before : ℕ) (new : Faults) : Type 0 where
  pub late : List SetFault
  pub total : ℕ
  pub size : before ≡ min total 65537
  pub goes_on : (others : List SetFault) → LateFaults L r total (drop r definitions) others → LateFaults L 0 0 definitions (late ++ others)
  pub keeps : (all : List SetFault) → Keeps all old → Keeps (all ++ late) new
