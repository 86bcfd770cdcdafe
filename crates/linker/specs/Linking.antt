-- The answer to a publish: a version, or its faults.
use Rattle.std.specs.Prelude.{◌≡◌, ◌≢◌, ℕ, List, [], take, length}
use Rattle.vg_base.specs.Limits as limits
use Rattle.vg_base.specs.declared.numbers.VersionNo.{VersionNo}
use Rattle.grammar_tree.specs.declared.doc_set.DocText.{DocText}
use Rattle.linker.specs.declared.linking.Linking.{Linking}
use Rattle.linker.specs.declared.linking.Linking.TheVariants as linking
use Rattle.linker.specs.declared.set_fault.SetFault.{SetFault}
use Rattle.linker.specs.Readings.{Readings, HaveReadings, staged}
use Rattle.linker.specs.SetFaults.{AreFaults}
use Rattle.linker.specs.Versions.{Linkage, built}

-- ---- over sets of documents alone

-- the faults of a publish of these entries
abbrev pub HasFaults : List DocText → (entries : List (List ℕ)) → List SetFault → Type 0
HasFaults set entries faults = (docs : Readings) × HaveReadings set (staged set entries) docs × AreFaults set docs entries faults

-- the version stands for the documents that these entries need
abbrev pub IsBuilt : List DocText → (entries : List (List ℕ)) → Linkage → Type 0
IsBuilt set entries v = (docs : Readings) × HaveReadings set (staged set entries) docs × (v ≡ built set docs v.number)

-- ---- the answer

-- there are faults: the first of them, as many as are told, and their count
pub record IsFaulty (set : List DocText) (entries : List (List ℕ)) (first : List SetFault) (count : ℕ) : Type 0 where
  pub all : List SetFault
  pub are_faults : HasFaults set entries all
  pub some : all ≢ []
  pub told : first ≡ take limits.told_faults all
  pub counted : count ≡ length all

-- there are none, and this is the version with this number
pub record IsSound (set : List DocText) (entries : List (List ℕ)) (published : VersionNo) (v : Linkage) : Type 0 where
  pub faultless : HasFaults set entries []
  pub is_built : IsBuilt set entries v
  pub numbered : v.number ≡ published

abbrev pub Links : List DocText → List (List ℕ) → VersionNo → Linking → Type 0
Links set entries published (linking.Sound version) = IsSound set entries published version
Links set entries published (linking.Faulty first count) = IsFaulty set entries first count
