-- What a store of files tells, and what its calls do.
use Rattle.std.specs.Prelude.{◌≡◌, ℕ, List, Bool, true, false, IsTrue, IfSome, Some, Ok, Err}
use Rattle.std.specs.declared.option.Option.{Option}
use Rattle.std.specs.declared.result.Result.{Result}
use Rattle.std.specs.Ordering.{nat_cmp}
use Rattle.std.specs.Cmp.Lexicographic.{slice_cmp}
use Rattle.std.specs.List.{All}
use Rattle.std.specs.List.Sorted.{IsStrictlySortedBy}
use Rattle.std.specs.Map.{keys_of}
use Rattle.vg_base.specs.Pairs.{find}
use Rattle.vg_base.specs.declared.refused.Refused.{Refused}
use Rattle.vg_base.specs.declared.refused.Refused.TheVariants as refused
use Rattle.vg_io.specs.declared.source.Failed.{Failed}
use Rattle.vg_io.specs.Faults.{faults_after}

-- the names and bytes of files, in rising order of names
abbrev pub Files : Type 0
Files = List (List ℕ × List ℕ)

-- The files, where the store tells them; the names that were listed, so that their files may be
-- loaded; and how many calls have met a fault.
pub record ToldStore : Type 0 where
  pub files : Option Files
  pub is_listed : List ℕ → Bool
  pub faults : ℕ

-- the folder or a file could not be had
abbrev pub store_fault : Refused Failed
store_fault = refused.Fault (record {})

-- a fault, and not want of memory
abbrev pub is_fault : Refused Failed → Bool
is_fault (refused.Fault fault) = true
is_fault refused.Memory = false

-- the call met a fault
abbrev pub met_fault : {A : Type 0} → Result A (Refused Failed) → Bool
met_fault (Ok value) = false
met_fault (Err refusal) = is_fault refusal

-- What each call keeps, and that it counts its fault.
pub record KeepsFiles {A : Type 0} (old new : ToldStore) (result : Result A (Refused Failed))
    : Type 0 where
  pub files : new.files ≡ old.files
  pub listed : (name : List ℕ) → IsTrue (old.is_listed name) → IsTrue (new.is_listed name)
  pub faults : new.faults ≡ faults_after (met_fault result) old.faults

-- the names of the files
abbrev pub names_of : Files → List (List ℕ)
names_of files = keys_of files

-- Each name comes before the next by their characters, which is the order of their bytes in UTF-8.
-- So each stands once.
abbrev pub IsInByteOrder : List (List ℕ) → Type 0
IsInByteOrder names = IsStrictlySortedBy (slice_cmp nat_cmp) names

-- where files are told, these are their names
abbrev pub ListsNames : Option Files → List (List ℕ) → Type 0
ListsNames files names = IfSome files (λ told. names ≡ names_of told)

-- these names are listed
abbrev pub AreListed : ToldStore → List (List ℕ) → Type 0
AreListed store names = All (λ name. IsTrue (store.is_listed name)) names

-- where files are told, the file of this name has these bytes
abbrev pub HasBytes : Option Files → List ℕ → List ℕ → Type 0
HasBytes files name bytes = IfSome files (λ told. find name told ≡ Some bytes)
