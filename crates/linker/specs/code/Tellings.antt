-- Faults as they are kept while more are told. Cited by private contracts alone.
use Rattle.std.specs.Prelude.{◌≡◌, ℕ, List, length, take}
use Rattle.vg_base.specs.Limits as limits
use Rattle.linker.specs.declared.set_fault.SetFault.{SetFault}
use Rattle.linker.specs.declared.faults.Faults.{Faults}

-- of these all, the first ones are kept, and how many there are
pub record Keeps (all : List SetFault) (kept : Faults) : Type 0 where
  pub first : kept.first ≡ take limits.told_faults all
  pub count : kept.count ≡ length all
