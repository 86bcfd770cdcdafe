-- The answers of calls that may want memory: that answer is free, and every other one is told.
use Rattle.std.specs.Prelude.{◌≡◌, Result, Ok, Err}
use Rattle.vg_base.specs.declared.refused.Refused.{Refused}
use Rattle.vg_base.specs.declared.refused.Refused.TheVariants as refused

-- the answer is this outcome, unless memory is short
abbrev pub Gives : {A F : Type 0} → Result A (Refused F) → Result A F → Type 0
Gives (Ok x) outcome = outcome ≡ Ok x
Gives (Err (refused.Fault fault)) outcome = outcome ≡ Err fault
Gives (Err refused.Memory) outcome = Unit {0}

-- the answer is an outcome of which the fact holds, unless memory is short
abbrev pub Meets : {A F : Type 0} → Result A (Refused F) → (Result A F → Type 0) → Type 0
Meets (Ok x) Holds = Holds (Ok x)
Meets (Err (refused.Fault fault)) Holds = Holds (Err fault)
Meets (Err refused.Memory) Holds = Unit {0}
