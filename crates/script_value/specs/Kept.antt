-- Values as programs keep them: at every level numbers have 64 bits, texts are of Unicode's scalar values,
-- and a record has each key once, in rising order.
use Rattle.std.specs.Prelude.{◌≡◌, ℕ, true, List, FitsSigned, ⊤}
use Rattle.std.specs.Int.{w64}
use Rattle.std.specs.List.{AllByRecursion}
use Rattle.std.specs.Map.{keys_of}
use Rattle.std.specs.Str.{all_scalars}
use Rattle.vg_base.specs.Pairs.{IsRising}
use Rattle.script_value.specs.declared.value.Value.{Value, every-Value}
use Rattle.script_value.specs.declared.value.Value.TheOpen.{Value-F}

abbrev pub AreKeys : {V : Type 0} → List (List ℕ × V) → Type 0
AreKeys members = IsRising members × AllByRecursion (λ key. all_scalars key ≡ true) (keys_of members)

abbrev pub IsKeptLevel : Value-F Value → Type 0
IsKeptLevel (Value-F.Number n) = FitsSigned w64 n
IsKeptLevel (Value-F.Str text) = all_scalars text ≡ true
IsKeptLevel (Value-F.Record members) = AreKeys members
IsKeptLevel other = ⊤

abbrev pub IsKept : Value → Type 0
IsKept = every-Value IsKeptLevel
