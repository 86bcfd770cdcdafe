-- Weights as the code counts them.
use Rattle.std.specs.Prelude.{ℕ, ◌+◌, ◌*◌, List, Option, Some, None}
use Rattle.vg_base.specs.Characters.{byte_len}
use Rattle.script_value.specs.declared.value.Value.{Value}
use Rattle.script_value.specs.declared.measures.Measures.{Measures}
use Rattle.script_value.specs.Measures.{capped}
use Rattle.tag_script.specs.Weight.{weight}

-- of a value so large
abbrev pub weight_so_large : Measures → ℕ
weight_so_large large = capped (capped (128 * large.values) + large.bytes)

-- of a variable with its name, where it is there
abbrev pub variable_weight : List ℕ → Option Value → ℕ
variable_weight name None = 0
variable_weight name (Some value) = weight value + byte_len name
