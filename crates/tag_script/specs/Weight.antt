-- What the values of an environment may weigh together. The limit is this project's own; SISR 1.0 has none.
use Rattle.std.specs.Prelude.{ℕ, ◌+◌, ◌*◌}
use Rattle.script_value.specs.declared.value.Value.{Value}
use Rattle.script_value.specs.declared.value.Value.TheVariants as v
use Rattle.script_value.specs.Measures.{held, text_bytes}
use Rattle.tag_script.specs.declared.env.Env.{Env}

-- the bytes of the strings and keys in a value, and 128 for each value in it: 64 for itself, and 64 for its key or place
abbrev pub weight : Value → ℕ
weight value = text_bytes value + 128 * held value

-- of what a script can change: `out`, and the variables with their names
abbrev pub weight_of : Env → ℕ
weight_of env = weight env.out + weight (v.Record env.vars)

-- 64 MiB
abbrev pub most_weight : ℕ
most_weight = 67108864
