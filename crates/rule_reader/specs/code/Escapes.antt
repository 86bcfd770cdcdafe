-- Percent form as the code reads it, byte by byte; and the test of a name.
use Rattle.std.specs.Prelude.{ℕ, ◌+◌, ◌*◌, ◌==◌, ◌&&◌, Bool, false, List, [], ◌∷◌, Option, Some, None, if◌then◌else◌}
use Rattle.std.specs.List.{list_all}
use Rattle.vg_base.specs.Characters.{is_name_start, is_name}
use Rattle.rule_reader.specs.References.{hexadecimal}

-- the byte of two digits, and what stands behind them
abbrev pub escaped : List ℕ → Option (ℕ × List ℕ)
escaped (high ∷ low ∷ text) = Some (hexadecimal high * 16 + hexadecimal low, text)
escaped text = None

-- the first byte, and what stands behind it
abbrev pub first_byte : List ℕ → Option (ℕ × List ℕ)
first_byte [] = None
first_byte (c ∷ text) = if c == 37 then escaped text else Some (c, text)

abbrev pub is_rule_name : List ℕ → Bool
is_rule_name [] = false
is_rule_name (first ∷ others) = is_name_start first && list_all is_name others
