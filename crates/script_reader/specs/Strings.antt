-- What may be spelled in a string (ECMA-262, string literals): hexadecimal digits, escapes, pairs of surrogates.
use Rattle.std.specs.Prelude.{ℕ, ◌+◌, ◌*◌, ◌-◌, Bool, nat_le, nat_lt, ◌==◌, ◌&&◌, ◌||◌, Option, Some, None, if◌then◌else◌}
use Rattle.script_reader.specs.Letters.{tab, line_feed, carriage_return, double_quote, single_quote, slash, backslash, letter_n, letter_r, letter_t}

-- a range of characters
abbrev pub within : ℕ → ℕ → ℕ → Bool
within from to c = nat_le from c && nat_le c to

-- the value of a hexadecimal digit
abbrev pub hex : ℕ → Option ℕ
hex c =
    if within 48 57 c then Some (c - 48)
    else (if within 97 102 c then Some (c - 87)
    else (if within 65 70 c then Some (c - 55) else None))

abbrev pub unit_of : Option ℕ → Option ℕ → Option ℕ → Option ℕ → Option ℕ
unit_of (Some a) (Some b) (Some c) (Some d) = Some (a * 4096 + b * 256 + c * 16 + d)
unit_of _ _ _ _ = None

-- the code unit of four hexadecimal digits
abbrev pub unit : ℕ → ℕ → ℕ → ℕ → Option ℕ
unit a b c d = unit_of (hex a) (hex b) (hex c) (hex d)

-- what a character behind a backslash stands for
abbrev pub escape : ℕ → Option ℕ
escape c =
    if c == backslash || c == double_quote || c == single_quote || c == slash then Some c
    else (if c == letter_n then Some line_feed
    else (if c == letter_r then Some carriage_return
    else (if c == letter_t then Some tab else None)))

abbrev pub is_high : ℕ → Bool
is_high v = nat_le 0xD800 v && nat_lt v 0xDC00

abbrev pub is_low : ℕ → Bool
is_low v = nat_le 0xDC00 v && nat_lt v 0xE000

-- the character of a pair of surrogates
abbrev pub pair_value : ℕ → ℕ → ℕ
pair_value high low = 0x10000 + (high - 0xD800) * 0x400 + (low - 0xDC00)
