-- Strings as the cutter decodes them, from the opening quote on.
use Rattle.std.specs.Prelude.{ℕ, zero, suc, ◌-◌, Bool, false, ◌==◌, ◌&&◌, ◌||◌, List, [], ◌∷◌, Option, Some, None, option_and_then, if◌then◌else◌}
use Rattle.script_reader.specs.declared.lexing.strings.Spelled.{Spelled}
use Rattle.script_reader.specs.Strings.{unit, escape, is_high, is_low, pair_value}

abbrev pub spelled : ℕ → ℕ → Option Spelled
spelled c len = Some (record { character = c; len = len })

abbrev pub paired : ℕ → ℕ → Option Spelled
paired high low = if is_low low && is_high high then spelled (pair_value high low) 12 else None

abbrev pub single : ℕ → Option Spelled
single v = if is_low v then None else spelled v 6

abbrev pub after_high : ℕ → List ℕ → Option Spelled
after_high high (x ∷ y ∷ a ∷ b ∷ c ∷ d ∷ rest) =
    if x == 92 && y == 117 then option_and_then (paired high) (unit a b c d) else None
after_high high _ = None

abbrev pub unit_at : List ℕ → ℕ → Option Spelled
unit_at more v = if is_high v then after_high v more else single v

-- behind `\u`
abbrev pub after_u : List ℕ → Option Spelled
after_u (a ∷ b ∷ c ∷ d ∷ more) = option_and_then (unit_at more) (unit a b c d)
after_u _ = None

abbrev pub escaped : Option ℕ → Option Spelled
escaped None = None
escaped (Some c) = spelled c 2

-- behind a backslash
abbrev pub after_backslash : List ℕ → Option Spelled
after_backslash [] = None
after_backslash (c ∷ more) = if c == 117 then after_u more else escaped (escape c)

-- what ends a string, or can't stand in one by itself
abbrev pub is_end : ℕ → ℕ → Bool
is_end quote c = c == quote || c == 10 || c == 13

-- the first character that is spelled before this quote
unfoldable pub first : ℕ → List ℕ → Option Spelled
first quote [] = None
first quote (c ∷ rest) =
    if c == 92 then after_backslash rest
    else (if is_end quote c then None else spelled c 1)

abbrev pub bump : Option (List ℕ × ℕ) → Option (List ℕ × ℕ)
bump None = None
bump (Some found) = Some (found.0, suc found.1)

abbrev pub bump_with : ℕ → Option (List ℕ × ℕ) → Option (List ℕ × ℕ)
bump_with c None = None
bump_with c (Some found) = Some (c ∷ found.0, suc found.1)

-- the quote stands at the front
abbrev pub is_closed : ℕ → List ℕ → Bool
is_closed quote [] = false
is_closed quote (c ∷ rest) = c == quote

-- what stands before the quote, and the length up to and with it; so many characters are passed by first
unfoldable pub decode : ℕ → ℕ → List ℕ → Option (List ℕ × ℕ)
decode quote skip [] = None
decode quote (suc skip) (c ∷ rest) = bump (decode quote skip rest)
decode quote zero (c ∷ rest) = elim (first quote (c ∷ rest)) [
  | Some s ↦ bump_with s.character (decode quote (s.len - 1) rest)
  | None ↦ if c == quote then Some ([], 1) else None
]

abbrev pub string_of : ℕ → List ℕ → Option (List ℕ × ℕ)
string_of quote text = decode quote 0 text
