-- Numbers as the code reads them.
use Rattle.std.specs.Prelude.{ℕ, ◌+◌, ◌*◌, ◌-◌, ◌==◌, ◌&&◌, min, take, drop, if◌then◌else◌, List, [], ◌∷◌, Option, Some, None}
use Rattle.std.specs.Ordering.{nat_cmp, ordering_then}
use Rattle.std.specs.declared.cmp.Ordering.{Ordering}
use Rattle.std.specs.List.{list_all, prefix_len}
use Rattle.abnf_lexer.specs.Repeats.{is_digit}

-- added up no further than one past the greatest of a repeat
abbrev pub capped : ℕ → List ℕ → ℕ
capped number [] = number
capped number (digit ∷ digits) = capped (min (number * 10 + (digit - 48)) 65536) digits

-- which of two numbers of as many digits is greater, behind what was said of those before
abbrev pub compared : Ordering → List ℕ → List ℕ → Ordering
compared order (x ∷ xs) (y ∷ ys) = compared (ordering_then order (nat_cmp x y)) xs ys
compared order _ _ = order

-- the digits at the front, and what stands behind them
abbrev pub digits : List ℕ → List ℕ
digits text = take (prefix_len is_digit text) text

abbrev pub behind_digits : List ℕ → List ℕ
behind_digits text = drop (prefix_len is_digit text) text

-- behind digits: nothing, or a dot and digits
abbrev pub dotted : List ℕ → Option (List ℕ)
dotted [] = Some []
dotted (c ∷ rest) = if c == 46 && list_all is_digit rest then Some rest else None

-- the word where it is one alone
abbrev pub only : List (List ℕ) → Option (List ℕ)
only (word ∷ []) = Some word
only words = None
