-- What stands at the front of a text, as the cutter finds it.
use Rattle.std.specs.Prelude.{ℕ, suc, ℤ, pos, ◌+◌, Bool, false, List, [], ◌∷◌, length, take, Option, Some, None, nat_le, ◌==◌, ◌&&◌, ◌||◌, if◌then◌else◌}
use Rattle.std.specs.List.{prefix_len}
use Rattle.vg_base.specs.Characters.{is_space}
use Rattle.script_reader.specs.declared.lexing.lexeme.Sign.{Sign}
use Rattle.script_reader.specs.declared.lexing.lexeme.Sign.TheVariants as g
use Rattle.script_reader.specs.declared.lexing.lexeme.Lexeme.TheVariants as l
use Rattle.script_reader.specs.declared.lexing.cutting.Cut.{Cut}
use Rattle.script_reader.specs.declared.lexing.cutting.Cut.TheVariants.{End, Gap, Whole, Stop}
use Rattle.script_reader.specs.declared.lexing.cutting.Class.{Class}
use Rattle.script_reader.specs.declared.lexing.cutting.Class.TheVariants as class
use Rattle.script_reader.specs.code.Decoding.{string_of}
pub use Rattle.script_reader.specs.Lexemes.{is_digit, is_word_start, is_word, is_within_line, digit_of, number_value, greatest}

abbrev pub is_in : Class → ℕ → Bool
is_in class.Space c = is_space c
is_in class.Word c = is_word c
is_in class.Digit c = is_digit c
is_in class.WithinLine c = is_within_line c

abbrev pub more : Option ℕ → Option ℕ
more None = None
more (Some n) = Some (suc n)

abbrev pub begins_slash : List ℕ → Bool
begins_slash [] = false
begins_slash (d ∷ ds) = d == 47

-- the length up to and with the next `*/`
abbrev pub block_len : List ℕ → Option ℕ
block_len [] = None
block_len (c ∷ cs) = if c == 42 && begins_slash cs then Some 2 else more (block_len cs)

abbrev pub block : Option ℕ → Cut
block None = Stop
block (Some n) = Gap (2 + n)

-- behind a `/`
abbrev pub slash : List ℕ → Cut
slash [] = Whole (l.Sign g.Over) 1
slash (c ∷ cs) =
    if c == 47 then Gap (2 + prefix_len is_within_line cs)
    else (if c == 42 then block (block_len cs) else Whole (l.Sign g.Over) 1)

abbrev pub three : ℕ → ℕ → ℕ → Option Sign
three a b c =
    if b == 61 && c == 61 then (if a == 61 then Some g.Same else (if a == 33 then Some g.NotSame else None)) else None

abbrev pub two : ℕ → ℕ → Option Sign
two a b =
    if b == 61 then
    (if a == 61 then Some g.Equal
    else (if a == 33 then Some g.NotEqual
    else (if a == 60 then Some g.LessEqual
    else (if a == 62 then Some g.GreaterEqual
    else (if a == 43 then Some g.AddTo
    else (if a == 45 then Some g.TakeFrom else None))))))
    else (if a == 124 && b == 124 then Some g.Or
    else (if a == 38 && b == 38 then Some g.And else None))

abbrev pub one : ℕ → Option Sign
one a =
    if a == 60 then Some g.Less
    else (if a == 62 then Some g.Greater
    else (if a == 43 then Some g.Plus
    else (if a == 45 then Some g.Minus
    else (if a == 42 then Some g.Times
    else (if a == 37 then Some g.Rem
    else (if a == 33 then Some g.Not
    else (if a == 61 then Some g.Set
    else (if a == 63 then Some g.Question
    else (if a == 58 then Some g.Colon
    else (if a == 59 then Some g.Semicolon
    else (if a == 44 then Some g.Comma
    else (if a == 46 then Some g.Dot
    else (if a == 40 then Some g.RoundOpen
    else (if a == 41 then Some g.RoundClose
    else (if a == 91 then Some g.SquareOpen
    else (if a == 93 then Some g.SquareClose
    else (if a == 123 then Some g.CurlyOpen
    else (if a == 125 then Some g.CurlyClose else None))))))))))))))))))

abbrev pub signed : Sign → ℕ → Cut
signed sign len = Whole (l.Sign sign) len

abbrev pub or_else : Option Sign → ℕ → Cut → Cut
or_else (Some sign) len other = signed sign len
or_else None len other = other

abbrev pub one_sign : ℕ → Cut
one_sign a = or_else (one a) 1 Stop

abbrev pub two_signs : ℕ → ℕ → Cut
two_signs a b = or_else (two a b) 2 (one_sign a)

abbrev pub three_signs : ℕ → ℕ → ℕ → Cut
three_signs a b c = or_else (three a b c) 3 (two_signs a b)

-- the longest sign
abbrev pub sign_at : List ℕ → Cut
sign_at [] = End
sign_at (a ∷ []) = one_sign a
sign_at (a ∷ b ∷ []) = two_signs a b
sign_at (a ∷ b ∷ c ∷ cs) = three_signs a b c

abbrev pub digits_len : List ℕ → ℕ
digits_len [] = 0
digits_len (c ∷ cs) = if c == 48 then 1 else prefix_len is_digit (c ∷ cs)

abbrev pub number_of : List ℕ → Option ℤ
number_of digits = if nat_le (number_value digits) greatest then Some (pos (number_value digits)) else None

abbrev pub number_at : List ℕ → Option ℤ → Cut
number_at digits (Some value) = Whole (l.Number value digits) (length digits)
number_at digits None = Whole l.Bad (length digits)

abbrev pub number : List ℕ → Cut
number digits = number_at digits (number_of digits)

abbrev pub word : List ℕ → Cut
word text = let n = prefix_len is_word text in Whole (l.Word (take n text)) n

abbrev pub string_at : Option (List ℕ × ℕ) → Cut
string_at (Some found) = Whole (l.Str found.0) (1 + found.1)
string_at None = Stop

abbrev pub string : ℕ → List ℕ → Cut
string quote text = string_at (string_of quote text)

-- what begins neither with white space nor with a word
unfoldable pub other_front : ℕ → List ℕ → Cut
other_front c cs =
    if is_digit c then number (take (digits_len (c ∷ cs)) (c ∷ cs))
    else (if c == 34 || c == 39 then string c cs
    else (if c == 47 then slash cs else sign_at (c ∷ cs)))

unfoldable pub front : List ℕ → Cut
front [] = End
front (c ∷ cs) =
    if is_space c then Gap (prefix_len is_space (c ∷ cs))
    else (if is_word_start c then word (c ∷ cs) else other_front c cs)
