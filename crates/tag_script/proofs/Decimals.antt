-- The decimal text of a number is of ASCII, so its bytes are its characters.
use Rattle.std.proofs.Common.{◌≡◌, ℕ, zero, suc, ◌+◌, ◌<◌, ◌%◌, [], ◌∷◌, arith}
use Rattle.std.specs.Prelude.{◌^◌, ℤ, pos, negsuc, FitsSigned}
use Rattle.std.specs.Int.{w64}
use Rattle.std.specs.Fmt.{decimal, signed_decimal}
use Rattle.std.specs.Str.{IsAscii, chars}
use Rattle.std.proofs.lemmas.Fmt.{decimal_by_steps}
use Rattle.std.proofs.lemmas.Str.{chars-IsAscii, IsAscii-append}

one_ascii : (c : ℕ) → c < 128 → IsAscii (c ∷ [])
one_ascii c h zero = h
one_ascii c h (suc i) = omega arith

digit_ascii : (n : ℕ) → 48 + n % 10 < 128
digit_ascii n = omega arith

decimal_ascii : (n : ℕ) → n < 2 ^ 64 → IsAscii (decimal n)
decimal_ascii = decimal_by_steps (λ _ digits. IsAscii digits)
    (λ n small. one_ascii (48 + n) (omega arith))
    (λ n digits large rest. IsAscii-append digits ((48 + n % 10) ∷ []) rest (one_ascii (48 + n % 10) (digit_ascii n)))

pub signed_ascii : (z : ℤ) → FitsSigned w64 z → IsAscii (signed_decimal z)
signed_ascii (pos n) fits = let small = fits.sfits in decimal_ascii n (omega arith)
signed_ascii (negsuc n) fits =
    let small = fits.sfits in
    IsAscii-append (45 ∷ []) (decimal (suc n)) (one_ascii 45 (omega arith)) (decimal_ascii (suc n) (omega arith))

pub signed_chars : (z : ℤ) → FitsSigned w64 z → chars (signed_decimal z) ≡ signed_decimal z
signed_chars z fits = chars-IsAscii (signed_decimal z) (signed_ascii z fits)
