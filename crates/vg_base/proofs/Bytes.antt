-- How many bytes characters take.
use Rattle.std.proofs.Common.{◌≡◌, ℕ, ◌+◌, ◌*◌, ◌≤◌, List, [], ◌∷◌, ◌++◌, length, ap, ◌∙◌, arith, length-append}
use Rattle.std.specs.Char.{len_utf8, encode_utf8}
use Rattle.std.specs.Str.{encode_utf8_all}
use Rattle.std.proofs.lemmas.Str.{encodes-append, length-encode, len_utf8_bounds, length-le-encodes}
use Rattle.vg_base.specs.Characters.{byte_len}

pub byte_len-append : (xs ys : List ℕ) → byte_len (xs ++ ys) ≡ byte_len xs + byte_len ys
byte_len-append xs ys = ap length (encodes-append xs ys) ∙ length-append (encode_utf8_all xs) (encode_utf8_all ys)

pub byte_len-cons : (c : ℕ) (cs : List ℕ) → byte_len (c ∷ cs) ≡ len_utf8 c + byte_len cs
byte_len-cons c cs = omega (arith, length-append (encode_utf8 c) (encode_utf8_all cs), length-encode c)

pub byte_len-push : (front : List ℕ) (c : ℕ) → byte_len (front ++ c ∷ []) ≡ byte_len front + len_utf8 c
byte_len-push front c = omega (arith, byte_len-append front (c ∷ []), byte_len-cons c [])

-- a character takes from one byte to four
pub length-le-byte_len : (cs : List ℕ) → length cs ≤ byte_len cs
length-le-byte_len = length-le-encodes

pub byte_len-le-length : (cs : List ℕ) → byte_len cs ≤ 4 * length cs
byte_len-le-length [] = omega arith
byte_len-le-length (c ∷ cs) = let bounds = len_utf8_bounds c in omega (arith, byte_len-cons c cs, bounds.1, byte_len-le-length cs)
