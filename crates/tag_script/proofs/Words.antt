-- Words of ASCII that the operators know: their bytes are their characters.
use Rattle.std.proofs.Common.{◌≡◌, ℕ, List, refl, ap, ◌∙◌, sym}
use Rattle.std.specs.Prelude.{nat_eq, codes}
use Rattle.std.specs.Bool.{one_answer}
use Rattle.std.specs.Cmp.Lexicographic.{pointwise}
use Rattle.std.specs.Str.{chars, bytes_eq, encode_utf8_all}
use Rattle.std.proofs.lemmas.Slice.Eq.{bytes_eq-Decides}

pub null_chars : chars (codes "null") ≡ codes "null"
unfolding chars
null_chars = refl

pub true_chars : chars (codes "true") ≡ codes "true"
unfolding chars
true_chars = refl

pub false_chars : chars (codes "false") ≡ codes "false"
unfolding chars
false_chars = refl

length_chars : chars (codes "length") ≡ codes "length"
unfolding chars
length_chars = refl

length_encodes : encode_utf8_all (codes "length") ≡ codes "length"
unfolding lib.Utf8.encode
length_encodes = refl

-- a text is this word where its bytes are
pub length_bytes : (bytes word : List ℕ) → chars bytes ≡ word → encode_utf8_all word ≡ bytes
    → bytes_eq bytes (codes "length") ≡ pointwise nat_eq word (codes "length")
length_bytes bytes word spelled encoded =
    one_answer (bytes_eq bytes (codes "length")) (bytes_eq word (codes "length")) (bytes_eq-Decides bytes (codes "length")) (
      (λ same. sym encoded ∙ ap encode_utf8_all ((bytes_eq-Decides word (codes "length")).0 same) ∙ length_encodes),
      (λ same. (bytes_eq-Decides word (codes "length")).1 (sym spelled ∙ ap chars same ∙ length_chars)),
    )
