-- Whether a text is a word of ASCII is told by its bytes.
use Rattle.std.proofs.Common.{◌≡◌, ℕ, List, true, ap, ◌∙◌, sym}
use Rattle.std.specs.Bool.{one_answer}
use Rattle.std.specs.List.{list_all}
use Rattle.std.specs.Str.{chars, bytes_eq, encode_utf8_all}
use Rattle.std.proofs.lemmas.Slice.Eq.{bytes_eq-Decides}
use Rattle.std.proofs.lemmas.Str.{chars-IsAscii, encodes-IsAscii}
use Rattle.vg_base.proofs.Ascii.{small_ascii}
use Rattle.script_reader.specs.Roles.{is_small}

pub word_bytes : (bytes word keyword : List ℕ) → list_all is_small keyword ≡ true → chars bytes ≡ word → encode_utf8_all word ≡ bytes
    → bytes_eq bytes keyword ≡ bytes_eq word keyword
word_bytes bytes word keyword small spelled encoded =
    let ascii = small_ascii keyword small in
    one_answer (bytes_eq bytes keyword) (bytes_eq word keyword) (bytes_eq-Decides bytes keyword) (
      (λ same. sym encoded ∙ ap encode_utf8_all ((bytes_eq-Decides word keyword).0 same) ∙ encodes-IsAscii keyword ascii),
      (λ same. (bytes_eq-Decides word keyword).1 (sym spelled ∙ ap chars same ∙ chars-IsAscii keyword ascii)),
    )
