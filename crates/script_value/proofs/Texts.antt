-- Texts have bytes where they have characters.
use Rattle.std.proofs.Common.{◌≡◌, ℕ, List, length, nat_lt, arith}
use Rattle.std.proofs.lemmas.Bool.Decides.{nat_tests}
use Rattle.vg_base.specs.Characters.{byte_len}
use Rattle.vg_base.proofs.Bytes.{length-le-byte_len, byte_len-le-length}

pub some_bytes : (text : List ℕ) → nat_lt 0 (byte_len text) ≡ nat_lt 0 (length text)
some_bytes text =
    let low = length-le-byte_len text in
    let high = byte_len-le-length text in
    grind (arith, nat_tests)
