-- A number from 0 on as an index.
use Rattle.std.proofs.Common.{◌≡◌, ℕ, ℤ, pos, negsuc, nat_abs, ap, sym}
use Rattle.std.specs.Int.{FitsUnsignedBits}

pub index_of : (z : ℤ) (i : ℕ) → FitsUnsignedBits 64 z → i ≡ nat_abs z → z ≡ pos i
index_of (pos n) i fits e = ap pos (sym e)
index_of (negsuc n) i fits e = absurd fits
