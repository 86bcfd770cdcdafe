-- Numbers that 64 bits don't hold are past the limits of scripts.
use Rattle.std.proofs.Common.{◌≡◌, suc, ◌≤◌, refl, arith}
use Rattle.std.specs.Prelude.{ℤ, pos, negsuc, Bool, true, false, FitsSigned}
use Rattle.std.specs.Int.{w64}
use Rattle.std.proofs.lemmas.Bool.{leb-true}
use Rattle.vg_base.specs.Limits.{script_number}
use Rattle.tag_script.specs.Operators.{is_script_number}

-- a test that can't hold is false
refuted : (b : Bool) → (b ≡ true → ⊥) → b ≡ false
refuted true h = absurd (h refl)
refuted false h = refl

pub past : (z : ℤ) → (FitsSigned w64 z → ⊥) → is_script_number z ≡ false
past (pos n) h = refuted _ (λ t. let small : n ≤ script_number = leb-true n script_number t in h (record { sfits = omega arith }))
past (negsuc n) h = refuted _ (λ t. let small : suc n ≤ script_number = leb-true (suc n) script_number t in h (record { sfits = omega arith }))
