-- The last item of a list, taken out and put again.
use Rattle.std.proofs.Common.{◌≡◌, ℕ, zero, suc, ◌+◌, List, [], ◌∷◌, ◌++◌, length, ◌<◌, ◌≤◌, Some, refl, ap, ◌∙◌, sym, append_assoc, arith}
use Rattle.std.specs.Prelude.{slice_get, slice_set, remove}
use Rattle.std.proofs.Math.Seq.{set-append_seam}

-- the item at a list's last place is its last one
pub last_out : {A : Type 0} (items : List A) (n : ℕ) (x : A) → length items ≡ n + 1 → slice_get items n ≡ Some x
    → (length (remove items n) ≡ n) × (items ≡ remove items n ++ x ∷ [])
last_out [] n x e g = absurd (omega arith)
last_out (y ∷ []) zero x e g = (refl, ap (λ z. z ∷ []) (cc))
last_out (y ∷ z ∷ items) zero x e g = absurd (omega arith)
last_out (y ∷ items) (suc n) x e g =
    let rest = last_out items n x (omega arith) g in
    (ap suc rest.0, ap (λ l. y ∷ l) rest.1)

-- what is taken out of the front stands between what is left and what is behind
pub taken_out : {A : Type 0} (items front behind left : List A) (n : ℕ) (x : A) → items ≡ front ++ behind → n < length front → length front ≤ n + 1
    → slice_get front n ≡ Some x → left ≡ remove front n → (length left ≡ n) × (items ≡ left ++ (x ∷ behind))
taken_out items front behind left n x parts within last found rest =
    let out = last_out front n x (omega arith) found in (
      ap length rest ∙ out.0,
      parts ∙ ap (λ l. l ++ behind) out.1 ∙ append_assoc (remove front n) (x ∷ []) behind ∙ ap (λ l. l ++ (x ∷ behind)) (sym rest),
    )

-- a changed item in its place
pub set_between : {A : Type 0} (items left behind : List A) (n : ℕ) (x y : A) → length left ≡ n → items ≡ left ++ (x ∷ behind)
    → slice_set items n y ≡ (left ++ y ∷ []) ++ behind
set_between items left behind n x y size parts =
    ap (λ l. slice_set l n y) parts ∙ ap (λ k. slice_set (left ++ (x ∷ behind)) k y) (sym size)
    ∙ set-append_seam left x behind y ∙ sym (append_assoc left (y ∷ []) behind)

pub get_between : {A : Type 0} (items left behind : List A) (n : ℕ) (x : A) → length left ≡ n → items ≡ left ++ (x ∷ behind) → slice_get items n ≡ Some x
get_between items left behind n x size parts =
    ap (λ l. slice_get l n) parts ∙ ap (slice_get (left ++ (x ∷ behind))) (sym size) ∙ at_seam left
  where
    at_seam : (left : List _) → slice_get (left ++ (x ∷ behind)) (length left) ≡ Some x
    at_seam [] = refl
    at_seam (z ∷ left) = at_seam left
