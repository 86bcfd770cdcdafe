-- A role tells the word that has it.
use Rattle.std.proofs.Common.{◌≡◌, ℕ, Bool, true, false, cond, List, refl, codes}
use Rattle.std.specs.Prelude.{bytes_eq}
use Rattle.std.proofs.lemmas.Slice.Eq.{bytes_eq-Decides}
use Rattle.script_reader.specs.declared.lexing.roles.Role.{Role}
use Rattle.script_reader.specs.declared.lexing.roles.Role.TheVariants as r
use Rattle.script_reader.specs.Roles.{role_of, is_reserved}

by_test : {A : Type 0} (b : Bool) (P : A → Type 0) (x y : A) → (b ≡ true → P x) → (b ≡ false → P y) → P (cond b x y)
by_test true P x y f g = f refl
by_test false P x y f g = g refl

abbrev pub Spelt : List ℕ → Role → Type 0
Spelt w r.Out = w ≡ codes "out"
Spelt w r.Rules = w ≡ codes "rules"
Spelt w r.Meta = w ≡ codes "meta"
Spelt w r.True = w ≡ codes "true"
Spelt w r.False = w ≡ codes "false"
Spelt w r.Null = w ≡ codes "null"
Spelt w r.Var = w ≡ codes "var"
Spelt w r.If = w ≡ codes "if"
Spelt w r.Else = w ≡ codes "else"
Spelt w r.Latest = w ≡ codes "latest"
Spelt w r.Current = w ≡ codes "current"
Spelt w r.Text = w ≡ codes "text"
Spelt w r.Reserved = Unit {0}
Spelt w r.Name = Unit {0}

spelt_by : (w k : List ℕ) (role other : Role) → (w ≡ k → Spelt w role) → Spelt w other → Spelt w (cond (bytes_eq w k) role other)
spelt_by w k role other f g = by_test (bytes_eq w k) (Spelt w) role other (λ h. f ((bytes_eq-Decides w k).0 h)) (λ h. g)

pub spelt : (w : List ℕ) → Spelt w (role_of w)
unfolding role_of
spelt w =
    spelt_by w (codes "out") r.Out _ (λ h. h) (
    spelt_by w (codes "rules") r.Rules _ (λ h. h) (
    spelt_by w (codes "meta") r.Meta _ (λ h. h) (
    spelt_by w (codes "true") r.True _ (λ h. h) (
    spelt_by w (codes "false") r.False _ (λ h. h) (
    spelt_by w (codes "null") r.Null _ (λ h. h) (
    spelt_by w (codes "var") r.Var _ (λ h. h) (
    spelt_by w (codes "if") r.If _ (λ h. h) (
    spelt_by w (codes "else") r.Else _ (λ h. h) (
    spelt_by w (codes "latest") r.Latest _ (λ h. h) (
    spelt_by w (codes "current") r.Current _ (λ h. h) (
    spelt_by w (codes "text") r.Text _ (λ h. h) (
    by_test (is_reserved w) (Spelt w) r.Reserved r.Name (λ h. tt) (λ h. tt)))))))))))))
