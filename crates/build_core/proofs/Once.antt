-- A document that was claimed is not claimed again.
use Rattle.std.proofs.Common.{◌≡◌, ℕ, ◌≤◌, false, List, [], ◌∷◌, refl, sym, ap, ◌∙◌, arith}
use Rattle.std.specs.Prelude.{nat_eq}
use Rattle.std.specs.List.{AllByRecursion, IsDistinct}
use Rattle.std.proofs.lemmas.Bool.{ne_eqb}
use Rattle.build_core.specs.declared.event.DocState.TheVariants.{Wanted, Held, Done}
use Rattle.build_core.specs.declared.event.Event.{Event}
use Rattle.build_core.specs.declared.event.Event.TheVariants.{Want, Claim, Finish}
use Rattle.build_core.specs.Core.{Core, at, Enabled, after, IsRun, rank, claims}
use Rattle.build_core.proofs.Keeps.{changed}

-- an event that is enabled lowers no document's rank
rank_rises : (imp : ℕ → ℕ → Type 0) (c : Core) (e : Event) → Enabled imp c e → (a : ℕ) → 2 ≤ rank (at c.docs a) → 2 ≤ rank (at (after c e).docs a)
rank_rises imp c (Want k d) h a low = changed c.docs d.0 Wanted h.0.1 (λ s. 2 ≤ rank s) a (λ e. absurd (let r = ap rank (ap (at c.docs) e ∙ h.0.2) in omega (arith, r, low))) (λ n. low)
rank_rises imp c (Claim k d) h a low = changed c.docs d.0 (Held k) h.0.1 (λ s. 2 ≤ rank s) a (λ e. omega arith) (λ n. low)
rank_rises imp c (Finish k d) h a low = changed c.docs d.0 (Done k) h.0.1 (λ s. 2 ≤ rank s) a (λ e. omega arith) (λ n. low)

-- a document that is held or done isn't claimed
never_again : (imp : ℕ → ℕ → Type 0) (a : ℕ) (c : Core) (es : List Event) → IsRun imp c es → 2 ≤ rank (at c.docs a) → AllByRecursion (λ y. nat_eq a y ≡ false) (claims es)
never_again imp a c [] r low = tt
never_again imp a c (Want k d ∷ es) r low = never_again imp a (after c (Want k d)) es r.1 (rank_rises imp c (Want k d) r.0 a low)
never_again imp a c (Claim k d ∷ es) r low = (
  ne_eqb a d.0 (λ e. let s = ap rank (ap (at c.docs) e ∙ r.0.0.2) in absurd (omega (arith, s, low))),
  never_again imp a (after c (Claim k d)) es r.1 (rank_rises imp c (Claim k d) r.0 a low),
)
never_again imp a c (Finish k d ∷ es) r low = never_again imp a (after c (Finish k d)) es r.1 (rank_rises imp c (Finish k d) r.0 a low)

pub claimed_once : (imp : ℕ → ℕ → Type 0) (c : Core) (es : List Event) → IsRun imp c es → IsDistinct nat_eq (claims es)
unfolding IsDistinct
claimed_once imp c [] r = tt
claimed_once imp c (Want k d ∷ es) r = claimed_once imp (after c (Want k d)) es r.1
claimed_once imp c (Claim k d ∷ es) r = (
  never_again imp d.0 (after c (Claim k d)) es r.1 (changed c.docs d.0 (Held k) r.0.0.1 (λ s. 2 ≤ rank s) d.0 (λ e. omega arith) (λ n. absurd (n refl))),
  claimed_once imp (after c (Claim k d)) es r.1,
)
claimed_once imp c (Finish k d ∷ es) r = claimed_once imp (after c (Finish k d)) es r.1
