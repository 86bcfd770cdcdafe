use Rattle.std.proofs.Common.{ℕ, ◌≡◌, ◌∙◌, sym, eq-eqb, eqb-true}
use Rattle.std.proofs.lemmas.Nat.Bits.{shr_and_one}
use Rattle.earley_chart.proofs.places.Places.has.Goals as goal

pub returns : goal.returns
returns c = (λ h. sym (shr_and_one c.args.self.0 c.args.place) ∙ eqb-true _ _ h, λ h. eq-eqb _ _ (shr_and_one c.args.self.0 c.args.place ∙ h))
