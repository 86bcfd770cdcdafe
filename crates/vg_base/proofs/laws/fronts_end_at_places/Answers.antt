use Rattle.vg_base.proofs.Places.{IsPlace-front}
use Rattle.vg_base.proofs.laws.fronts_end_at_places.Goals as goal

pub returns : goal.returns
returns c = IsPlace-front
