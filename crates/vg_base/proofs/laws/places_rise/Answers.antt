use Rattle.vg_base.proofs.PlacesRise.{places-not_back, places-rise}
use Rattle.vg_base.proofs.laws.places_rise.Goals as goal

pub returns-clause-not_back : goal.returns-clause-not_back
returns-clause-not_back c = places-not_back

pub returns-clause-later : goal.returns-clause-later
returns-clause-later c = places-rise
