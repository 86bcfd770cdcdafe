use Rattle.version_shelf.proofs.Knowing.{once}
use Rattle.version_shelf.proofs.laws.numbers_stand_once.Goals as goal

pub returns : goal.returns
returns g c = λ known n x y r h k. once known n x y r h k
