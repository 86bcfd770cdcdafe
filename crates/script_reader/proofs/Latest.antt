-- The word `latest`: its bytes are its characters.
use Rattle.std.proofs.Common.{◌≡◌, refl}
use Rattle.std.specs.Prelude.{codes}
use Rattle.std.specs.Str.{chars}

pub latest_chars : chars (codes "latest") ≡ codes "latest"
unfolding chars
latest_chars = refl
