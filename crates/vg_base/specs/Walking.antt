-- What a walk keeps: the place and the byte at which it stands.
use Rattle.std.specs.Prelude.{◌≡◌, ◌≤◌, length, take, drop}
use Rattle.vg_base.specs.declared.cursor.Cursor.TheInside.{Inside}
use Rattle.vg_base.specs.Characters.{byte_len}
use Rattle.vg_base.specs.Places.{Walked, place_after}

abbrev pub walked : Inside → Walked
walked w = record { passed = take w.at w.characters.now; rest = drop w.at w.characters.now }

pub record IsWalk (w : Inside) : Type 0 where
  pub within : w.at ≤ length w.characters.now
  pub byte_is : w.byte ≡ byte_len (take w.at w.characters.now)
  pub place_is : w.place ≡ place_after (take w.at w.characters.now)
