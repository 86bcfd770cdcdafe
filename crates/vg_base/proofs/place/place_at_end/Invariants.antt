use Rattle.std.proofs.Common.{◌≡◌, ◌-◌, ◌++◌, length}
use Rattle.std.specs.Prelude.{slice_get}
use Rattle.std.specs.Str.{chars, IsUtf8}
use Rattle.std.specs.Str.Iter.{chars_rest}
use Rattle.vg_base.specs.Places.{place_after}
use Rattle.vg_base.proofs.place.place_at_end.Given as goal

abbrev pub invariant-loop-c : goal.invariant-loop-c
invariant-loop-c l = record {
  utf8 : IsUtf8 (chars_rest l.c-iterator);
  split : l.text ≡ l.yielded ++ chars (chars_rest l.c-iterator);
  last_is : l.last ≡ slice_get l.yielded (length l.yielded - 1);
  place_is : l.place ≡ place_after l.yielded;
}
