-- In a `for` over a record's members, the value at hand is no deeper than the members together.
use Rattle.std.proofs.Common.{◌≡◌, ℕ, ◌≤◌, max, List, Option, Some, Bor}
use denote.Param.Weighed.{most}
use Rattle.std.specs.Map.Iter.{deref_pair, TakesFirst}
use Rattle.std.specs.Iterator.{Yields}
use Rattle.vg_base.proofs.Rising.{walk-deep}
use Rattle.script_value.specs.declared.value.Value.{Value}
use Rattle.script_value.proofs.value.Value.TheLaws.{the_size}

abbrev pub weight : List ℕ × Value → ℕ
weight member = max 0 (the_size member.1)

pub member-deep : (all start rest left : List (List ℕ × Value)) (yielded : List (Bor (List ℕ) × Bor Value)) (next : Option (Bor (List ℕ) × Bor Value)) (pair : Bor (List ℕ) × Bor Value)
    → start ≡ all → Yields (TakesFirst deref_pair) start yielded rest → next ≡ Some pair → TakesFirst deref_pair rest next left
    → weight (pair.0.now, pair.1.now) ≤ most weight all
member-deep all start rest left yielded next pair = walk-deep weight all start rest left yielded next pair
