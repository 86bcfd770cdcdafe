use Rattle.std.proofs.Common.{ℕ, ◌<◌}
use Rattle.earley_chart.specs.Places.{Has}
use Rattle.parse_choice.specs.code.Ways.{HasAt, IsCompleted, Suffices}
use Rattle.parse_choice.proofs.accepted.Turns.completed.Given as goal

abbrev pub invariant-loop-words : goal.invariant-loop-words
invariant-loop-words l = record {
  from : (j : ℕ) → Has l.all j → IsCompleted l.self l.made l.empty j;
  has : (j words : ℕ) → words < l.words → HasAt l.self.ways words j → Suffices l.self.repeat l.made words l.empty → Has l.all j;
}
