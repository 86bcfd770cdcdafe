use Rattle.std.proofs.Common.{◌≡◌, ◌++◌, take, drop}
use Rattle.vg_base.proofs.cursor.Cursor.go.Given as goal

abbrev pub invariant-loop-turn : goal.invariant-loop-turn
invariant-loop-turn l = record {
  passed : l.self.passed ≡ l.initial.self.passed ++ take l._turn l.initial.self.rest;
  rest : l.self.rest ≡ drop l._turn l.initial.self.rest;
}
