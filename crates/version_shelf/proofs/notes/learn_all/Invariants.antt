use Rattle.std.proofs.Common.{◌≡◌, ◌<◌, ◌≤◌, ℕ, map, None}
use Rattle.std.specs.Prelude.{slice_index_or}
use Rattle.version_shelf.specs.Known.{facts, KeepsFacts}
use Rattle.version_shelf.proofs.notes.learn_all.Given as goal

abbrev pub invariant-loop-k : goal.invariant-loop-k
invariant-loop-k g l = record {
  same : l.theirs.items ≡ l.fn.theirs.items;
  names : map (λ m. m.cell) l.mine.items ≡ map (λ m. m.cell) l.fn.mine.items;
  keeps : KeepsFacts l.fn.mine.items l.mine.items;
  learnt : (j : ℕ) → j < l.k → slice_index_or (facts l.mine.items) j None ≡ slice_index_or (facts l.fn.theirs.items) j None;
  others : (j : ℕ) → l.k ≤ j → slice_index_or (facts l.mine.items) j None ≡ slice_index_or (facts l.fn.mine.items) j None;
}
