-- The line so far, and that neither the end nor a fault was met yet.
use Rattle.std.proofs.Common.{◌≡◌, ◌↔◌, ◌+◌, ◌-◌, ◌≤◌, IsTrue}
use Rattle.vg_io.specs.declared.limits.TheConstants.{LINE_LIMIT, INPUT_LIMIT}
use Rattle.vg_io.specs.code.Gathering.{InLine, taking}
use Rattle.vg_io.proofs.gathering.gather.Given as goal

abbrev pub invariant-loop-most : goal.invariant-loop-most
invariant-loop-most g l = let before = g.S.Source.told l.initial.source in
    let now = g.S.Source.told l.source in record {
      line : InLine LINE_LIMIT (taking l.initial.chunk l.initial.taken before.left)
          (taking l.chunk l.taken now.left) l.line;
      small : l.taken ≤ INPUT_LIMIT + 1;
      grown : l.initial.taken ≤ l.taken;
      unmet : IsTrue now.ended ↔ IsTrue before.ended;
      faults : now.faults ≡ before.faults;
      reads : now.reads + l.initial.taken ≤ before.reads + l.taken;
    }

abbrev pub decreases-loop-most : goal.decreases-loop-most
decreases-loop-most g l = INPUT_LIMIT + 1 - l.taken
