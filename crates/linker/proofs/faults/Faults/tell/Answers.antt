use Rattle.std.proofs.Common.{◌≡◌, ◌<◌, ◌≤◌, ◌∷◌, ◌++◌, [], length, arith}
use Rattle.std.proofs.lemmas.Grind.{common_steps}
use Rattle.linker.specs.declared.faults.Faults.{Faults}
use Rattle.linker.specs.SetFaults.{fault_at}
use Rattle.linker.proofs.TellingLemmas.{kept_more, counted_more}
use Rattle.linker.proofs.faults.Faults.tell.Goals as goal
use Rattle.linker.proofs.faults.Faults.tell.Goals.{then-len-lt-KEPT+in_ok-copy+in_ok-push, else-len-lt-KEPT}

pub returns : goal.returns
returns c = λ all keeps.
    let fault = fault_at c.args.key.now c.args.place c.args.kind in
    let new : Faults = record { first = c.if-len-lt-KEPT.self.first; count = c.in_ok-count.count } in
    let sum = rw c.in_ok-count.ensures.ok_part at c.checked_add.ensures in
    elim c.if-len-lt-KEPT.branch [
      | then-len-lt-KEPT+in_ok-copy+in_ok-push w ↦
          let few : length c.args.self.now.first < 64 = omega (arith, w.if-len-lt-KEPT.true, c.len.ensures) in
          let pushed : c.if-len-lt-KEPT.self.first ≡ c.args.self.now.first ++ fault ∷ [] = first_of (cc, grind (arith, common_steps)) in
          kept_more fault new keeps few (pushed, sum.1)
      | else-len-lt-KEPT w ↦
          let many : 64 ≤ length c.args.self.now.first = omega (arith, w.if-len-lt-KEPT.false, c.len.ensures) in
          let same : c.if-len-lt-KEPT.self.first ≡ c.args.self.now.first = first_of (cc, grind (arith, common_steps)) in
          counted_more fault new keeps many (same, sum.1)
    ]
