use Rattle.std.proofs.Common.{◌++◌, take, sym, subst}
use Rattle.std.proofs.lemmas.List.{append-nil, take_all}
use Rattle.linker.specs.SetFaults.{entry_faults}
use Rattle.linker.specs.code.Tellings.{Keeps}
use Rattle.linker.proofs.TellingLemmas.{entries_more}
use Rattle.linker.proofs.entries.tell_absent.Goals as goal

pub loop-key-init : goal.loop-key-init
loop-key-init c = λ all keeps. subst (λ faults. Keeps faults c.args.faults.now) (sym (append-nil all)) keeps

pub loop-key-preserved : goal.loop-key-preserved
loop-key-preserved c = λ all keeps.
    let keys = c.args.keys.now in
    let i = c.loop-key.key-index in
    subst (λ faults. Keeps faults c.tell.new.self) (entries_more keys i c.key-item.result all c.loop-key-test.true c.key-item.is)
    (c.in_ok-tell.ensures (all ++ entry_faults (take i keys)) (c.loop-key.invariant all keeps))

pub returns : goal.returns
returns c = λ all keeps.
    let keys = c.args.keys.now in
    let i = c.loop-key.key-index in
    subst (λ keys. Keeps (all ++ entry_faults keys) c.loop-key.faults) (take_all i keys c.loop-key-test.false) (c.loop-key.invariant all keeps)
