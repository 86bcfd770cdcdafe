use Rattle.std.proofs.Common.{sym, subst}
use Rattle.linker.specs.Linking.{Links}
use Rattle.linker.proofs.LinkedAnswer as answer
use Rattle.linker.proofs.publication.judge.Goals as goal

pub returns-then-early-gt0 : goal.returns-then-early-gt0
returns-then-early-gt0 c = λ entries docs laid.
    subst (Links c.args.set.now entries c.args.number) (sym c.faulty.ensures)
    (answer.faulty_early c.args.set.now entries docs c.args.tables.items c.args.whole laid c.if-early-gt0.true)
