use Rattle.std.proofs.Common.{◌∙◌, ◌<◌, length, sym, arith}
use Rattle.std.specs.Option.{option_copied}
use Rattle.linker.specs.Targets as targets
use Rattle.linker.proofs.ScopeLemmas.{reading_at}
use Rattle.linker.proofs.scope.outside.Goals as goal

pub returns-in-Some : goal.returns-in-Some
returns-in-Some c = λ docs own scope low.
    let below : c.args.place < length docs = omega (arith, scope.sized, low) in
    let at = reading_at c.args.place c.in-Some.other.now scope.tables below c.in-Some.ensures in
    c.across.ensures docs c.args.place at.reading at.table ∙ (λ i. targets.across docs (scope.known.mode i) c.args.place (sym at.there i) (option_copied c.args.name))
