use Rattle.std.specs.Prelude.{nat_eq}
use Rattle.std.specs.Cmp.Lexicographic.{pointwise}
use Rattle.std.proofs.lemmas.Iterator.Adapters.{position_from-zero}
use Rattle.linker.specs.declared.version.VersionDoc.{VersionDoc}
use Rattle.linker.proofs.version.place_of.Goals as goal

pub loop-place-init : goal.loop-place-init
loop-place-init c = position_from-zero (λ (doc : VersionDoc). pointwise nat_eq doc.key c.args.key.now) c.args.docs.now
