use Rattle.linker.proofs.OneListLemmas as lemma
use Rattle.linker.proofs.laws.versions_are_one.Goals as goal

pub returns : goal.returns
returns c = lemma.versions_are_one
