use Rattle.linker.proofs.OneListLemmas as lemma
use Rattle.linker.proofs.laws.faults_are_one.Goals as goal

pub returns : goal.returns
returns c = lemma.faults_are_one
