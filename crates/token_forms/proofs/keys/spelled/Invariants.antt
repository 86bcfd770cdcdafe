use Rattle.std.proofs.Common.{length}
use Rattle.token_forms.proofs.KeyLemmas.{SoFar}
use Rattle.token_forms.proofs.keys.spelled.Given as goal

abbrev pub invariant-loop-key : goal.invariant-loop-key
invariant-loop-key l = SoFar l.text l.keys l.rest

abbrev pub decreases-loop-key : goal.decreases-loop-key
decreases-loop-key l = length l.rest
