use Rattle.std.proofs.Common.{length}
use Rattle.token_forms.proofs.KeyLemmas.{SoMany}
use Rattle.token_forms.proofs.keys.unspelled.Given as goal

abbrev pub invariant-loop-key : goal.invariant-loop-key
invariant-loop-key l = SoMany l.text l.number l.rest

abbrev pub decreases-loop-key : goal.decreases-loop-key
decreases-loop-key l = length l.rest
