use Rattle.std.proofs.Common.{take}
use Rattle.token_forms.proofs.CountLemmas.{Paid}
use Rattle.token_forms.proofs.counts.words_fit.Given as goal

-- what is left behind the words of the texts so far
abbrev pub invariant-loop-text : goal.invariant-loop-text
invariant-loop-text l = Paid l.fn.most l.left (take l.text-index l.texts)
