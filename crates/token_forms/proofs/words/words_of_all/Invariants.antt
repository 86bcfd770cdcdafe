use Rattle.std.proofs.Common.{take}
use Rattle.token_forms.specs.Words.{AreWordsOf}
use Rattle.token_forms.proofs.words.words_of_all.Given as goal

-- the words so far are those of the texts so far
abbrev pub invariant-loop-text : goal.invariant-loop-text
invariant-loop-text l = AreWordsOf l.words (take l.text-index l.texts)
