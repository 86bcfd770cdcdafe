-- The words of the texts so far.
use Rattle.std.proofs.Common.{◌≡◌, take}
use Rattle.server_shell.specs.first_form.Words.{words_of}
use Rattle.server_shell.proofs.first_form.words.words_of.Given as goal

abbrev pub invariant-loop-text : goal.invariant-loop-text
invariant-loop-text l = l.words ≡ words_of (take l.text-index l.texts)
