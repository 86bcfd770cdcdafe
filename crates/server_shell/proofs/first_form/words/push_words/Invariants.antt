-- Words added, and those of the rest.
use Rattle.std.proofs.Common.{◌≡◌, ◌++◌, length}
use Rattle.server_shell.specs.first_form.Words.{words_in}
use Rattle.server_shell.proofs.first_form.words.push_words.Given as goal

-- the words added so far and those of the rest are those of the text
abbrev pub invariant-loop-part : goal.invariant-loop-part
invariant-loop-part l = l.words ++ words_in l.rest ≡ l.initial.words ++ words_in l.fn.text

abbrev pub decreases-loop-part : goal.decreases-loop-part
decreases-loop-part l = length l.rest
