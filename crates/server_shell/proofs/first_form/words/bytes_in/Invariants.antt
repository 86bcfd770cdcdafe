-- The bytes of the words so far, up to one past the most.
use Rattle.std.proofs.Common.{◌≡◌, ◌+◌, min, take}
use Rattle.server_shell.specs.first_form.Words.{bytes_in}
use Rattle.server_shell.proofs.first_form.words.bytes_in.Given as goal

abbrev pub invariant-loop-word : goal.invariant-loop-word
invariant-loop-word l = l.all ≡ min (bytes_in (take l.word-index l.words)) (l.most + 1)
