-- The words so far, joined; the first is told by the place.
use Rattle.std.proofs.Common.{◌≡◌, take, nat_eq}
use Rattle.std.specs.List.{join_with_byte}
use Rattle.server_shell.proofs.first_form.words.joined.Given as goal

abbrev pub invariant-loop-word : goal.invariant-loop-word
invariant-loop-word l = (l.text ≡ join_with_byte 32 (take l.word-index l.words))
    × (l.is_first ≡ nat_eq l.word-index 0)
