-- The words are an alternative of the text where they are one of the rest.
use Rattle.std.proofs.Common.{length}
use Rattle.std.specs.List.{Contains}
use Rattle.server_shell.specs.first_form.Forms.{alternatives_of}
use Rattle.server_shell.proofs.first_form.form.has_alternative.Given as goal

abbrev pub invariant-loop-part : goal.invariant-loop-part
invariant-loop-part l = record {
  there : Contains (alternatives_of l.rest) l.words
      → Contains (alternatives_of l.alternatives) l.words;
  only : Contains (alternatives_of l.alternatives) l.words
      → Contains (alternatives_of l.rest) l.words;
}

abbrev pub decreases-loop-part : goal.decreases-loop-part
decreases-loop-part l = length l.rest
