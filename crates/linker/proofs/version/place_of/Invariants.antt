use Rattle.std.proofs.Common.{◌≡◌, drop}
use Rattle.std.specs.List.{position_from}
use Rattle.std.specs.Prelude.{nat_eq}
use Rattle.std.specs.Cmp.Lexicographic.{pointwise}
use Rattle.linker.specs.Versions.{doc_under}
use Rattle.linker.proofs.version.place_of.Given as goal

-- what is found behind the documents so far is what is found
abbrev pub invariant-loop-place : goal.invariant-loop-place
invariant-loop-place l = doc_under l.key l.docs ≡ position_from (λ doc. pointwise nat_eq doc.key l.key) l.place (drop l.place l.docs)
