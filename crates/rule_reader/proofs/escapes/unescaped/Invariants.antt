use Rattle.std.proofs.Common.{◌≡◌, ℕ, true, ◌++◌, length, codes}
use Rattle.uri_links.specs.Allowed.{are_allowed}
use Rattle.rule_reader.specs.References.{unescaped}
use Rattle.rule_reader.proofs.escapes.unescaped.Given as goal

abbrev pub invariant-loop-byte : goal.invariant-loop-byte
invariant-loop-byte l = (are_allowed (codes "/?") l.rest ≡ true) × (l.bytes.items ++ unescaped l.rest ≡ unescaped l.fn.fragment)

abbrev pub decreases-loop-byte : goal.decreases-loop-byte
decreases-loop-byte l = length l.rest
