use Rattle.abnf_parser.proofs.RoleLemmas.{Shown}
use Rattle.abnf_parser.proofs.read.lexemes_of.Given as goal

abbrev pub invariant-loop-span : goal.invariant-loop-span
invariant-loop-span l = Shown l.text l.spans l.lexemes l.span-index
