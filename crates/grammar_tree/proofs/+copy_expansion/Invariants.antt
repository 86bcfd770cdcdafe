use Rattle.std.proofs.Common.{◌≡◌, take}
use Rattle.grammar_tree.proofs.+copy_expansion.Given as goal

abbrev pub invariant-copies::copy_parts-loop-part : goal.invariant-copies::copy_parts-loop-part
invariant-copies::copy_parts-loop-part l = l.copy ≡ take l.part-index l.parts
