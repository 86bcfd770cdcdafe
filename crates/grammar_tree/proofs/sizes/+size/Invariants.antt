use Rattle.std.proofs.Common.{◌≡◌, ◌+◌, min, take}
use Rattle.grammar_tree.specs.Size.{total_size}
use Rattle.grammar_tree.proofs.sizes.+size.Given as goal

abbrev pub invariant-size_of_parts-loop-part : goal.invariant-size_of_parts-loop-part
invariant-size_of_parts-loop-part l = l.all ≡ min (1 + total_size (take l.part-index l.parts)) 65537
