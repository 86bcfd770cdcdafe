-- The words that a tree has at its leaves.
use Rattle.std.specs.Prelude.{[]}
use Rattle.std.specs.List.{flat_map}
use Rattle.grammar_tree.specs.declared.parse_tree.ParseTree.{ParseTree}
use Rattle.grammar_tree.specs.declared.parse_tree.ParseTree.TheOpen.{ParseTree-F}
use Rattle.grammar_tree.specs.declared.parse_tree.ParseTree.TheFolds.{fold-ParseTree}
use Rattle.grammar_tree.specs.Derives.{Words}

-- one level, with the words of each part in its place
abbrev pub leaves_of_level : ParseTree-F Words → Words
leaves_of_level (ParseTree-F.Token ws) = ws
leaves_of_level (ParseTree-F.Seq parts) = flat_map (λ ws. ws) parts
leaves_of_level (ParseTree-F.Alt taken ws) = ws
leaves_of_level (ParseTree-F.Rep turns) = flat_map (λ ws. ws) turns
leaves_of_level (ParseTree-F.Rule rule ws) = ws
leaves_of_level (ParseTree-F.Tag n) = []
leaves_of_level ParseTree-F.Null = []
leaves_of_level (ParseTree-F.Garbage ws) = ws

abbrev pub leaves : ParseTree → Words
leaves = fold-ParseTree Words leaves_of_level
