-- How many nodes an expansion has, as it is written and with its repeats multiplied out.
use Rattle.std.specs.Prelude.{ℕ, ◌+◌, ◌*◌, ◌≤◌, max, sum, Option, None, Some, List, map}
use Rattle.grammar_tree.specs.declared.expansion.Expansion.{Expansion}
use Rattle.grammar_tree.specs.declared.expansion.Expansion.TheOpen.{Expansion-F}
use Rattle.grammar_tree.specs.declared.expansion.Expansion.TheFolds.{fold-Expansion}

-- how many turns of a repeat count
abbrev pub turns_of : ℕ → Option ℕ → ℕ
turns_of least None = least + 1
turns_of least (Some most) = max 1 most

-- one level, with the size of each part in its place
abbrev pub size_of_level : Expansion-F ℕ → ℕ
size_of_level (Expansion-F.Seq parts) = 1 + sum parts
size_of_level (Expansion-F.Alt parts) = 1 + sum parts
size_of_level (Expansion-F.Rep least most inner) = 1 + turns_of least most * inner
size_of_level (Expansion-F.Token words) = 1
size_of_level (Expansion-F.Ref reference) = 1
size_of_level (Expansion-F.Tag tag) = 1
size_of_level Expansion-F.Null = 1
size_of_level Expansion-F.Void = 1
size_of_level Expansion-F.Garbage = 1

abbrev pub size_of : Expansion → ℕ
size_of = fold-Expansion ℕ size_of_level

abbrev pub total_size : List Expansion → ℕ
total_size parts = sum (map size_of parts)

-- the same as it is written: a repeat and its inner node once
abbrev pub node_count_of_level : Expansion-F ℕ → ℕ
node_count_of_level (Expansion-F.Seq parts) = 1 + sum parts
node_count_of_level (Expansion-F.Alt parts) = 1 + sum parts
node_count_of_level (Expansion-F.Rep least most inner) = 1 + inner
node_count_of_level (Expansion-F.Token words) = 1
node_count_of_level (Expansion-F.Ref reference) = 1
node_count_of_level (Expansion-F.Tag tag) = 1
node_count_of_level Expansion-F.Null = 1
node_count_of_level Expansion-F.Void = 1
node_count_of_level Expansion-F.Garbage = 1

abbrev pub node_count : Expansion → ℕ
node_count = fold-Expansion ℕ node_count_of_level

-- no more nodes are written than the size counts
abbrev pub NodesAreWithinSize : Type 0
NodesAreWithinSize = (e : Expansion) → node_count e ≤ size_of e
