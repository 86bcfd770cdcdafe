-- The choices of a tree, in reading order.
use Rattle.std.specs.Prelude.{ℕ, ◌+◌, List, [], ◌∷◌, ◌++◌, Option, Some, None, Bool, true, false, ◌&&◌, nat_le, nat_lt, slice_get}
use Rattle.std.specs.Option.{option_map_or}
use Rattle.vg_base.specs.declared.numbers.NodeIx.{NodeIx}
use Rattle.grammar_tree.specs.declared.linked.Node.{Node}
use Rattle.grammar_tree.specs.declared.linked.Node.TheVariants as node
use Rattle.grammar_tree.specs.declared.parse_tree.ParseTree.{ParseTree}
use Rattle.grammar_tree.specs.declared.parse_tree.ParseTree.TheOpen.{ParseTree-F}
use Rattle.grammar_tree.specs.declared.parse_tree.ParseTree.TheFolds.{fold-ParseTree}
use Rattle.grammar_tree.specs.Links.{Rules, node_at, rule_at}
use Rattle.grammar_tree.specs.Derives.{Words}

-- what a tree chose, once the node is known of which it is a tree
abbrev pub Chosen : Type 0
Chosen = NodeIx → List ℕ

-- the parts of a sequence choose one after another
abbrev pub parts_chosen : List NodeIx → List Chosen → List ℕ
parts_chosen (p ∷ ps) (c ∷ cs) = c p ++ parts_chosen ps cs
parts_chosen _ _ = []

-- after so many turns of a repeat there may be another turn, and there may be none
abbrev pub is_open : ℕ → Option ℕ → ℕ → Bool
is_open least None turns = nat_le least turns
is_open least (Some most) turns = nat_le least turns && nat_lt turns most

abbrev pub choice_if : Bool → ℕ → List ℕ
choice_if true choice = choice ∷ []
choice_if false choice = []

-- where a choice is open, 0 stands before another turn, and 1 after the last
abbrev pub turns_chosen : ℕ → Option ℕ → NodeIx → ℕ → List Chosen → List ℕ
turns_chosen least most p turns [] = choice_if (is_open least most turns) 1
turns_chosen least most p turns (c ∷ cs) = choice_if (is_open least most turns) 0 ++ (c p ++ turns_chosen least most p (turns + 1) cs)

-- 1 before each word that $GARBAGE takes, and 0 at its end
abbrev pub garbage_chosen : Words → List ℕ
garbage_chosen [] = 0 ∷ []
garbage_chosen (w ∷ ws) = 1 ∷ garbage_chosen ws

-- one level of a tree of this node
abbrev pub chosen : Rules → Option Node → ParseTree-F Chosen → List ℕ
chosen L (Some (node.Seq ps)) (ParseTree-F.Seq cs) = parts_chosen ps cs
chosen L (Some (node.Alt ps)) (ParseTree-F.Alt taken c) = taken ∷ option_map_or c (slice_get ps taken) []
chosen L (Some (node.Rep least most p)) (ParseTree-F.Rep cs) = turns_chosen least most p 0 cs
chosen L (Some (node.Ref r)) (ParseTree-F.Rule rule c) = option_map_or (λ linked. c linked.body) (rule_at L r) []
chosen L (Some node.Garbage) (ParseTree-F.Garbage ws) = garbage_chosen ws
chosen L _ _ = []

abbrev pub choices_of_level : Rules → ParseTree-F Chosen → Chosen
choices_of_level L level n = chosen L (node_at L n) level

abbrev pub chosen_by : Rules → ParseTree → Chosen
chosen_by L = fold-ParseTree Chosen (choices_of_level L)

abbrev pub choices : Rules → NodeIx → ParseTree → List ℕ
choices L n t = chosen_by L t n
