-- Linked rules of small grammars, and trees of them.
use Rattle.std.specs.Prelude.{ℕ, List, zero, suc, [], ◌∷◌, ◌++◌, Some, None, false, replicate, codes}
use Rattle.vg_base.specs.declared.numbers.NodeIx.{NodeIx}
use Rattle.vg_base.specs.declared.numbers.RuleIx.{RuleIx}
use Rattle.grammar_tree.specs.declared.expansion.TagNode.{TagNode}
use Rattle.grammar_tree.specs.declared.linked.LinkedRule.{LinkedRule}
use Rattle.grammar_tree.specs.declared.linked.Node.TheVariants as node
use Rattle.grammar_tree.specs.declared.parse_tree.ParseTree.{ParseTree}
use Rattle.grammar_tree.specs.declared.parse_tree.ParseTree.TheVariants as tree
use Rattle.grammar_tree.specs.Links.{Rules}
use Rattle.grammar_tree.specs.Derives.{Words}
use Rattle.grammar_tree.specs.Firsts.{RuleFirst}

abbrev pub at : ℕ → NodeIx
at n = record { 0 = n }

abbrev pub rule : ℕ → RuleIx
rule r = record { 0 = r }

-- a private rule of the first document, with a one-letter name
abbrev pub named : ℕ → ℕ → LinkedRule
named letter body = record { doc = record { 0 = 0 }; name = letter ∷ []; public = false; body = at body }

-- the word x, so many times
abbrev pub xs : ℕ → Words
xs = λ count. replicate count (120 ∷ [])

abbrev pub token_x : ParseTree
token_x = tree.Token (xs 1)

-- `$r = ([x] {tag}) <0->;`
abbrev pub empty_turns : TagNode → Rules
empty_turns tag = record {
  nodes = node.Rep 0 None (at 1) ∷ (node.Seq (at 2 ∷ (at 4 ∷ [])) ∷ (node.Rep 0 (Some 1) (at 3) ∷ (node.Token (xs 1) ∷ (node.Tag tag ∷ []))));
  rules = named 114 0 ∷ [];
}

-- `$r = [x] <2>;`
abbrev pub optional_repeated : Rules
optional_repeated = record {
  nodes = node.Rep 2 (Some 2) (at 1) ∷ (node.Rep 0 (Some 1) (at 2) ∷ (node.Token (xs 1) ∷ []));
  rules = named 114 0 ∷ [];
}

-- `$r = (x | x {tag});`
abbrev pub alternatives : TagNode → Rules
alternatives tag = record {
  nodes = node.Alt (at 1 ∷ (at 2 ∷ [])) ∷ (node.Token (xs 1) ∷ (node.Seq (at 3 ∷ (at 4 ∷ [])) ∷ (node.Token (xs 1) ∷ (node.Tag tag ∷ []))));
  rules = named 114 0 ∷ [];
}

-- `$r = $r x | x;`
abbrev pub left_recursion : Rules
left_recursion = record {
  nodes = node.Alt (at 1 ∷ (at 4 ∷ [])) ∷ (node.Seq (at 2 ∷ (at 3 ∷ [])) ∷ (node.Ref (rule 0) ∷ (node.Token (xs 1) ∷ (node.Token (xs 1) ∷ []))));
  rules = named 114 0 ∷ [];
}

-- its tree over one word more than so many
abbrev pub left_tree : ℕ → ParseTree
left_tree zero = tree.Alt 1 token_x
left_tree (suc more) = tree.Alt 0 (tree.Seq (tree.Rule (rule 0) (left_tree more) ∷ (token_x ∷ [])))

-- `$r = $a; $a = $a | x;`
abbrev pub self_reference : Rules
self_reference = record {
  nodes = node.Ref (rule 1) ∷ (node.Alt (at 2 ∷ (at 3 ∷ [])) ∷ (node.Ref (rule 1) ∷ (node.Token (xs 1) ∷ [])));
  rules = named 114 0 ∷ (named 97 1 ∷ []);
}

abbrev pub stop : List ℕ
stop = codes "stop"

-- `$r = $g stop $h {tag}; $g = $GARBAGE; $h = $GARBAGE;`
abbrev pub two_garbages : TagNode → Rules
two_garbages tag = record {
  nodes = node.Seq (at 1 ∷ (at 2 ∷ (at 3 ∷ (at 4 ∷ [])))) ∷ (node.Ref (rule 1) ∷ (node.Token (stop ∷ []) ∷ (node.Ref (rule 2) ∷ (node.Tag tag ∷ (node.Garbage ∷ (node.Garbage ∷ []))))));
  rules = named 114 0 ∷ (named 103 5 ∷ (named 104 6 ∷ []));
}

-- its tree where a `stop` stands between these words
abbrev pub divided : Words → Words → ParseTree
divided before after =
    tree.Seq (tree.Rule (rule 1) (tree.Garbage before) ∷ (tree.Token (stop ∷ []) ∷ (tree.Rule (rule 2) (tree.Garbage after) ∷ (tree.Tag (at 4) ∷ []))))

-- its first tree over the words with a `stop` between these is so divided
abbrev pub Divides : Words → Words → Type 0
Divides before after = (tag : TagNode) → RuleFirst (two_garbages tag) (rule 0) (before ++ stop ∷ after) (divided before after)

-- `$a = ([x] $a) <1-2> | x;`
abbrev pub beside_an_option : Rules
beside_an_option = record {
  nodes = node.Alt (at 1 ∷ (at 6 ∷ [])) ∷ (node.Rep 1 (Some 2) (at 2) ∷ (node.Seq (at 3 ∷ (at 5 ∷ [])) ∷ (node.Rep 0 (Some 1) (at 4) ∷ (node.Token (xs 1) ∷ (node.Ref (rule 0) ∷ (node.Token (xs 1) ∷ []))))));
  rules = named 97 0 ∷ [];
}

-- `$b = (x $b) <1-2> | x;`
abbrev pub beside_a_word : Rules
beside_a_word = record {
  nodes = node.Alt (at 1 ∷ (at 5 ∷ [])) ∷ (node.Rep 1 (Some 2) (at 2) ∷ (node.Seq (at 3 ∷ (at 4 ∷ [])) ∷ (node.Token (xs 1) ∷ (node.Ref (rule 0) ∷ (node.Token (xs 1) ∷ [])))));
  rules = named 98 0 ∷ [];
}
