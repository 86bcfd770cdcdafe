-- The rules and, after them, the nodes as the vertices of a graph: what one of them holds alone leads on.
use Rattle.std.specs.Prelude.{ℕ, ◌+◌, ◌-◌, ◌≡◌, Bool, cond, List, [], ◌∷◌, map, filter, length, slice_get, nat_lt}
use Rattle.std.specs.Option.{option_map_or}
use Rattle.vg_base.specs.declared.numbers.NodeIx.{NodeIx}
use Rattle.vg_base.specs.declared.numbers.RuleIx.{RuleIx}
use Rattle.grammar_tree.specs.declared.linked.LinkedRule.{LinkedRule}
use Rattle.grammar_tree.specs.declared.linked.Node.{Node}
use Rattle.grammar_tree.specs.Links.{Rules, parts}
use Rattle.self_derivation.specs.code.Marks.{row}
use Rattle.self_derivation.specs.code.Nodes.{reference, passes_on, worded}

-- the vertex of a node stands behind those of the rules
abbrev pub vertex : ℕ → NodeIx → ℕ
vertex rules n = rules + n.0

-- of these parts, those whose rules the node holds alone
abbrev pub passed : ℕ → (ℕ → Bool) → Node → List NodeIx → List ℕ
passed rules empty x ps = map (vertex rules) (filter (λ p. passes_on x (worded empty (parts x)) (empty p.0)) ps)

-- a reference leads to its rule, another node to those of its parts
abbrev pub node_row : Rules → (ℕ → Bool) → Node → List ℕ
node_row L empty x = option_map_or (λ (q : RuleIx). q.0 ∷ []) (reference x) (passed (length L.rules) empty x (parts x))

abbrev pub node_row_at : Rules → (ℕ → Bool) → ℕ → List ℕ
node_row_at L empty n = option_map_or (node_row L empty) (slice_get L.nodes n) []

-- a rule leads to its body
abbrev pub rule_row : Rules → LinkedRule → List ℕ
rule_row L rule = vertex (length L.rules) rule.body ∷ []

abbrev pub row_at : Rules → (ℕ → Bool) → ℕ → List ℕ
row_at L empty v =
    cond (nat_lt v (length L.rules)) (option_map_or (rule_row L) (slice_get L.rules v) []) (node_row_at L empty (v - length L.rules))

-- the rows up to a vertex are there, and the others are bare
abbrev pub HasRows : Rules → (ℕ → Bool) → ℕ → List (List ℕ) → Type 0
HasRows L empty upto rows = (v : ℕ) → row rows v ≡ cond (nat_lt v upto) (row_at L empty v) []
