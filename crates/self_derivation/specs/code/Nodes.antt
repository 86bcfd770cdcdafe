-- What one node says: which nodes it looks at, how many of them have to be empty, and which parts it may hold alone.
use Rattle.std.specs.Prelude.{ℕ, ◌==◌, ◌||◌, Bool, true, false, not, cond, List, [], ◌∷◌, Option, Some, None, length, slice_get, count_by, nat_le, nat_lt}
use Rattle.std.specs.Option.{option_map_or}
use Rattle.vg_base.specs.declared.numbers.NodeIx.{NodeIx}
use Rattle.vg_base.specs.declared.numbers.RuleIx.{RuleIx}
use Rattle.grammar_tree.specs.declared.linked.LinkedRule.{LinkedRule}
use Rattle.grammar_tree.specs.declared.linked.Node.{Node}
use Rattle.grammar_tree.specs.declared.linked.Node.TheVariants.{Token, Seq, Alt, Rep, Ref, Tag, Null, Void, Garbage}
use Rattle.grammar_tree.specs.Links.{Rules, rule_at, parts}

abbrev pub node_ix : ℕ → NodeIx
node_ix n = record { 0 = n }

abbrev pub reference : Node → Option RuleIx
reference (Token words) = None
reference (Seq ps) = None
reference (Alt ps) = None
reference (Rep least most p) = None
reference (Ref rule) = Some rule
reference (Tag tag) = None
reference Null = None
reference Void = None
reference Garbage = None

-- the body of a rule
abbrev pub body : Rules → RuleIx → List NodeIx
body L r = option_map_or (λ (rule : LinkedRule). rule.body ∷ []) (rule_at L r) []

-- the nodes that a node looks at: its parts, or the body of the rule that it refers to
abbrev pub below : Rules → Node → List NodeIx
below L x = option_map_or (body L) (reference x) (parts x)

-- the same by the node's number
abbrev pub below_at : Rules → ℕ → List NodeIx
below_at L n = option_map_or (below L) (slice_get L.nodes n) []

-- turns past the least have words, so an empty repeat has its least of turns, and none where its most is below
abbrev pub turns_needed : ℕ → Option ℕ → ℕ
turns_needed least None = cond (nat_lt 0 least) 1 0
turns_needed least (Some most) = cond (nat_lt most least) 2 (cond (nat_lt 0 least) 1 0)

-- how many of the nodes that it looks at have to be empty so that it can be
abbrev pub needs : Node → ℕ
needs (Token words) = cond (length words == 0) 0 1
needs (Seq ps) = length ps
needs (Alt ps) = 1
needs (Rep least most p) = turns_needed least most
needs (Ref rule) = 1
needs (Tag tag) = 0
needs Null = 0
needs Void = 1
needs Garbage = 0

-- a repeat takes a turn
abbrev pub takes_turns : Option ℕ → Bool
takes_turns None = true
takes_turns (Some most) = not (most == 0)

-- whether the node holds alone what a part holds alone, by how many of its parts have words always
abbrev pub passes_on : Node → ℕ → Bool → Bool
passes_on (Token words) worded empty = false
passes_on (Seq ps) worded empty = nat_le worded (cond empty 0 1)
passes_on (Alt ps) worded empty = true
passes_on (Rep least most p) worded empty = cond (takes_turns most) (nat_le least 1 || empty) false
passes_on (Ref rule) worded empty = false
passes_on (Tag tag) worded empty = false
passes_on Null worded empty = false
passes_on Void worded empty = false
passes_on Garbage worded empty = false

-- how many of the parts can't be empty
abbrev pub worded : (ℕ → Bool) → List NodeIx → ℕ
worded empty ps = count_by (λ p. not (empty p.0)) ps
