-- Which nodes hold a rule with nothing beside it, and which rules so derive themselves.
use Rattle.std.specs.Prelude.{ℕ, ◌≡◌, ◌≢◌, ◌≤◌, ◌⊎◌, List, [], ◌∷◌, Option, Some, slice_get, length}
use Rattle.vg_base.specs.declared.numbers.NodeIx.{NodeIx}
use Rattle.vg_base.specs.declared.numbers.RuleIx.{RuleIx}
use Rattle.grammar_tree.specs.declared.linked.Node.TheVariants as node
use Rattle.grammar_tree.specs.Links.{Rules, node_at}
use Rattle.grammar_tree.specs.Derives.{CanBeEmpty, OfBody}

-- the node holds the rule q alone
pub data Alone (L : Rules) : NodeIx → RuleIx → Type 0 where
  at_ref : {n : NodeIx} {q : RuleIx} → node_at L n ≡ Some (node.Ref q) → Alone L n q
  at_seq : {n : NodeIx} {q : RuleIx} (ps : List NodeIx) (k : ℕ) (p : NodeIx) →
      node_at L n ≡ Some (node.Seq ps) → slice_get ps k ≡ Some p → Alone L p q →
      ((j : ℕ) (other : NodeIx) → j ≢ k → slice_get ps j ≡ Some other → CanBeEmpty L other) → Alone L n q
  at_alt : {n : NodeIx} {q : RuleIx} (ps : List NodeIx) (k : ℕ) (p : NodeIx) →
      node_at L n ≡ Some (node.Alt ps) → slice_get ps k ≡ Some p → Alone L p q → Alone L n q
  at_rep : {n : NodeIx} {q : RuleIx} (least : ℕ) (most : Option ℕ) (p : NodeIx) →
      node_at L n ≡ Some (node.Rep least most p) → most ≢ Some 0 → Alone L p q → (least ≤ 1) ⊎ CanBeEmpty L p → Alone L n q

-- rule r leads to q: its body holds q alone
abbrev pub Leads : Rules → RuleIx → RuleIx → Type 0
Leads L r q = OfBody L r (λ n. Alone L n q)

-- each rule leads to the next: from r through the list to q
abbrev pub LeadsThrough : Rules → RuleIx → List RuleIx → RuleIx → Type 0
LeadsThrough L r [] q = Leads L r q
LeadsThrough L r (m ∷ ms) q = Leads L r m × LeadsThrough L m ms q

-- leads go from the rule back to it
abbrev pub SelfDerive : Rules → RuleIx → Type 0
SelfDerive L r = (through : List RuleIx) × LeadsThrough L r through r

abbrev pub NoSelfDerivation : Rules → Type 0
NoSelfDerivation L = (r : RuleIx) → SelfDerive L r → ⊥

-- a path of leads: the node holds the first rule alone, and each rule leads to the next
abbrev pub Path : Rules → NodeIx → List RuleIx → Type 0
Path L n [] = Unit {0}
Path L n (r ∷ rs) = Alone L n r × OfBody L r (λ body. Path L body rs)

-- each path from the node has at most so many rules
pub record Shallow (L : Rules) (n : NodeIx) (bound : ℕ) : Type 0 where
  pub by : (rs : List RuleIx) → Path L n rs → length rs ≤ bound
