-- What a rule and a node lead to in the graph, row after row.
use Rattle.std.proofs.Common.{◌≡◌, ◌⊎◌, ℕ, ◌+◌, ◌-◌, ◌<◌, ◌≤◌, ◌==◌, Bool, true, false, cond, List, [], ◌∷◌, ◌++◌, Some, length, map, get_or, take, replicate, nat_lt, refl, sym, ap, ◌∙◌, subst, arith, inl, inr, filter}
use Rattle.std.specs.Prelude.{slice_get}
use Rattle.std.specs.Option.{option_map_or}
use Rattle.std.proofs.lemmas.Bool.{cases_order, cases_lt, eq-eqb, ne_eqb, lt-ltb, le-ltb}
use Rattle.std.proofs.lemmas.List.{append-nil, map-append}
use Rattle.std.proofs.lemmas.List.Elements.{filter_more}
use Rattle.std.proofs.lemmas.Option.{slice_get_past}
use Rattle.vg_base.specs.declared.numbers.NodeIx.{NodeIx}
use Rattle.vg_base.specs.declared.numbers.RuleIx.{RuleIx}
use Rattle.grammar_tree.specs.declared.linked.LinkedRule.{LinkedRule}
use Rattle.grammar_tree.specs.declared.linked.Node.{Node}
use Rattle.grammar_tree.specs.declared.linked.Node.TheVariants as node
use Rattle.grammar_tree.specs.Links.{Rules, RefersBelow, parts}
use Rattle.self_derivation.specs.code.Marks.{row, Grown}
use Rattle.self_derivation.specs.code.Nodes.{reference, passes_on, worded}
use Rattle.self_derivation.specs.code.Steps.{vertex, passed, node_row, node_row_at, rule_row, row_at, HasRows}
use Rattle.self_derivation.proofs.Tallies.{row_bare, grown_row}

-- ---- parts

-- whether the node holds alone what the part holds alone
abbrev pub passes : (ℕ → Bool) → Node → NodeIx → Bool
passes E x p = passes_on x (worded E (parts x)) (E p.0)

pub passed_more : (rules : ℕ) (E : ℕ → Bool) (x : Node) (ps : List NodeIx) (i : ℕ) (d : NodeIx) → i < length ps →
    passed rules E x (take (i + 1) ps) ≡ passed rules E x (take i ps) ++ cond (passes E x (get_or ps i d)) (vertex rules (get_or ps i d) ∷ []) []
passed_more rules E x ps i d lt =
    ap (map (vertex rules)) (filter_more (passes E x) ps i d lt)
    ∙ map-append (vertex rules) (filter (passes E x) (take i ps)) (cond (passes E x (get_or ps i d)) (get_or ps i d ∷ []) [])
    ∙ ap (λ l. passed rules E x (take i ps) ++ l) (one (passes E x (get_or ps i d)))
  where
    one : (b : Bool) → map (vertex rules) (cond b (get_or ps i d ∷ []) []) ≡ cond b (vertex rules (get_or ps i d) ∷ []) []
    one true = refl
    one false = refl

pub refers_below : (count : ℕ) (x : Node) (r : RuleIx) → RefersBelow count x → reference x ≡ Some r → r.0 < count
refers_below count (node.Token words) r below is = absurd (cc)
refers_below count (node.Seq ps) r below is = absurd (cc)
refers_below count (node.Alt ps) r below is = absurd (cc)
refers_below count (node.Rep least most p) r below is = absurd (cc)
refers_below count (node.Ref q) r below is = let same : q ≡ r = cc in subst (λ (s : RuleIx). s.0 < count) same below
refers_below count (node.Tag tag) r below is = absurd (cc)
refers_below count node.Null r below is = absurd (cc)
refers_below count node.Void r below is = absurd (cc)
refers_below count node.Garbage r below is = absurd (cc)

-- ---- rows

module _ (L : Rules) (E : ℕ → Bool) where
  pub row_of_rule : (r : ℕ) (rule : LinkedRule) → slice_get L.rules r ≡ Some rule → r < length L.rules → row_at L E r ≡ rule_row L rule
  row_of_rule r rule is lt =
      ap (λ b. cond b (option_map_or (rule_row L) (slice_get L.rules r) []) (node_row_at L E (r - length L.rules))) (lt-ltb r (length L.rules) lt)
      ∙ ap (λ o. option_map_or (rule_row L) o []) is

  pub row_of_node : (n : ℕ) → row_at L E (length L.rules + n) ≡ node_row_at L E n
  row_of_node n =
      let e : length L.rules + n - length L.rules ≡ n = omega arith in
      ap (λ b. cond b (option_map_or (rule_row L) (slice_get L.rules (length L.rules + n)) []) (node_row_at L E (length L.rules + n - length L.rules)))
      (le-ltb (length L.rules + n) (length L.rules) (omega arith))
      ∙ ap (node_row_at L E) e

  pub node_row_is : (n : ℕ) (x : Node) → slice_get L.nodes n ≡ Some x → node_row_at L E n ≡ node_row L E x
  node_row_is n x is = ap (λ o. option_map_or (node_row L E) o []) is

  pub no_rows : (count : ℕ) → HasRows L E 0 (replicate count [])
  no_rows count v = row_bare count v ∙ sym (ap (λ b. cond b (row_at L E v) []) (le-ltb v 0 (omega arith)))

  pub rows_next : (v : ℕ) (a b : List (List ℕ)) → HasRows L E v a → v < length a → Grown v (row_at L E v) a b → HasRows L E (v + 1) b
  rows_next v a b has lt grown w = grown_row v (row_at L E v) a b lt grown w ∙ ap (λ r. r ++ cond (v == w) (row_at L E v) []) (has w) ∙ at (cases_order w v)
    where
      Next : Type 0
      Next = cond (nat_lt w v) (row_at L E w) [] ++ cond (v == w) (row_at L E v) [] ≡ cond (nat_lt w (v + 1)) (row_at L E w) []

      when : (x y z : Bool) → nat_lt w v ≡ x → (v == w) ≡ y → nat_lt w (v + 1) ≡ z → cond x (row_at L E w) [] ++ cond y (row_at L E v) [] ≡ cond z (row_at L E w) [] → Next
      when x y z ex ey ez h = rw (ex, ey, ez) h

      at : (w ≡ v) ⊎ ((w < v) ⊎ (v < w)) → Next
      at (inl e) = when false true true (le-ltb w v (omega arith)) (eq-eqb v w (sym e)) (lt-ltb w (v + 1) (omega arith)) (ap (row_at L E) (sym e))
      at (inr (inl less)) = when true false true (lt-ltb w v less) (ne_eqb v w (λ e. absurd (omega arith))) (lt-ltb w (v + 1) (omega arith)) (append-nil (row_at L E w))
      at (inr (inr more)) = when false false false (le-ltb w v (omega arith)) (ne_eqb v w (λ e. absurd (omega arith))) (le-ltb w (v + 1) (omega arith)) refl

  -- where all rows are there, past the last one both are bare
  pub all_rows : (rows : List (List ℕ)) → HasRows L E (length L.rules + length L.nodes) rows → (v : ℕ) → row rows v ≡ row_at L E v
  all_rows rows has v = has v ∙ at (cases_lt v (length L.rules + length L.nodes))
    where
      past : length L.rules + length L.nodes ≤ v → [] ≡ row_at L E v
      past le =
          let e : length L.rules + (v - length L.rules) ≡ v = omega arith in
          let none : row_at L E (length L.rules + (v - length L.rules)) ≡ [] =
          row_of_node (v - length L.rules) ∙ ap (λ o. option_map_or (node_row L E) o []) (slice_get_past L.nodes (v - length L.rules) (omega arith)) in
          sym none ∙ ap (row_at L E) e

      at : (v < length L.rules + length L.nodes) ⊎ (length L.rules + length L.nodes ≤ v) → cond (nat_lt v (length L.rules + length L.nodes)) (row_at L E v) [] ≡ row_at L E v
      at (inl lt) = ap (λ b. cond b (row_at L E v) []) (lt-ltb v (length L.rules + length L.nodes) lt)
      at (inr le) = ap (λ b. cond b (row_at L E v) []) (le-ltb v (length L.rules + length L.nodes) le) ∙ past le
