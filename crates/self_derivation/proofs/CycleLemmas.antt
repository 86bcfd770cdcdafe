-- Leads of rules and paths of the graph. What a node holds alone is at the end of a path from it (`alone_leads`), so leads
-- from a rule back to it are a cycle (`is_cycle`). A path to a rule is cut at the first rule that it meets: up to there it goes
-- from a node to a part of it, so the node holds that rule alone (`from_node`), and a cycle is leads (`is_self_derivation`).
use Rattle.std.proofs.Common.{◌≡◌, ◌⊎◌, ⊎_elim, ℕ, zero, suc, ◌<◌, Bool, true, List, [], ◌∷◌, ◌++◌, Some, length, take, refl, sym, ap, ◌∙◌, subst, arith, inl, inr}
use Rattle.std.specs.Prelude.{◌↔◌, slice_get, Contains}
use Rattle.std.specs.Option.{option_map_or}
use Rattle.std.proofs.lemmas.List.{length-take}
use Rattle.std.proofs.lemmas.Option.{slice_get_cases, slice_get_within, get_or_from_slice_get}
use Rattle.vg_base.specs.declared.numbers.NodeIx.{NodeIx}
use Rattle.vg_base.specs.declared.numbers.RuleIx.{RuleIx}
use Rattle.grammar_tree.specs.declared.linked.LinkedRule.{LinkedRule}
use Rattle.grammar_tree.specs.declared.linked.Node.{Node}
use Rattle.grammar_tree.specs.declared.linked.Node.TheVariants as node
use Rattle.grammar_tree.specs.Links.{Rules, IsLinked, RefersBelow, parts, node_at, rule_at}
use Rattle.grammar_tree.specs.Derives.{CanBeEmpty}
use Rattle.grammar_tree.specs.Alone.{Alone, at_ref, at_seq, at_alt, at_rep, Leads, LeadsThrough, SelfDerive}
use Rattle.graph_cycles.specs.Graphs.{LeadsTo, IsOnCycle}
use Rattle.graph_cycles.specs.Graphs as graph
use Rattle.self_derivation.specs.code.Marks.{row}
use Rattle.self_derivation.specs.code.Nodes.{node_ix}
use Rattle.self_derivation.specs.code.Steps.{vertex, passed, node_row, rule_row, row_at}
use Rattle.self_derivation.proofs.StepLemmas.{passes, row_of_rule, row_of_node, node_row_is}
use Rattle.self_derivation.proofs.PartLemmas.{InPassed, in_one, in_none, in_passed, of_passed, seq_passes, rep_passes, alone_by_part}

-- the rows are those of linked rules whose nodes that can be empty are marked
pub record IsGraphOf (L : Rules) (E : ℕ → Bool) (rows : List (List ℕ)) : Type 0 where
  pub linked : IsLinked L
  pub exact : (n : ℕ) → (E n ≡ true) ↔ CanBeEmpty L (node_ix n)
  pub has : (v : ℕ) → row rows v ≡ row_at L E v

joined : (rows : List (List ℕ)) (x : ℕ) (ms : List ℕ) (y : ℕ) (ns : List ℕ) (z : ℕ) → graph.LeadsThrough rows x ms y → graph.LeadsThrough rows y ns z →
    graph.LeadsThrough rows x (ms ++ y ∷ ns) z
joined rows x [] y ns z one other = (one, other)
joined rows x (m ∷ ms) y ns z one other = (one.0, joined rows m ms y ns z one.1 other)

taken : (xs : List Bool) (n k : ℕ) → k < n → slice_get (take n xs) k ≡ slice_get xs k
taken xs zero k lt = absurd (omega arith)
taken [] (suc n) k lt = refl
taken (x ∷ xs) (suc n) zero lt = refl
taken (x ∷ xs) (suc n) (suc k) lt = taken xs n k (omega arith)

taken_below : (xs : List Bool) (n k : ℕ) → slice_get (take n xs) k ≡ Some true → k < n
taken_below xs n k h = omega (arith, slice_get_within (take n xs) k true h, length-take n xs)

module _ (L : Rules) (E : ℕ → Bool) (rows : List (List ℕ)) (is : IsGraphOf L E rows) where
  -- a path of the graph
  abbrev Leading : ℕ → ℕ → Type 0
  Leading x y = (through : List ℕ) × graph.LeadsThrough rows x through y

  abbrev at_node : NodeIx → ℕ
  at_node n = vertex (length L.rules) n

  node_rows : (n : NodeIx) (x : Node) → node_at L n ≡ Some x → row rows (at_node n) ≡ node_row L E x
  node_rows n x here = is.has (at_node n) ∙ row_of_node L E n.0 ∙ node_row_is L E n.0 x here

  rule_rows : (r : RuleIx) (rule : LinkedRule) → rule_at L r ≡ Some rule → row rows r.0 ≡ rule_row L rule
  rule_rows r rule here = is.has r.0 ∙ row_of_rule L E r.0 rule here (slice_get_within L.rules r.0 rule here)

  contains_one : (x : ℕ) → Contains (x ∷ []) x
  contains_one x = (0, omega arith, refl)

  -- ---- leads are paths

  ref_leads : (n : NodeIx) (q : RuleIx) → node_at L n ≡ Some (node.Ref q) → LeadsTo rows (at_node n) q.0
  ref_leads n q here = subst (λ l. Contains l q.0) (sym (node_rows n (node.Ref q) here)) (contains_one q.0)

  part_leads : (n : NodeIx) (x : Node) (k : ℕ) (p : NodeIx) → row rows (at_node n) ≡ passed (length L.rules) E x (parts x) → slice_get (parts x) k ≡ Some p × (passes E x p ≡ true) → LeadsTo rows (at_node n) (at_node p)
  part_leads n x k p here h = subst (λ l. Contains l (at_node p)) (sym here) (in_passed (length L.rules) E x (parts x) k p h.0 h.1)

  alone_leads : (n : NodeIx) (q : RuleIx) → Alone L n q → Leading (at_node n) q.0
  alone_leads n q (at_ref here) = ([], ref_leads n q here)
  alone_leads n q (at_seq ps k p here g a others) =
      let more = alone_leads p q a in
      (at_node p ∷ more.0, (part_leads n (node.Seq ps) k p (node_rows n (node.Seq ps) here) (g, seq_passes L E is.exact ps k p g others), more.1))
  alone_leads n q (at_alt ps k p here g a) =
      let more = alone_leads p q a in
      (at_node p ∷ more.0, (part_leads n (node.Alt ps) k p (node_rows n (node.Alt ps) here) (g, refl), more.1))
  alone_leads n q (at_rep least most p here some a empty) =
      let more = alone_leads p q a in
      (at_node p ∷ more.0, (part_leads n (node.Rep least most p) 0 p (node_rows n (node.Rep least most p) here) (refl, rep_passes L E is.exact least most p some empty), more.1))

  lead_path : (r q : RuleIx) → Leads L r q → Leading r.0 q.0
  lead_path r q h =
      let more = alone_leads h.0.body q h.2 in
      (at_node h.0.body ∷ more.0, (subst (λ l. Contains l (at_node h.0.body)) (sym (rule_rows r h.0 h.1)) (contains_one (at_node h.0.body)), more.1))

  leads_path : (r : RuleIx) (ms : List RuleIx) (q : RuleIx) → LeadsThrough L r ms q → Leading r.0 q.0
  leads_path r [] q h = lead_path r q h
  leads_path r (m ∷ ms) q h =
      let one = lead_path r m h.0 in
      let more = leads_path m ms q h.1 in
      (one.0 ++ m.0 ∷ more.0, joined rows r.0 one.0 m.0 more.0 q.0 one.1 more.1)

  pub is_cycle : (r : RuleIx) → SelfDerive L r → IsOnCycle rows r.0
  is_cycle r h = leads_path r h.0 r h.1

  -- ---- paths are leads

  -- one step from a node: to the rule of a reference, or to a part that passes
  abbrev Step : NodeIx → ℕ → Type 0
  Step n y =
      ((q : RuleIx) × (node_at L n ≡ Some (node.Ref q)) × (q.0 < length L.rules) × (y ≡ q.0))
      ⊎ ((x : Node) × (node_at L n ≡ Some x) × InPassed (length L.rules) E x (parts x) y)

  ref_below : (n : NodeIx) (q : RuleIx) → node_at L n ≡ Some (node.Ref q) → q.0 < length L.rules
  ref_below n q here =
      let within = slice_get_within L.nodes n.0 (node.Ref q) here in
      subst (RefersBelow (length L.rules)) (get_or_from_slice_get L.nodes n.0 (node.Ref q) (node.Ref q) here) (is.linked.refers n.0 (node.Ref q) within)

  to_part : (n : NodeIx) (x : Node) (y : ℕ) → node_at L n ≡ Some x → Contains (passed (length L.rules) E x (parts x)) y → Step n y
  to_part n x y here c = inr (x, here, of_passed (length L.rules) E x (parts x) y c)

  step_by_kind : (n : NodeIx) (x : Node) (y : ℕ) → node_at L n ≡ Some x → Contains (node_row L E x) y → Step n y
  step_by_kind n (node.Ref q) y here c = inl (q, here, ref_below n q here, sym (in_one q.0 y c))
  step_by_kind n (node.Token words) y here c = to_part n (node.Token words) y here c
  step_by_kind n (node.Seq ps) y here c = to_part n (node.Seq ps) y here c
  step_by_kind n (node.Alt ps) y here c = to_part n (node.Alt ps) y here c
  step_by_kind n (node.Rep least most p) y here c = to_part n (node.Rep least most p) y here c
  step_by_kind n (node.Tag tag) y here c = to_part n (node.Tag tag) y here c
  step_by_kind n node.Null y here c = to_part n node.Null y here c
  step_by_kind n node.Void y here c = to_part n node.Void y here c
  step_by_kind n node.Garbage y here c = to_part n node.Garbage y here c

  node_step : (n : NodeIx) (y : ℕ) → LeadsTo rows (at_node n) y → Step n y
  node_step n y c =
      ⊎_elim
      (λ h. step_by_kind n h.0 y h.2 (subst (λ l. Contains l y) (node_rows n h.0 h.2) c))
      (λ h. absurd (in_none y (subst (λ l. Contains l y) (is.has (at_node n) ∙ row_of_node L E n.0 ∙ ap (λ o. option_map_or (node_row L E) o []) h.1) c)))
      (slice_get_cases L.nodes n.0).1

  rule_step : (r : RuleIx) (y : ℕ) → r.0 < length L.rules → LeadsTo rows r.0 y → (rule : LinkedRule) × (rule_at L r ≡ Some rule) × (at_node rule.body ≡ y)
  rule_step r y lt c =
      ⊎_elim
      (λ h. (h.0, h.2, in_one (at_node h.0.body) y (subst (λ l. Contains l y) (rule_rows r h.0 h.2) c)))
      (λ h. absurd (omega (arith, h.0)))
      (slice_get_cases L.rules r.0).1

  -- the node holds a rule alone that is r or leads to r
  abbrev Arrives : NodeIx → RuleIx → Type 0
  Arrives n r = (q : RuleIx) × Alone L n q × ((q ≡ r) ⊎ ((ms : List RuleIx) × LeadsThrough L q ms r))

  abbrev Led : RuleIx → RuleIx → Type 0
  Led q r = (ms : List RuleIx) × LeadsThrough L q ms r

  same_rule : (a b : RuleIx) → a.0 ≡ b.0 → a ≡ b
  same_rule a b e = ap make e
    where
      make : ℕ → RuleIx
      make k = record { 0 = k }

  by_body : (r q : RuleIx) (rule : LinkedRule) → rule_at L r ≡ Some rule → Arrives rule.body q → Led r q
  by_body r q rule here a =
      ⊎_elim
      (λ e. ([], (rule, here, subst (λ (s : RuleIx). Alone L rule.body s) e a.1)))
      (λ more. (a.0 ∷ more.0, ((rule, here, a.1), more.1)))
      a.2

  by_part : (n : NodeIx) (r : RuleIx) (x : Node) (here : node_at L n ≡ Some x) (y : ℕ) (s : InPassed (length L.rules) E x (parts x) y) → Arrives s.1 r → Arrives n r
  by_part n r x here y s a = (a.0, alone_by_part L E is.exact n x here s.0 s.1 s.2 s.3 a.0 a.1, a.2)

  mutual
    from_rule : (q : RuleIx) (ms : List ℕ) (r : RuleIx) → r.0 < length L.rules → q.0 < length L.rules → graph.LeadsThrough rows q.0 ms r.0 → Led q r
    from_rule q [] r lt here path = let s = rule_step q r.0 here path in absurd (omega (arith, s.2))
    from_rule q (m ∷ ms) r lt here path =
        let s = rule_step q m here path.0 in
        by_body q r s.0 s.1 (from_node s.0.body ms r lt (subst (λ v. graph.LeadsThrough rows v ms r.0) (sym s.2) path.1))

    from_node : (n : NodeIx) (ms : List ℕ) (r : RuleIx) → r.0 < length L.rules → graph.LeadsThrough rows (at_node n) ms r.0 → Arrives n r
    from_node n [] r lt path =
        ⊎_elim
        (λ s. (s.0, at_ref s.1, inl (same_rule s.0 r (sym s.3))))
        (λ s. absurd (omega (arith, s.2.4)))
        (node_step n r.0 path)
    from_node n (m ∷ ms) r lt path =
        ⊎_elim
        (λ s. (s.0, at_ref s.1, inr (from_rule s.0 ms r lt s.2 (subst (λ v. graph.LeadsThrough rows v ms r.0) s.3 path.1))))
        (λ s. by_part n r s.0 s.1 m s.2 (from_node s.2.1 ms r lt (subst (λ v. graph.LeadsThrough rows v ms r.0) s.2.4 path.1)))
        (node_step n m path.0)

  pub is_self_derivation : (r : RuleIx) → r.0 < length L.rules → IsOnCycle rows r.0 → SelfDerive L r
  is_self_derivation r lt h = from_rule r h.0 r lt lt h.1

  leads_within : (r : RuleIx) (ms : List RuleIx) (q : RuleIx) → LeadsThrough L r ms q → r.0 < length L.rules
  leads_within r [] q h = slice_get_within L.rules r.0 h.0 h.1
  leads_within r (m ∷ ms) q h = slice_get_within L.rules r.0 h.0.0 h.0.1

  -- ---- the marks of the rules

  pub marks_exact : (all : List Bool) → ((x : ℕ) → (slice_get all x ≡ Some true) ↔ IsOnCycle rows x) →
      (r : RuleIx) → (slice_get (take (length L.rules) all) r.0 ≡ Some true) ↔ SelfDerive L r
  marks_exact all exact r = (
    λ h. let lt = taken_below all (length L.rules) r.0 h in is_self_derivation r lt ((exact r.0).0 (sym (taken all (length L.rules) r.0 lt) ∙ h)),
    λ s. taken all (length L.rules) r.0 (leads_within r s.0 r s.1) ∙ (exact r.0).1 (is_cycle r s),
  )
