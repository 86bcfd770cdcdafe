-- What a derivation is where its node or its tree is known, and the choices of its tree.
use Rattle.std.proofs.Common.{ℕ, ◌≡◌, ◌<◌, ◌≤◌, ◌⊎◌, inl, inr, get_or, List, [], ◌∷◌, Option, Some, None, length, map, refl, sym, ap, ◌∙◌, subst}
use Rattle.std.specs.Prelude.{slice_get}
use Rattle.std.proofs.lemmas.Option.{slice_get_cases}
use Rattle.grammar_tree.specs.declared.linked.LinkedRule.{LinkedRule}
use Rattle.grammar_tree.specs.declared.expansion.TagNode.{TagNode}
use Rattle.vg_base.specs.declared.numbers.NodeIx.{NodeIx}
use Rattle.vg_base.specs.declared.numbers.RuleIx.{RuleIx}
use Rattle.grammar_tree.specs.declared.linked.Node.{Node}
use Rattle.grammar_tree.specs.declared.linked.Node.TheVariants as node
use Rattle.grammar_tree.specs.declared.parse_tree.ParseTree.{ParseTree, out-ParseTree, map-ParseTree, fold_out-ParseTree}
use Rattle.grammar_tree.specs.declared.parse_tree.ParseTree.TheOpen.{ParseTree-F}
use Rattle.grammar_tree.specs.declared.parse_tree.ParseTree.TheVariants as tree
use Rattle.grammar_tree.specs.Links.{Rules, node_at, rule_at}
use Rattle.grammar_tree.specs.Derives.{Words, IsAtMost, Derives, by_token, by_seq, by_alt, by_rep, by_ref, by_tag, by_null, by_garbage, DerivesEach, DerivesTurns}
use Rattle.std.specs.Option.{option_map_or}
use Rattle.grammar_tree.specs.Choices.{Chosen, chosen, choices, chosen_by, choices_of_level, parts_chosen, turns_chosen, garbage_chosen}

-- what a derivation is, by the node
abbrev pub Case : Rules → NodeIx → Words → ParseTree → Option Node → Type 0
Case L n ws t None = ⊥
Case L n ws t (Some (node.Token us)) = (ws ≡ us) × (t ≡ tree.Token ws)
Case L n ws t (Some (node.Seq ps)) = (ts : List ParseTree) × (t ≡ tree.Seq ts) × DerivesEach L ps ws ts
Case L n ws t (Some (node.Alt ps)) = (k : ℕ) × (p : NodeIx) × (u : ParseTree) × (slice_get ps k ≡ Some p) × (t ≡ tree.Alt k u) × Derives L p ws u
Case L n ws t (Some (node.Rep least most p)) =
    (ts : List ParseTree) × (t ≡ tree.Rep ts) × (least ≤ length ts) × IsAtMost most (length ts) × DerivesTurns L p least ws ts
Case L n ws t (Some (node.Ref r)) = (rule : LinkedRule) × (u : ParseTree) × (rule_at L r ≡ Some rule) × (t ≡ tree.Rule r u) × Derives L rule.body ws u
Case L n ws t (Some (node.Tag tag)) = (ws ≡ []) × (t ≡ tree.Tag n)
Case L n ws t (Some node.Null) = (ws ≡ []) × (t ≡ tree.Null)
Case L n ws t (Some node.Void) = ⊥
Case L n ws t (Some node.Garbage) = t ≡ tree.Garbage ws

pub view : (L : Rules) (n : NodeIx) (ws : Words) (t : ParseTree) → Derives L n ws t → Case L n ws t (node_at L n)
view L n ws t (by_token e q) = subst (Case L n ws t) (sym e) (refl, q)
view L n ws t (by_seq ps ts e q d) = subst (Case L n ws t) (sym e) (ts, q, d)
view L n ws t (by_alt ps k p u e g q d) = subst (Case L n ws t) (sym e) (k, p, u, g, q, d)
view L n ws t (by_rep least most p ts e q lo hi d) = subst (Case L n ws t) (sym e) (ts, q, lo, hi, d)
view L n ws t (by_ref r rule u e g q d) = subst (Case L n ws t) (sym e) (rule, u, g, q, d)
view L n ws t (by_tag tag e z q) = subst (Case L n ws t) (sym e) (z, q)
view L n ws t (by_null e z q) = subst (Case L n ws t) (sym e) (z, q)
view L n ws t (by_garbage e q) = subst (Case L n ws t) (sym e) q

-- the same where the node is given by an equation
pub at_node : (L : Rules) (n : NodeIx) (ws : Words) (t : ParseTree) (x : Node) → node_at L n ≡ Some x → Derives L n ws t → Case L n ws t (Some x)
at_node L n ws t x e d = subst (Case L n ws t) e (view L n ws t d)

-- what derives something is a node
pub is_node : (L : Rules) (n : NodeIx) (ws : Words) (t : ParseTree) → Derives L n ws t → n.0 < length L.nodes
is_node L n ws t d = at (slice_get_cases L.nodes n.0).1
  where
    at : ((x : Node) × (n.0 < length L.nodes) × (slice_get L.nodes n.0 ≡ Some x) × (get_or L.nodes n.0 x ≡ x)) ⊎ ((length L.nodes ≤ n.0) × (slice_get L.nodes n.0 ≡ None)) → n.0 < length L.nodes
    at (inl here) = here.1
    at (inr past) = absurd (subst (Case L n ws t) past.1 (view L n ws t d))

-- what a derivation is, by one level of the tree
abbrev pub TreeCase : Rules → NodeIx → Words → ParseTree-F ParseTree → Type 0
TreeCase L n ws (ParseTree-F.Token us) = (node_at L n ≡ Some (node.Token ws)) × (us ≡ ws)
TreeCase L n ws (ParseTree-F.Seq ts) = (ps : List NodeIx) × (node_at L n ≡ Some (node.Seq ps)) × DerivesEach L ps ws ts
TreeCase L n ws (ParseTree-F.Alt k u) = (ps : List NodeIx) × (p : NodeIx) × (node_at L n ≡ Some (node.Alt ps)) × (slice_get ps k ≡ Some p) × Derives L p ws u
TreeCase L n ws (ParseTree-F.Rep ts) = (least : ℕ) × (most : Option ℕ) × (p : NodeIx) × (node_at L n ≡ Some (node.Rep least most p)) × (least ≤ length ts) × IsAtMost most (length ts) × DerivesTurns L p least ws ts
TreeCase L n ws (ParseTree-F.Rule r u) = (rule : LinkedRule) × (node_at L n ≡ Some (node.Ref r)) × (rule_at L r ≡ Some rule) × Derives L rule.body ws u
TreeCase L n ws (ParseTree-F.Tag m) = (tag : TagNode) × (node_at L n ≡ Some (node.Tag tag)) × (m ≡ n) × (ws ≡ [])
TreeCase L n ws ParseTree-F.Null = (node_at L n ≡ Some node.Null) × (ws ≡ [])
TreeCase L n ws (ParseTree-F.Garbage us) = (node_at L n ≡ Some node.Garbage) × (us ≡ ws)

pub tree_view : (L : Rules) (n : NodeIx) (ws : Words) (t : ParseTree) → Derives L n ws t → TreeCase L n ws (out-ParseTree t)
tree_view L n ws t (by_token e q) = subst (TreeCase L n ws) (sym (ap out-ParseTree q ∙ tree.outs-Token ws)) (e, refl)
tree_view L n ws t (by_seq ps ts e q d) = subst (TreeCase L n ws) (sym (ap out-ParseTree q ∙ tree.outs-Seq ts)) (ps, e, d)
tree_view L n ws t (by_alt ps k p u e g q d) = subst (TreeCase L n ws) (sym (ap out-ParseTree q ∙ tree.outs-Alt k u)) (ps, p, e, g, d)
tree_view L n ws t (by_rep least most p ts e q lo hi d) = subst (TreeCase L n ws) (sym (ap out-ParseTree q ∙ tree.outs-Rep ts)) (least, most, p, e, lo, hi, d)
tree_view L n ws t (by_ref r rule u e g q d) = subst (TreeCase L n ws) (sym (ap out-ParseTree q ∙ tree.outs-Rule r u)) (rule, e, g, d)
tree_view L n ws t (by_tag tag e z q) = subst (TreeCase L n ws) (sym (ap out-ParseTree q ∙ tree.outs-Tag n)) (tag, e, refl, z)
tree_view L n ws t (by_null e z q) = subst (TreeCase L n ws) (sym (ap out-ParseTree q ∙ tree.outs-Null)) (e, z)
tree_view L n ws t (by_garbage e q) = subst (TreeCase L n ws) (sym (ap out-ParseTree q ∙ tree.outs-Garbage ws)) (e, refl)

module _ (L : Rules) (n : NodeIx) (ws : Words) (t : ParseTree) (d : Derives L n ws t) where
  pub at_tree : (f : ParseTree-F ParseTree) → out-ParseTree t ≡ f → TreeCase L n ws f
  at_tree f e = subst (TreeCase L n ws) e (tree_view L n ws t d)

-- ---- the choices of a tree, level by level

module _ (L : Rules) (n : NodeIx) (t : ParseTree) where
  chosen_level : (x : Option Node) (level : ParseTree-F ParseTree) → node_at L n ≡ x → out-ParseTree t ≡ level →
      choices L n t ≡ chosen L x (map-ParseTree ParseTree Chosen (chosen_by L) level)
  chosen_level x level e q =
      ap (λ f. f n) (fold_out-ParseTree Chosen (choices_of_level L) t)
      ∙ ap (λ o. chosen L o (map-ParseTree ParseTree Chosen (chosen_by L) (out-ParseTree t))) e
      ∙ ap (λ level. chosen L x (map-ParseTree ParseTree Chosen (chosen_by L) level)) q

  pub chosen_token : (us ws : Words) → node_at L n ≡ Some (node.Token us) → t ≡ tree.Token ws → choices L n t ≡ []
  chosen_token us ws e q = chosen_level _ _ e (ap out-ParseTree q ∙ tree.outs-Token ws)

  pub chosen_seq : (ps : List NodeIx) (ts : List ParseTree) → node_at L n ≡ Some (node.Seq ps) → t ≡ tree.Seq ts → choices L n t ≡ parts_chosen ps (map (chosen_by L) ts)
  chosen_seq ps ts e q = chosen_level _ _ e (ap out-ParseTree q ∙ tree.outs-Seq ts)

  pub chosen_alt : (ps : List NodeIx) (taken : ℕ) (p : NodeIx) (u : ParseTree) → node_at L n ≡ Some (node.Alt ps) → slice_get ps taken ≡ Some p → t ≡ tree.Alt taken u → choices L n t ≡ taken ∷ choices L p u
  chosen_alt ps taken p u e g q = chosen_level _ _ e (ap out-ParseTree q ∙ tree.outs-Alt taken u) ∙ ap (λ o. taken ∷ option_map_or (chosen_by L u) o []) g

  pub chosen_rep : (least : ℕ) (most : Option ℕ) (p : NodeIx) (ts : List ParseTree) → node_at L n ≡ Some (node.Rep least most p) → t ≡ tree.Rep ts → choices L n t ≡ turns_chosen least most p 0 (map (chosen_by L) ts)
  chosen_rep least most p ts e q = chosen_level _ _ e (ap out-ParseTree q ∙ tree.outs-Rep ts)

  pub chosen_ref : (r : RuleIx) (rule : LinkedRule) (u : ParseTree) → node_at L n ≡ Some (node.Ref r) → rule_at L r ≡ Some rule → t ≡ tree.Rule r u → choices L n t ≡ choices L rule.body u
  chosen_ref r rule u e g q = chosen_level _ _ e (ap out-ParseTree q ∙ tree.outs-Rule r u) ∙ ap (λ o. option_map_or (λ linked. chosen_by L u linked.body) o []) g

  pub chosen_tag : (tag : TagNode) → node_at L n ≡ Some (node.Tag tag) → t ≡ tree.Tag n → choices L n t ≡ []
  chosen_tag tag e q = chosen_level _ _ e (ap out-ParseTree q ∙ tree.outs-Tag n)

  pub chosen_null : node_at L n ≡ Some node.Null → t ≡ tree.Null → choices L n t ≡ []
  chosen_null e q = chosen_level _ _ e (ap out-ParseTree q ∙ tree.outs-Null)

  pub chosen_garbage : (ws : Words) → node_at L n ≡ Some node.Garbage → t ≡ tree.Garbage ws → choices L n t ≡ garbage_chosen ws
  chosen_garbage ws e q = chosen_level _ _ e (ap out-ParseTree q ∙ tree.outs-Garbage ws)
