-- For the rows of the tests: what is checked to be numbered in reading order is linked.
use Rattle.std.proofs.Common.{◌≡◌, ◌<◌, ◌≤◌, ◌+◌, ℕ, List, [], ◌∷◌, ◌++◌, Some, None, length, map, take, get_or, refl, sym, ap, ◌∙◌, subst}
use Rattle.std.proofs.lemmas.List.{take_all, take_more, map-id, map_push}
use Rattle.vg_base.specs.declared.numbers.NodeIx.{NodeIx}
use Rattle.vg_base.specs.declared.numbers.RuleIx.{RuleIx}
use Rattle.grammar_tree.specs.declared.linked.Node.{Node}
use Rattle.grammar_tree.specs.declared.linked.Node.TheVariants as node
use Rattle.grammar_tree.specs.Links.{RefersBelow}
use Rattle.grammar_tree.specs.ReadingOrder.{IsSubtree, AreSubtrees, no_subtree}
use Rattle.grammar_tree.proofs.Numbering.{row_more}
use Rattle.self_derivation.specs.code.Nodes.{reference}

pub no_row : (nodes : List Node) (start : ℕ) → AreSubtrees nodes [] start start
no_row nodes start = no_subtree refl

-- one more subtree of a row
pub row_next : {X : Type 0} (f : X → NodeIx) {nodes : List Node} {start end : ℕ} (xs : List X) (i : ℕ) (y : X) → (i < length xs) × (y ≡ get_or xs i y) →
    AreSubtrees nodes (map f (take i xs)) start (f y).0 → IsSubtree nodes (f y) end → AreSubtrees nodes (map f (take (i + 1) xs)) start end
row_next f {nodes} {start} {end} xs i y at row one =
    let more = take_more xs i y at.0 ∙ ap (λ z. take i xs ++ z ∷ []) (sym at.1) in
    subst (λ qs. AreSubtrees nodes qs start end) (sym (ap (map f) more ∙ map_push f (take i xs) y)) (row_more nodes (map f (take i xs)) (f y) start end row one)

pub row_ends : {nodes : List Node} {start end : ℕ} (ps : List NodeIx) (i : ℕ) → length ps ≤ i → AreSubtrees nodes (map (λ p. p) (take i ps)) start end → AreSubtrees nodes ps start end
row_ends {nodes} {start} {end} ps i le row = subst (λ qs. AreSubtrees nodes qs start end) (map-id (take i ps) ∙ take_all i ps le) row

pub refers_nothing : (count : ℕ) (x : Node) → reference x ≡ None → RefersBelow count x
refers_nothing count (node.Token words) e = tt
refers_nothing count (node.Seq ps) e = tt
refers_nothing count (node.Alt ps) e = tt
refers_nothing count (node.Rep least most p) e = tt
refers_nothing count (node.Ref q) e = absurd (cc)
refers_nothing count (node.Tag tag) e = tt
refers_nothing count node.Null e = tt
refers_nothing count node.Void e = tt
refers_nothing count node.Garbage e = tt

pub refers_within : (count : ℕ) (x : Node) (r : RuleIx) → reference x ≡ Some r → r.0 < count → RefersBelow count x
refers_within count (node.Token words) r e lt = tt
refers_within count (node.Seq ps) r e lt = tt
refers_within count (node.Alt ps) r e lt = tt
refers_within count (node.Rep least most p) r e lt = tt
refers_within count (node.Ref q) r e lt = let same : q ≡ r = cc in subst (λ (s : RuleIx). s.0 < count) (sym same) lt
refers_within count (node.Tag tag) r e lt = tt
refers_within count node.Null r e lt = tt
refers_within count node.Void r e lt = tt
refers_within count node.Garbage r e lt = tt
