-- What it is that a node holds a rule alone, where the node is known.
use Rattle.std.proofs.Common.{ℕ, ◌≡◌, ◌≢◌, ◌≤◌, ◌⊎◌, Option, Some, refl, sym, subst}
use Rattle.std.specs.Prelude.{slice_get}
use Rattle.vg_base.specs.declared.numbers.NodeIx.{NodeIx}
use Rattle.vg_base.specs.declared.numbers.RuleIx.{RuleIx}
use Rattle.grammar_tree.specs.declared.linked.Node.{Node}
use Rattle.grammar_tree.specs.declared.linked.Node.TheVariants as node
use Rattle.grammar_tree.specs.Links.{Rules, node_at}
use Rattle.grammar_tree.specs.Derives.{CanBeEmpty}
use Rattle.grammar_tree.specs.Alone.{Alone, at_ref, at_seq, at_alt, at_rep}

abbrev pub AloneCase : Rules → RuleIx → Option Node → Type 0
AloneCase L q (Some (node.Ref r)) = r ≡ q
AloneCase L q (Some (node.Seq ps)) =
    (k : ℕ) × (p : NodeIx) × (slice_get ps k ≡ Some p) × Alone L p q × ((j : ℕ) (other : NodeIx) → j ≢ k → slice_get ps j ≡ Some other → CanBeEmpty L other)
AloneCase L q (Some (node.Alt ps)) = (k : ℕ) × (p : NodeIx) × (slice_get ps k ≡ Some p) × Alone L p q
AloneCase L q (Some (node.Rep least most p)) = (most ≢ Some 0) × Alone L p q × ((least ≤ 1) ⊎ CanBeEmpty L p)
AloneCase L q _ = ⊥

pub alone_view : (L : Rules) (n : NodeIx) (q : RuleIx) → Alone L n q → AloneCase L q (node_at L n)
alone_view L n q (at_ref e) = subst (AloneCase L q) (sym e) refl
alone_view L n q (at_seq ps k p e g a others) = subst (AloneCase L q) (sym e) (k, p, g, a, others)
alone_view L n q (at_alt ps k p e g a) = subst (AloneCase L q) (sym e) (k, p, g, a)
alone_view L n q (at_rep least most p e some a empty) = subst (AloneCase L q) (sym e) (some, a, empty)
