use Rattle.std.proofs.Common.{ℕ, zero, suc, ◌≡◌, List, [], ◌∷◌, Some, None, refl, sym, ap, subst, arith}
use Rattle.std.specs.Prelude.{slice_get}
use Rattle.vg_base.specs.declared.numbers.NodeIx.{NodeIx}
use Rattle.vg_base.specs.declared.numbers.RuleIx.{RuleIx}
use Rattle.grammar_tree.specs.Alone.{Alone, at_ref, at_alt, Leads, LeadsThrough}
use Rattle.grammar_tree.specs.Samples.{at, rule, named, self_reference}
use Rattle.grammar_tree.proofs.AloneViews.{alone_view}
use Rattle.grammar_tree.proofs.Inversions.{at_body}
use Rattle.grammar_tree.proofs.samples.self_reference_is_found.Goals as goal

pub returns-clause-itself : goal.returns-clause-itself
returns-clause-itself c = ([], (named 97 1, refl, at_alt (at 2 ∷ (at 3 ∷ [])) 0 (at 2) refl refl (at_ref refl)))

held : (k : ℕ) (p : NodeIx) (q : RuleIx) → slice_get (at 2 ∷ (at 3 ∷ [])) k ≡ Some p → Alone self_reference p q → rule 1 ≡ q
held zero p q g a = let same : at 2 ≡ p = cc in alone_view self_reference (at 2) q (subst (λ m. Alone self_reference m q) (sym same) a)
held (suc zero) p q g a = let same : at 3 ≡ p = cc in absurd (alone_view self_reference (at 3) q (subst (λ m. Alone self_reference m q) (sym same) a))
held (suc (suc k)) p q g a = absurd (cc)

-- each rule leads to the second alone
to_second : (r : ℕ) (q : RuleIx) → Leads self_reference (rule r) q → rule 1 ≡ q
to_second zero q lead =
    alone_view self_reference (at 0) q (at_body self_reference (rule 0) (λ n. Alone self_reference n q) (named 114 0) refl lead)
to_second (suc zero) q lead =
    let c = alone_view self_reference (at 1) q (at_body self_reference (rule 1) (λ n. Alone self_reference n q) (named 97 1) refl lead) in
    held c.0 c.1 q c.2 c.3
to_second (suc (suc r)) q lead = let none : None ≡ Some lead.0 = lead.1 in cc

ends_at_second : (r q : RuleIx) (ms : List RuleIx) → LeadsThrough self_reference r ms q → rule 1 ≡ q
ends_at_second r q [] l = to_second r.0 q l
ends_at_second r q (m ∷ ms) l = ends_at_second m q ms l.1

pub returns-clause-other : goal.returns-clause-other
returns-clause-other c around =
    let e = ends_at_second (rule 0) (rule 0) around.0 around.1 in
    absurd (omega (arith, ap (λ (r : RuleIx). r.0) e))
