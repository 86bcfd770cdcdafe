use Rattle.std.proofs.Common.{ℕ, zero, suc, ◌≡◌, ◌≢◌, List, [], ◌∷◌, Option, Some, None, length, refl, sym, ap, subst, inl, arith}
use Rattle.std.specs.Prelude.{slice_get}
use Rattle.vg_base.specs.declared.numbers.NodeIx.{NodeIx}
use Rattle.vg_base.specs.declared.numbers.RuleIx.{RuleIx}
use Rattle.grammar_tree.specs.declared.linked.Node.TheVariants as node
use Rattle.grammar_tree.specs.Derives.{CanBeEmpty}
use Rattle.grammar_tree.specs.Alone.{Alone, at_ref, at_seq, at_alt, at_rep, Leads, LeadsThrough}
use Rattle.grammar_tree.specs.Samples.{at, rule, named, xs, beside_an_option, beside_a_word}
use Rattle.grammar_tree.proofs.AloneViews.{alone_view}
use Rattle.grammar_tree.proofs.EmptyParts.{empty_by_kind}
use Rattle.grammar_tree.proofs.Inversions.{at_body}
use Rattle.grammar_tree.proofs.samples.what_stands_beside_counts.Goals as goal

option_empty : (j : ℕ) (other : NodeIx) → j ≢ 1 → slice_get (at 3 ∷ (at 5 ∷ [])) j ≡ Some other → CanBeEmpty beside_an_option other
option_empty zero other ne g =
    let same : at 3 ≡ other = cc in
    subst (λ n. CanBeEmpty beside_an_option n) same ((empty_by_kind beside_an_option (at 3) (node.Rep 0 (Some 1) (at 4)) refl).1 (omega arith, inl refl))
option_empty (suc zero) other ne g = absurd (ne refl)
option_empty (suc (suc j)) other ne g = absurd (cc)

some_turn : ◌≢◌ {A = Option ℕ} (Some 2) (Some 0)
some_turn e = let two : ◌≡◌ {A = ℕ} 2 0 = cc in omega (arith, two)

pub returns-clause-itself : goal.returns-clause-itself
returns-clause-itself c = (
  [],
  (
    named 97 0,
    refl,
    at_alt (at 1 ∷ (at 6 ∷ [])) 0 (at 1) refl refl
        (at_rep 1 (Some 2) (at 2) refl some_turn (at_seq (at 3 ∷ (at 5 ∷ [])) 1 (at 5) refl refl (at_ref refl) option_empty) (inl (omega arith))),
  ),
)

word_there : CanBeEmpty beside_a_word (at 3) → ⊥
word_there c = let none = (empty_by_kind beside_a_word (at 3) (node.Token (xs 1)) refl).0 c in omega (arith, ap length none)

not_beside : (k : ℕ) (p : NodeIx) (q : RuleIx) → slice_get (at 3 ∷ (at 4 ∷ [])) k ≡ Some p → Alone beside_a_word p q →
    ((j : ℕ) (other : NodeIx) → j ≢ k → slice_get (at 3 ∷ (at 4 ∷ [])) j ≡ Some other → CanBeEmpty beside_a_word other) → ⊥
not_beside zero p q g a others = let same : at 3 ≡ p = cc in alone_view beside_a_word (at 3) q (subst (λ n. Alone beside_a_word n q) (sym same) a)
not_beside (suc zero) p q g a others = word_there (others 0 (at 3) (λ e. omega (arith, e)) refl)
not_beside (suc (suc k)) p q g a others = absurd (cc)

not_within : (k : ℕ) (p : NodeIx) (q : RuleIx) → slice_get (at 1 ∷ (at 5 ∷ [])) k ≡ Some p → Alone beside_a_word p q → ⊥
not_within zero p q g a =
    let same : at 1 ≡ p = cc in
    let turns = alone_view beside_a_word (at 1) q (subst (λ n. Alone beside_a_word n q) (sym same) a) in
    let both = alone_view beside_a_word (at 2) q turns.1 in
    not_beside both.0 both.1 q both.2 both.3 both.4
not_within (suc zero) p q g a = let same : at 5 ≡ p = cc in alone_view beside_a_word (at 5) q (subst (λ n. Alone beside_a_word n q) (sym same) a)
not_within (suc (suc k)) p q g a = absurd (cc)

no_lead : (r : ℕ) (q : RuleIx) → Leads beside_a_word (rule r) q → ⊥
no_lead zero q lead =
    let c = alone_view beside_a_word (at 0) q (at_body beside_a_word (rule 0) (λ n. Alone beside_a_word n q) (named 98 0) refl lead) in
    not_within c.0 c.1 q c.2 c.3
no_lead (suc r) q lead = let none : None ≡ Some lead.0 = lead.1 in cc

pub returns-clause-sound : goal.returns-clause-sound
returns-clause-sound c r around = at_all around.0 around.1
  where
    at_all : (ms : List RuleIx) → LeadsThrough beside_a_word r ms r → ⊥
    at_all [] l = no_lead r.0 r l
    at_all (m ∷ ms) l = no_lead r.0 m l.0
