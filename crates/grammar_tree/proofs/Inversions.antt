-- What is known of a rule's body, of turns over few words, and of a tree that is the only one.
use Rattle.std.proofs.Common.{ℕ, ◌≡◌, ◌⊎◌, List, [], ◌∷◌, Some, refl, sym, ap, ◌∙◌, subst, inl, inr}
use Rattle.std.specs.declared.cmp.Ordering.TheVariants.{Equal, Greater}
use Rattle.vg_base.specs.declared.numbers.NodeIx.{NodeIx}
use Rattle.vg_base.specs.declared.numbers.RuleIx.{RuleIx}
use Rattle.grammar_tree.specs.declared.linked.LinkedRule.{LinkedRule}
use Rattle.grammar_tree.specs.declared.parse_tree.ParseTree.{ParseTree}
use Rattle.grammar_tree.specs.Links.{Rules, rule_at}
use Rattle.grammar_tree.specs.Derives.{Words, OfBody, Derives, DerivesTurns, no_turn, turn}
use Rattle.grammar_tree.specs.Choices.{choices}
use Rattle.grammar_tree.specs.Firsts.{First}
use Rattle.grammar_tree.proofs.Lists.{nil_front, one_cut}
use Rattle.grammar_tree.proofs.Orders.{same-Equal}

-- what holds of a rule's body holds of the body that is there
pub at_body : (L : Rules) (r : RuleIx) (P : NodeIx → Type 0) (there : LinkedRule) → rule_at L r ≡ Some there → OfBody L r P → P there.body
at_body L r P there e h = let same : h.0 ≡ there = cc (sym h.1 ∙ e) in subst (λ (rule : LinkedRule). P rule.body) same h.2

module _ (L : Rules) where
  -- no turn that has a word is over no words
  pub no_turns : (p : NodeIx) (ws : Words) (ts : List ParseTree) → ws ≡ [] → DerivesTurns L p 0 ws ts → ts ≡ []
  no_turns p ws _ e (no_turn z) = refl
  no_turns p ws _ e (turn front rest z full d ds) = absurd (full refl (nil_front front rest (sym z ∙ e)))

  -- over one word there is one such turn
  pub one_turn : (p : NodeIx) (w : List ℕ) (ws : Words) (ts : List ParseTree) → ws ≡ w ∷ [] → DerivesTurns L p 0 ws ts → (t : ParseTree) × (ts ≡ t ∷ []) × Derives L p (w ∷ []) t
  one_turn p w ws _ e (no_turn z) = absurd (let h : w ∷ [] ≡ [] = sym e ∙ z in cc)
  one_turn p w ws _ e (turn {t = t} {ts = ts} front rest z full d ds) = at (one_cut w front rest (sym e ∙ z))
    where
      at : ((front ≡ []) × (rest ≡ w ∷ [])) ⊎ ((front ≡ w ∷ []) × (rest ≡ [])) → (u : ParseTree) × (t ∷ ts ≡ u ∷ []) × Derives L p (w ∷ []) u
      at (inl h) = absurd (full refl h.0)
      at (inr h) = (t, ap (λ us. t ∷ us) (no_turns p rest ts h.1 ds), subst (λ ws. Derives L p ws t) h.0 d)

  -- the only tree is the first
  pub only_first : (n : NodeIx) (ws : Words) (t : ParseTree) → Derives L n ws t → ((u : ParseTree) → Derives L n ws u → u ≡ t) → First L n ws t
  only_first n ws t d only = record {
    derives = d;
    least = λ u e g. let h : Equal ≡ Greater = sym (same-Equal (choices L n t) (choices L n u) (ap (choices L n) (sym (only u e)))) ∙ g in cc;
  }
