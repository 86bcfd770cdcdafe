-- What the public calls say of a rule, from what the walks say of its body.
use Rattle.std.proofs.Common.{ℕ, ◌+◌, ◌≤◌, ◌≡◌, List, [], ◌∷◌, ◌++◌, Some, None, length, refl, sym, ap, ◌∙◌, subst}
use Rattle.vg_base.specs.declared.numbers.RuleIx.{RuleIx}
use Rattle.grammar_tree.specs.declared.linked.LinkedRule.{LinkedRule}
use Rattle.grammar_tree.specs.declared.parse_tree.ParseTree.{ParseTree}
use Rattle.grammar_tree.specs.Links.{Rules, IsLinked, rule_at}
use Rattle.grammar_tree.specs.Derives.{Words, RuleHasTree}
use Rattle.grammar_tree.specs.Choices.{choices}
use Rattle.grammar_tree.specs.Firsts.{First, Firsts, RuleFirst, RuleFirsts}
use Rattle.grammar_tree.specs.Alone.{NoSelfDerivation}
use Rattle.earley_chart.specs.Chart.{Table, RanOn}
use Rattle.parse_choice.specs.declared.walk.Ground.{Ground}
use Rattle.parse_choice.specs.declared.walk.Walked.{Walked}
use Rattle.parse_choice.specs.code.Trails.{guide_after}
use Rattle.parse_choice.specs.code.Walks.{AreChoices, IsGround, CanFollow, IsWalked}
use Rattle.parse_choice.proofs.Trees.{Found, SoFar, is_first, none_so_far, no_firsts, next_found, can_follow, last_found, enough_found}

-- the trees that were found are the first ones of the rule, and the next one can be found on the guide
pub record Going (L : Rules) (r : RuleIx) (ws : Words) (ts : List ParseTree) (guide : List ℕ) : Type 0 where
  pub rule : LinkedRule
  pub is : rule_at L r ≡ Some rule
  pub so : SoFar L rule.body ws ts guide
  pub follow : (more : List ℕ) × AreChoices L rule.body ws (guide ++ more)

module _ (L : Rules) (r : RuleIx) (ws : Words) where
  -- at the beginning, where there is a tree
  pub going : (guide : List ℕ) → guide ≡ [] → IsLinked L → NoSelfDerivation L → RuleHasTree L r ws → Going L r ws [] guide
  going guide e linked alone h = subst (λ gs. Going L r ws [] gs) (sym e) (record {
    rule = h.0;
    is = h.1;
    so = none_so_far L h.0.body ws linked alone;
    follow = (choices L h.0.body h.2.0, (h.2.0, h.2.1, refl));
  })

  -- the rule has no tree
  pub no_trees : (c : Table) → c.rule ≡ r → RanOn L c → IsLinked L → NoSelfDerivation L → (k : ℕ) → (RuleHasTree L r ws → ⊥) → RuleFirsts L r ws k []
  no_trees c e ran linked alone k none =
      let is : rule_at L r ≡ Some ran.first.0 = subst (λ q. rule_at L q ≡ Some ran.first.0) e ran.first.1 in
      (ran.first.0, is, no_firsts L ran.first.0.body ws linked alone k (λ h. none (ran.first.0, is, h)))

  pub enough : (ts : List ParseTree) (guide : List ℕ) (k : ℕ) → Going L r ws ts guide → length ts ≡ k → RuleFirsts L r ws k ts
  enough ts guide k going e = (going.rule, going.is, enough_found L going.rule.body ws ts guide k going.so e)

module _ (g : Ground) (ground : IsGround g) where
  abbrev L : Rules
  L = g.linked.now

  abbrev r : RuleIx
  r = g.chart.now.rule

  abbrev ws : Words
  ws = g.words.now

  -- a tree of the rule is one of the body that is walked through
  body_is : (rule : LinkedRule) → rule_at L r ≡ Some rule → rule.body ≡ g.body
  body_is rule e = let some : Some ground.body.0 ≡ Some rule = sym ground.body.1 ∙ e in
      let same : ground.body.0 ≡ rule = cc (some) in sym (ap (λ (x : LinkedRule). x.body) same) ∙ ground.body.2

  pub follows : (ts : List ParseTree) → Going L r ws ts g.guide.now → CanFollow g
  follows ts going = subst (λ n. (more : List ℕ) × AreChoices L n ws (g.guide.now ++ more)) (body_is going.rule going.is) going.follow

  pub follows_first : RuleHasTree L r ws → g.guide.now ≡ [] → CanFollow g
  follows_first h e =
      let body = body_is h.0 h.1 in (
        choices L h.0.body h.2.0,
        subst (λ n. AreChoices L n ws (g.guide.now ++ choices L h.0.body h.2.0)) body
            (h.2.0, h.2.1, ap (λ gs. gs ++ choices L h.0.body h.2.0) e),
      )

  found : (w : Walked) → IsWalked g w → Found L g.body ws g.guide.now w.tree w.trail
  found w is = record { derives = is.derives; choices = is.choices; stands = is.trail }

  pub first_of_rule : (w : Walked) → IsWalked g w → g.guide.now ≡ [] → RuleFirst L r ws w.tree
  first_of_rule w is e =
      (ground.body.0, ground.body.1, subst (λ n. First L n ws w.tree) (sym ground.body.2) (is_first L g.body ws w.tree w.trail (subst (λ gs. Found L g.body ws gs w.tree w.trail) e (found w is))))

  module _ (w : Walked) (is : IsWalked g w) (ts : List ParseTree) (going : Going L r ws ts g.guide.now) where
    so_here : SoFar L g.body ws ts g.guide.now
    so_here = subst (λ n. SoFar L n ws ts g.guide.now) (body_is going.rule going.is) going.so

    -- one more tree was found, and there are others
    pub goes_on : (next : List ℕ) → guide_after w.trail ≡ Some next → Going L r ws (ts ++ w.tree ∷ []) next
    goes_on next e =
        let body = sym (body_is going.rule going.is) in
        record {
          rule = going.rule;
          is = going.is;
          so = subst (λ n. SoFar L n ws (ts ++ w.tree ∷ []) next) body (next_found L g.body ws g.guide.now w.tree w.trail (found w is) ts so_here next e);
          follow = subst (λ n. (more : List ℕ) × AreChoices L n ws (next ++ more)) body (can_follow L g.body ws g.guide.now w.tree w.trail (found w is) ts so_here next e);
        }

    -- it is the last one
    pub ends : (k : ℕ) → guide_after w.trail ≡ None → length ts + 1 ≤ k → RuleFirsts L r ws k (ts ++ w.tree ∷ [])
    ends k e le = (
      ground.body.0,
      ground.body.1,
      subst (λ n. Firsts L n ws k (ts ++ w.tree ∷ [])) (sym ground.body.2)
          (last_found L g.body ws g.guide.now w.tree w.trail (found w is) ts so_here k e le),
    )
