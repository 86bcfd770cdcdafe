-- What a reference asks was asked, where tokens, tags and `$GARBAGE` end, and that their ends are right.
use Rattle.std.proofs.Common.{Bool, true, false, ℕ, ◌+◌, ◌-◌, ◌<◌, ◌≤◌, ◌≡◌, ◌≢◌, ◌⊎◌, inl, inr, List, Option, Some, None, length, refl, sym, ap, ◌∙◌, subst, ⊎_elim, arith}
use Rattle.std.proofs.lemmas.Option.{slice_get_within}
use Rattle.vg_base.specs.declared.numbers.NodeIx.{NodeIx}
use Rattle.vg_base.specs.declared.numbers.RuleIx.{RuleIx}
use Rattle.grammar_tree.specs.declared.expansion.TagNode.{TagNode}
use Rattle.grammar_tree.specs.declared.linked.Node.{Node}
use Rattle.grammar_tree.specs.declared.linked.Node.TheVariants as node
use Rattle.grammar_tree.specs.declared.linked.LinkedRule.{LinkedRule}
use Rattle.grammar_tree.specs.Links.{node_at, rule_at}
use Rattle.grammar_tree.specs.Derives.{Words}
use Rattle.earley_chart.specs.declared.places.Places.{Places}
use Rattle.earley_chart.specs.declared.board.Spot.{Spot}
use Rattle.earley_chart.specs.declared.board.Board.{Board}
use Rattle.earley_chart.specs.declared.reading.Task.{Task}
use Rattle.earley_chart.specs.Places.{Has, Holds}
use Rattle.earley_chart.specs.code.Reads.{Reads, IsPlace}
use Rattle.earley_chart.specs.code.Boards.{node_of, spot_at, Sees}
use Rattle.earley_chart.specs.code.Sound.{rules_of, words_of, RightSpot, RightEnd, IsOf, Answer}
use Rattle.earley_chart.proofs.KindSteps.{ref_first, ref_end, token_end, garbage_end, tag_end, null_end}
use Rattle.earley_chart.proofs.Bits.{none_has}
use Rattle.earley_chart.proofs.Answers.{answer_of, right_spot}

module _ (t : Task) (old : Board) (at : ℕ) (s : Spot) (of : IsOf t old at s) where
  pub spot_place : IsPlace (words_of t) t.reading.goes_on s.start
  spot_place = (right_spot t old at s of).place

  pub spot_node : s.node < length (rules_of t).nodes
  spot_node = let r = right_spot t old at s of in slice_get_within (rules_of t).nodes s.node r.kind r.node

  module _ (q : RuleIx) (e : node_at (rules_of t) (node_of s) ≡ Some (node.Ref q)) (rule : LinkedRule) (get : rule_at (rules_of t) q ≡ Some rule) (lt : rule.body.0 < length (rules_of t).nodes) where
    pub body_spot : RightSpot t (spot_at rule.body 0 s.start)
    body_spot = ref_first (rules_of t) (words_of t) t.reading.goes_on t.rule s (right_spot t old at s of) of.good.linked q e rule get lt

    pub body_ends : (b : Board) (ends : Places) → Sees b at (spot_at rule.body 0 s.start) (Has ends) →
        ((j : ℕ) → Has ends j → RightEnd t (spot_at rule.body 0 s.start) j) → Answer t b at s ends
    body_ends b ends sees rights = answer_of t b at s (node.Ref q) ends e
        (λ other get'.
        (let both : Some rule ≡ Some other = sym get ∙ get' in
        let same : rule ≡ other = cc in
        subst (λ (x : LinkedRule). Sees b at (spot_at x.body 0 s.start) (Has ends)) same sees))
        (λ j h. ref_end (rules_of t) (words_of t) t.reading.goes_on t.rule s (right_spot t old at s of) of.good.linked q e rule get j lt (rights j h))

  pub token_ends : (b : Board) (us : Words) (ends : Places) → node_at (rules_of t) (node_of s) ≡ Some (node.Token us) → Holds ends (Reads (words_of t) t.reading.goes_on s.start us) → Answer t b at s ends
  token_ends b us ends e holds = answer_of t b at s (node.Token us) ends e (λ j read. (holds j).1 read)
      (λ j h. token_end (rules_of t) (words_of t) t.reading.goes_on t.rule s (right_spot t old at s of) of.good.linked us j e ((holds j).0 h))

  pub garbage_ends : (b : Board) (ends : Places) → node_at (rules_of t) (node_of s) ≡ Some node.Garbage →
      Holds ends (λ j. (us : Words) × Reads (words_of t) t.reading.goes_on s.start us j) → Answer t b at s ends
  garbage_ends b ends e holds = answer_of t b at s node.Garbage ends e (λ us j read. (holds j).1 (us, read))
      (λ j h. (let g = (holds j).0 h in garbage_end (rules_of t) (words_of t) t.reading.goes_on t.rule s (right_spot t old at s of) of.good.linked g.0 j e g.1))

  pub tag_ends : (b : Board) (tag : TagNode) (ends : Places) → node_at (rules_of t) (node_of s) ≡ Some (node.Tag tag) → Holds ends (λ j. j ≡ s.start) → Answer t b at s ends
  tag_ends b tag ends e holds = answer_of t b at s (node.Tag tag) ends e ((holds s.start).1 refl)
      (λ j h. subst (RightEnd t s) (sym ((holds j).0 h)) (tag_end (rules_of t) (words_of t) t.reading.goes_on t.rule s (right_spot t old at s of) of.good.linked tag e))

  pub null_ends : (b : Board) (ends : Places) → node_at (rules_of t) (node_of s) ≡ Some node.Null → Holds ends (λ j. j ≡ s.start) → Answer t b at s ends
  null_ends b ends e holds = answer_of t b at s node.Null ends e ((holds s.start).1 refl)
      (λ j h. subst (RightEnd t s) (sym ((holds j).0 h)) (null_end (rules_of t) (words_of t) t.reading.goes_on t.rule s (right_spot t old at s of) of.good.linked e))

  pub void_ends : (b : Board) (ends : Places) → node_at (rules_of t) (node_of s) ≡ Some node.Void → ends ≡ record { 0 = 0 } → Answer t b at s ends
  void_ends b ends e none = answer_of t b at s node.Void ends e tt (λ j h. absurd (none_has ends j none h))
