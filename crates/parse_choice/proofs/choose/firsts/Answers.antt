use Rattle.std.proofs.Common.{List, ◌+◌, [], ◌∷◌, length, refl, sym, ap, ◌∙◌, subst, arith, true≢false, length-append}
use Rattle.grammar_tree.specs.declared.parse_tree.ParseTree.{ParseTree}
use Rattle.grammar_tree.specs.Derives.{Words, RuleHasTree}
use Rattle.grammar_tree.specs.Firsts.{RuleFirsts}
use Rattle.parse_choice.specs.declared.walk.Ground.{Ground}
use Rattle.parse_choice.specs.code.Walks.{IsGround}
use Rattle.parse_choice.proofs.Going.{Going, going, no_trees, enough, follows, goes_on, ends}
use Rattle.parse_choice.proofs.choose.firsts.Goals as goal

pub returns-then-not-matched : goal.returns-then-not-matched
returns-then-not-matched c =
    subst (λ (ts : List ParseTree). RuleFirsts c.args.linked.now c.args.chart.now.rule c.args.words.now c.args.k ts) (sym c.new-trees.ensures.items)
    (no_trees c.args.linked.now c.args.chart.now.rule c.args.words.now c.args.chart.now refl c.requires.ran c.body_of-body.ensures.linked c.requires.alone c.args.k
    (λ h. true≢false (sym ((c.matched.ensures c.args.linked.now c.requires.ran).1 (subst (λ (ws : Words). RuleHasTree c.args.linked.now c.args.chart.now.rule ws) (sym c.requires.words) h)) ∙ c.if-not-matched.true)))

pub loop-init : goal.loop-init
loop-init c = record {
  going = subst (λ (ts : List ParseTree). Going c.args.linked.now c.args.chart.now.rule c.args.words.now ts c.new-guide.result) (sym c.new-trees.ensures.items)
      (going c.args.linked.now c.args.chart.now.rule c.args.words.now c.new-guide.result c.new-guide.ensures c.body_of-body.ensures.linked c.requires.alone
      (subst (λ (ws : Words). RuleHasTree c.args.linked.now c.args.chart.now.rule ws) c.requires.words ((c.matched.ensures c.args.linked.now c.requires.ran).0 c.if-not-matched.false)));
  count = ap length c.new-trees.ensures.items;
}

pub walk_through-requires-clause-guide : goal.walk_through-requires-clause-guide
walk_through-requires-clause-guide c =
    let g : Ground = record { alloc = c.args.alloc; chart = c.args.chart; linked = c.args.linked; words = c.args.words; body = c.body_of-body.result; guide = c.as_slice.result } in
    let ground : IsGround g = record { linked = c.body_of-body.ensures.linked; ran = c.requires.ran; words = c.requires.words; body = c.body_of-body.ensures.body } in
    let here = subst (λ gs. Going c.args.linked.now c.args.chart.now.rule c.args.words.now c.loop.trees.items gs) (sym c.as_slice.ensures) c.loop.invariant.going in
    follows g ground c.loop.trees.items here

pub next_guide-requires : goal.next_guide-requires
next_guide-requires c = c.in_ok-tree.ensures.trail.within

pub loop-preserved : goal.loop-preserved
loop-preserved c =
    let g : Ground = record { alloc = c.args.alloc; chart = c.args.chart; linked = c.args.linked; words = c.args.words; body = c.body_of-body.result; guide = c.as_slice.result } in
    let ground : IsGround g = record { linked = c.body_of-body.ensures.linked; ran = c.requires.ran; words = c.requires.words; body = c.body_of-body.ensures.body } in
    let here = subst (λ gs. Going c.args.linked.now c.args.chart.now.rule c.args.words.now c.loop.trees.items gs) (sym c.as_slice.ensures) c.loop.invariant.going in
    record {
      going = subst (λ (ts : List ParseTree). Going c.args.linked.now c.args.chart.now.rule c.args.words.now ts c.in-Some.next) (sym c.in_ok-push.ensures.items)
          (goes_on g ground c.in_ok-tree.field-0 c.in_ok-tree.ensures c.loop.trees.items here c.in-Some.next (sym c.in_ok-next_guide.ensures ∙ c.in-Some.is));
      count = ap length c.in_ok-push.ensures.items ∙ length-append c.loop.trees.items (c.in_ok-tree.field-0.tree ∷ []) ∙ ap (λ n. n + 1) c.loop.invariant.count;
    }

pub returns-in-None : goal.returns-in-None
returns-in-None c =
    let g : Ground = record { alloc = c.args.alloc; chart = c.args.chart; linked = c.args.linked; words = c.args.words; body = c.body_of-body.result; guide = c.as_slice.result } in
    let ground : IsGround g = record { linked = c.body_of-body.ensures.linked; ran = c.requires.ran; words = c.requires.words; body = c.body_of-body.ensures.body } in
    let here = subst (λ gs. Going c.args.linked.now c.args.chart.now.rule c.args.words.now c.loop.trees.items gs) (sym c.as_slice.ensures) c.loop.invariant.going in
    subst (λ (ts : List ParseTree). RuleFirsts c.args.linked.now c.args.chart.now.rule c.args.words.now c.args.k ts) (sym c.in_ok-push.ensures.items)
    (ends g ground c.in_ok-tree.field-0 c.in_ok-tree.ensures c.loop.trees.items here c.args.k (sym c.in_ok-next_guide.ensures ∙ c.in-None.is) (omega (arith, c.loop.invariant.count)))

pub returns : goal.returns
returns c = enough c.args.linked.now c.args.chart.now.rule c.args.words.now c.loop.trees.items c.loop.guide c.args.k c.loop.invariant.going (omega (arith, c.loop.invariant.count))
