use Rattle.std.proofs.Common.{List, ◌+◌, ◌≡◌, [], ◌∷◌, ◌++◌, length, sym, ap, ◌∙◌, subst, arith, true≢false}
use Rattle.std.specs.Prelude.{◌↔◌, IsTrue, slice_range}
use Rattle.grammar_tree.specs.declared.parse_tree.ParseTree.TheVariants as tree
use Rattle.grammar_tree.specs.Derives.{Words}
use Rattle.parse_choice.specs.declared.plan.Job.{Job}
use Rattle.parse_choice.specs.code.Ways.{IsFurther}
use Rattle.parse_choice.specs.code.Walks.{State, WalksOn, state_of}
use Rattle.parse_choice.proofs.WalkSteps.{garbage_go, garbage_stop}
use Rattle.parse_choice.proofs.walk.Walk.garbage.Goals as goal

pub returns-then-not-ends_here : goal.returns-then-not-ends_here
returns-then-not-ends_here c =
    let go = garbage_go c.args.ground.now c.requires.ground c.args.from c.args.ends (state_of c.args.self.now) c.requires.walks c.has-stops.result c.either.new.self
    (c.in_ok-ends_here.ensures.second (λ t. true≢false (sym t ∙ c.if-not-ends_here.true))) c.has-stops.ensures in
    subst (λ (xs : List Job). WalksOn c.args.ground.now (record { plan = xs; here = record { place = c.args.self.now.place + 1; trees = c.args.self.now.trees.items }; trail = c.either.new.self })) (sym c.in_ok-push.ensures) go.1

pub returns : goal.returns
returns c =
    let size = ap length c.requires.ground.words in
    let one = c.goes_further-more.ensures in
    let on = garbage_stop c.args.ground.now c.requires.ground c.args.from c.args.ends (state_of c.args.self.now) c.requires.walks c.has-stops.result c.goes_further-more.result c.either.new.self
    (c.in_ok-ends_here.ensures.first c.if-not-ends_here.false) c.has-stops.ensures
    (subst (λ k. IsTrue c.goes_further-more.result ↔ IsFurther c.args.ends c.args.self.now.place k) (sym size) one) in
    let own : c.in_ok-words.words ≡ slice_range c.args.ground.now.chart.now.words c.args.from c.args.self.now.place =
    c.in_ok-words.ensures ∙ ap (λ (ws : Words). slice_range ws c.args.from c.args.self.now.place) (sym c.requires.ground.words) in
    let same : c.args.self.now.place ≡ c.args.self.now.place + 0 = omega arith in
    subst (λ (s : State). WalksOn c.args.ground.now s) (sym c.in_ok-leaf.ensures)
    (subst (λ k. WalksOn c.args.ground.now (record { plan = c.args.self.now.plan; here = record { place = k; trees = c.args.self.now.trees.items ++ tree.Garbage c.in_ok-words.words ∷ [] }; trail = c.either.new.self })) same
    (subst (λ (ws : Words). WalksOn c.args.ground.now (record { plan = c.args.self.now.plan; here = record { place = c.args.self.now.place; trees = c.args.self.now.trees.items ++ tree.Garbage ws ∷ [] }; trail = c.either.new.self })) (sym own) on))
