use Rattle.std.proofs.Common.{List, sym, ap, ◌∙◌}
use Rattle.grammar_tree.specs.declared.parse_tree.ParseTree.{ParseTree}
use Rattle.grammar_tree.specs.declared.parse_tree.ParseTree.TheVariants as tree
use Rattle.parse_choice.specs.declared.plan.Close.{Close}
use Rattle.parse_choice.specs.code.Plans.{closed}
use Rattle.parse_choice.specs.code.Walks.{State}
use Rattle.parse_choice.proofs.Outcomes.{wrapped}
use Rattle.parse_choice.proofs.walk.Walk.close.Goals as goal

pub returns-in_ok-push-in-Alt : goal.returns-in_ok-push-in-Alt
returns-in_ok-push-in-Alt c =
    let trees = wrapped (tree.Alt c.in-Alt.taken) c.args.self.now.trees.items c.pop.new.self.items c.push.new.self.items c.in-Some.tree (tree.Alt c.in-Alt.taken c.in_ok-inner-in-Alt.inner) c.in-Some.ensures.items (ap (tree.Alt c.in-Alt.taken) c.in_ok-inner-in-Alt.ensures) c.in_ok-push-in-Alt.ensures.items in
    ap (λ (ts : List ParseTree). let s : State = record { plan = c.args.self.now.plan; here = record { place = c.args.self.now.place; trees = ts }; trail = c.args.self.now.trail } in s)
    (trees ∙ ap (λ (x : Close). closed x c.args.self.now.trees.items) (sym c.in-Alt.is))

pub returns-in_ok-push-in-Rule : goal.returns-in_ok-push-in-Rule
returns-in_ok-push-in-Rule c =
    let trees = wrapped (tree.Rule c.in-Rule.rule) c.args.self.now.trees.items c.pop-in-Rule.new.self.items c.push-in-Some-pop.new.self.items c.in-Some-pop.tree (tree.Rule c.in-Rule.rule c.in_ok-inner-in-Rule.inner) c.in-Some-pop.ensures.items (ap (tree.Rule c.in-Rule.rule) c.in_ok-inner-in-Rule.ensures) c.in_ok-push-in-Rule.ensures.items in
    ap (λ (ts : List ParseTree). let s : State = record { plan = c.args.self.now.plan; here = record { place = c.args.self.now.place; trees = ts }; trail = c.args.self.now.trail } in s)
    (trees ∙ ap (λ (x : Close). closed x c.args.self.now.trees.items) (sym c.in-Rule.is))
