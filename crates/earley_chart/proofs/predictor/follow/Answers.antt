use Rattle.std.proofs.Common.{ℕ, ◌<◌, ◌≡◌, ◌∙◌, ap, sym, Some, ⊎_elim, arith}
use Rattle.grammar_tree.specs.declared.linked.Node.TheVariants as node
use Rattle.earley_chart.proofs.Answers.{start_few}
use Rattle.earley_chart.proofs.LeafAnswers.{spot_place, spot_node, token_ends, garbage_ends, tag_ends, null_ends}
use Rattle.earley_chart.proofs.predictor.follow.Goals as goal

pub node-requires : goal.node-requires
node-requires c = spot_node _ _ _ _ c.requires.of

pub token-requires-clause-place : goal.token-requires-clause-place
token-requires-clause-place c = spot_place _ _ _ _ c.requires.of

pub garbage-requires-clause-place : goal.garbage-requires-clause-place
garbage-requires-clause-place c = spot_place _ _ _ _ c.requires.of

pub one-requires : goal.one-requires
one-requires c = omega (arith, start_few _ _ _ _ c.requires.of)

pub returns-in-Token-clause-answer : goal.returns-in-Token-clause-answer
returns-in-Token-clause-answer c =
    token_ends c.args.task.now c.args.board.now c.args.at c.args.spot c.requires.of c.args.board.now c.as_slice.result.now c.token.result
    (c.node.ensures.value ∙ ap Some (c.in-Token.is ∙ ap node.Token (sym c.as_slice.ensures))) c.token.ensures

pub returns-in-Garbage-clause-answer : goal.returns-in-Garbage-clause-answer
returns-in-Garbage-clause-answer c =
    garbage_ends c.args.task.now c.args.board.now c.args.at c.args.spot c.requires.of c.args.board.now c.garbage.result (c.node.ensures.value ∙ ap Some c.in-Garbage.is) c.garbage.ensures

pub returns-in-Tag-clause-answer : goal.returns-in-Tag-clause-answer
returns-in-Tag-clause-answer c = ⊎_elim
    (λ tag. tag_ends c.args.task.now c.args.board.now c.args.at c.args.spot c.requires.of c.args.board.now tag.0 c.one.result (c.node.ensures.value ∙ ap Some tag.1) c.one.ensures)
    (λ none. null_ends c.args.task.now c.args.board.now c.args.at c.args.spot c.requires.of c.args.board.now c.one.result (c.node.ensures.value ∙ ap Some none) c.one.ensures)
    c.in-Tag.is
