use Rattle.std.proofs.Common.{sym, ◌∙◌, subst, true≢false}
use Rattle.grammar_tree.specs.Derives.{Words, RuleHasTree}
use Rattle.parse_choice.specs.declared.walk.Ground.{Ground}
use Rattle.parse_choice.proofs.Going.{follows_first, first_of_rule}
use Rattle.parse_choice.proofs.choose.first.Goals as goal

pub returns-then-not-matched : goal.returns-then-not-matched
returns-then-not-matched c = λ h.
    true≢false (sym ((c.matched.ensures c.args.linked.now c.requires.ran).1 (subst (λ (ws : Words). RuleHasTree c.args.linked.now c.args.chart.now.rule ws) (sym c.requires.words) h)) ∙ c.if-not-matched.true)

pub walk_through-requires-clause-guide : goal.walk_through-requires-clause-guide
walk_through-requires-clause-guide c =
    let g : Ground = record { alloc = c.args.alloc; chart = c.args.chart; linked = c.args.linked; words = c.args.words; body = c.body_of-body.result; guide = c.as_slice.result } in
    follows_first g (record { linked = c.body_of-body.ensures.linked; ran = c.requires.ran; words = c.requires.words; body = c.body_of-body.ensures.body })
    (subst (λ (ws : Words). RuleHasTree c.args.linked.now c.args.chart.now.rule ws) c.requires.words ((c.matched.ensures c.args.linked.now c.requires.ran).0 c.if-not-matched.false))
    (c.as_slice.ensures ∙ c.new-guide.ensures)

pub returns : goal.returns
returns c =
    let g : Ground = record { alloc = c.args.alloc; chart = c.args.chart; linked = c.args.linked; words = c.args.words; body = c.body_of-body.result; guide = c.as_slice.result } in
    first_of_rule g (record { linked = c.body_of-body.ensures.linked; ran = c.requires.ran; words = c.requires.words; body = c.body_of-body.ensures.body }) c.in_ok-tree.field-0 c.in_ok-tree.ensures (c.as_slice.ensures ∙ c.new-guide.ensures)
