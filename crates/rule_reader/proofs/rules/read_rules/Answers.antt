use Rattle.std.proofs.Common.{◌≡◌, ◌+◌, List, [], ◌∷◌, ◌++◌, take, sym, subst}
use Rattle.abnf_parser.specs.declared.written.WrittenRule.{WrittenRule}
use Rattle.grammar_tree.specs.declared.document.Rule.{Rule}
use Rattle.rule_reader.specs.code.Walks.{RulesRead}
use Rattle.rule_reader.proofs.Rests.{front_next}
use Rattle.rule_reader.proofs.Walks.{rule_more}
use Rattle.rule_reader.proofs.rules.read_rules.Goals as goal

pub loop-rule-preserved : goal.loop-rule-preserved
loop-rule-preserved c =
    let i = c.loop-rule.rule-index in
    let new = c.read_rule.new.found in
    let next = front_next c.args.written.now i c.rule-item.result c.loop-rule-test.true c.rule-item.is in
    let one = rule_more (take i c.args.written.now) c.rule-item.result c.loop-rule.invariant c.in_ok-read_rule.ensures in
    subst (λ (rs : List Rule). RulesRead c.args.text.now c.args.context (take (i + 1) c.args.written.now) c.args.found.now new rs) (sym c.in_ok-push.ensures.ok)
    (subst (λ (ws : List WrittenRule). RulesRead c.args.text.now c.args.context ws c.args.found.now new (c.loop-rule.rules ++ c.in_ok-read_rule.field-0 ∷ [])) (sym next) one)
