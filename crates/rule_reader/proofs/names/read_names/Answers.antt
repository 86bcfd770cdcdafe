use Rattle.std.proofs.Common.{◌≡◌, ◌+◌, ℕ, List, drop, sym, subst}
use Rattle.abnf_parser.specs.declared.written.WrittenRule.{WrittenRule}
use Rattle.rule_reader.specs.code.Walks.{NamesSoFar}
use Rattle.rule_reader.proofs.Rests.{rest_next, rest_none}
use Rattle.rule_reader.proofs.NamesRead.{names_none, names_next, names_all}
use Rattle.rule_reader.proofs.names.read_names.Goals as goal

pub loop-rule-init : goal.loop-rule-init
loop-rule-init c =
    subst (λ (m : List (List ℕ × Unit {0})). NamesSoFar c.args.text.now c.args.rules.now c.args.rules.now m c.args.found.now c.args.found.now) (sym c.new-names.ensures)
    (names_none c.args.text.now c.args.rules.now c.args.found.now)

pub loop-rule-preserved : goal.loop-rule-preserved
loop-rule-preserved c =
    let all = c.args.rules.now in
    let i = c.loop-rule.rule-index in
    let rule = c.rule-item in
    let here = subst (λ (rs : List WrittenRule). NamesSoFar c.args.text.now all rs c.loop-rule.names c.args.found.now c.loop-rule.found) (rest_next all i rule.result c.loop-rule-test.true rule.is) c.loop-rule.invariant in
    subst (λ (m : List (List ℕ × Unit {0})). NamesSoFar c.args.text.now all (drop (i + 1) all) m c.args.found.now c.tell-in-loop-rule.new.found) (sym c.in_ok-set.ensures.ok)
    (names_next c.is_special.result rule.result c.in_ok-name.name here c.in_ok-name.ensures (c.contains.ensures, c.is_special.ensures) (c.tell.ensures, c.tell-in-loop-rule.ensures))

pub returns : goal.returns
returns c =
    let all = c.args.rules.now in
    let i = c.loop-rule.rule-index in
    names_all c.args.text.now all (drop i all) c.loop-rule.names c.args.found.now c.loop-rule.found (rest_none all i c.loop-rule-test.false) c.loop-rule.invariant
