use Rattle.std.proofs.Common.{◌≡◌, ◌+◌, List, take, drop, sym, subst}
use Rattle.abnf_parser.specs.declared.written.Declaration.{Declaration}
use Rattle.rule_reader.specs.code.Walks.{DeclarationsSoFar}
use Rattle.rule_reader.proofs.Rests.{rest_next, rest_none, front_next}
use Rattle.rule_reader.proofs.DocumentRead.{declarations_none, declarations_next, declarations_all}
use Rattle.rule_reader.proofs.declarations.read_declarations.Goals as goal

pub loop-at-init : goal.loop-at-init
loop-at-init c = declarations_none c.args.text.now c.args.declarations.now c.args.found.now

pub loop-at-preserved : goal.loop-at-preserved
loop-at-preserved c =
    let all = c.args.declarations.now in
    let at = c.loop-at.at in
    let d = c.index-declarations-at in
    let here = subst (λ (ds : List Declaration). DeclarationsSoFar c.args.text.now all (take at all) ds c.args.found.now c.loop-at.found) (rest_next all at d.result c.loop-at-test.true d.is) c.loop-at.invariant in
    let next = declarations_next d.result here c.is_twice.ensures c.tell.ensures c.in_ok-read_argument.ensures in
    subst (λ (ds : List Declaration). DeclarationsSoFar c.args.text.now all ds (drop (at + 1) all) c.args.found.now c.read_argument.new.found) (sym (front_next all at d.result c.loop-at-test.true d.is)) next

pub returns : goal.returns
returns c =
    let all = c.args.declarations.now in
    let at = c.loop-at.at in
    declarations_all c.args.text.now all (take at all) (drop at all) c.args.found.now c.loop-at.found (rest_none all at c.loop-at-test.false) c.loop-at.invariant
