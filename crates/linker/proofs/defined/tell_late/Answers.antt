use Rattle.std.proofs.Common.{◌≡◌, ◌<◌, ◌∷◌, ◌++◌, ◌∙◌, [], true, cond, length, get_or, Some, sym, ap, subst, arith}
use Rattle.std.proofs.lemmas.Option.{same_Some, slice_get-get_or}
use Rattle.std.proofs.lemmas.List.{length-map}
use Rattle.std.specs.Prelude.{slice_get}
use Rattle.vg_base.specs.declared.link_fault.LinkKind.TheVariants.{SelfDerive, NodesOver}
use Rattle.grammar_tree.specs.Size.{size_of}
use Rattle.linker.specs.declared.defined.Defined.{Defined}
use Rattle.linker.specs.SetFaults.{rule_fault}
use Rattle.linker.specs.code.Tellings.{Keeps}
use Rattle.linker.specs.code.Wholes.{defined_of}
use Rattle.linker.proofs.LateLemmas.{rule_at, key_of, told_there, told_by, over_same, sum_stops, late_none, late_next, late_all, TellsOne}
use Rattle.linker.proofs.defined.tell_late.Goals as goal

nowhere : Defined
nowhere = record { doc = record { 0 = 0 }; place = record { line = 0; column = 0 }; size = 0 }

pub loop-r-init : goal.loop-r-init
loop-r-init c = λ definitions are. late_none c.args.linked.now definitions c.args.faults.now

pub loop-r-preserved : goal.loop-r-preserved
unfolding nowhere
loop-r-preserved c = λ definitions are.
    let r = c.loop-r.r in
    let defined = c.args.defined.now in
    let marks = c.in_ok-marks.marks.items in
    let rule = get_or defined r nowhere in
    let mark = c.index.result.now in
    let below : r < length defined = omega (arith, c.loop-r-test.true) in
    let marked : r < length marks = omega (arith, c.in_ok-marks.ensures.sized, c.requires.sized) in
    let there : slice_get marks r ≡ Some mark = slice_get-get_or marks r mark marked ∙ ap Some (sym c.index.ensures) in
    let so = c.loop-r.invariant definitions are in
    let is = rule_at r rule are (slice_get-get_or defined r nowhere below) in
    let d = is.d in
    let key = key_of c.doc.result.now is c.doc.ensures in
    let place = ap (λ (rule : Defined). rule.place) is.is in
    let own = cond mark (rule_fault d SelfDerive ∷ []) [] in
    let size = sum_stops 65537 so.total (size_of d.rule.body) so.size (ap (λ (rule : Defined). rule.size) is.is) c.stopped-next.ensures in
    let exact = c.in_ok-marks.ensures.exact (record { 0 = r }) in
    let one : TellsOne c.args.linked.now d r so.total c.loop-r.faults c.tell_if-in-loop-r.new.faults = record {
      own = own;
      is = told_by mark d SelfDerive (λ e. exact.0 (there ∙ ap Some e)) (λ p. same_Some mark true (sym there ∙ exact.1 p));
      keeps = λ all keeps.
          let first = subst (λ fs. Keeps (all ++ fs) c.tell_if.new.faults) (told_there mark d SelfDerive key place) (c.in_ok-tell_if.ensures all keeps) in
          let over = told_there c.passes.result d NodesOver key place ∙ ap (λ b. cond b (rule_fault d NodesOver ∷ []) []) c.passes.ensures
          ∙ over_same so.total c.loop-r.before c.stopped-next.result d so.size size in
          subst (λ fs. Keeps ((all ++ own) ++ fs) c.tell_if-in-loop-r.new.faults) over (c.in_ok-tell_if-2.ensures (all ++ own) first);
    } in
    late_next d so is.rest one size

pub returns : goal.returns
returns c = λ definitions are.
    let sized : length definitions ≡ length c.args.defined.now = sym (length-map definitions defined_of) ∙ ap length (sym are.kept) in
    late_all (c.loop-r.invariant definitions are) (omega (arith, sized, c.loop-r-test.false))
