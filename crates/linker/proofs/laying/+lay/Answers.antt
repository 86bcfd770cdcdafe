use Rattle.std.proofs.Common.{ℕ, ◌+◌, ◌*◌, ◌<◌, ◌≤◌, ◌≡◌, List, [], ◌∷◌, ◌++◌, length, reverse, refl, sym, ap, subst, ◌∙◌, arith, length-append}
use Rattle.std.specs.Prelude.{slice_set}
use Rattle.std.specs.Vec.{with_item}
use Rattle.std.proofs.lemmas.List.{reverse-reverse}
use Rattle.grammar_tree.specs.declared.expansion.Expansion.{Expansion}
use Rattle.grammar_tree.specs.declared.linked.Node.{Node}
use Rattle.grammar_tree.specs.declared.linked.Node.TheVariants as node
use Rattle.grammar_tree.specs.Size.{node_count}
use Rattle.grammar_tree.specs.declared.expansion.Expansion.TheVariants as e
use Rattle.grammar_tree.specs.declared.expansion.Goal.{Goal}
use Rattle.grammar_tree.specs.declared.expansion.Reference.{Reference}
use Rattle.vg_base.specs.declared.numbers.NodeIx.{NodeIx}
use Rattle.vg_base.specs.declared.numbers.RuleIx.{RuleIx}
use Rattle.linker.specs.declared.laying.Laying.{Laying}
use Rattle.linker.specs.declared.scope.Scope.{Scope}
use Rattle.linker.specs.code.Layings.{Lays, StartAt, Follows}
use Rattle.linker.proofs.LayingKinds.{HasParts, IsRow, row_of_sequence, row_of_alternatives, IsAlone, alone_token, alone_tag, alone_null, alone_void, alone_garbage, weight, weight-append, weight-reverse, parts_are_less}
use Rattle.linker.proofs.LayingLemmas.{IsFilled, filled_longer, IsPushed, as_pushed, pushed_longer, lays_row, lays_repeat, lays_leaf, lays_reference}
use Rattle.linker.proofs.LayingLemmas.{SoFar, one_so_far}
use Rattle.linker.proofs.laying.+lay.Goals as goal
use Rattle.linker.proofs.laying.+lay.Goals.{lay-in-Ref+in_ok-follow-in-Ref+in-Local-1, lay-in-Ref+in_ok-follow-in-Ref+in-Named-1, lay-in-Ref+in_ok-follow-in-Ref+in-Root-1, lay-in-Token, lay-in-Tag, lay-in-Null, lay-in-Void, lay-in-Garbage}

-- the parts are less than the whole, also reversed
less : (x : Expansion) (parts others : List Expansion) → HasParts x parts → others ≡ reverse parts → 2 * weight others + 1 < 2 * node_count x
less x parts others has is = omega (arith, parts_are_less has, ap weight is ∙ weight-reverse parts)

pub lay-lay_all-requires : goal.lay-lay_all-requires
lay-lay_all-requires t c =
    (omega (arith, c.decreases, less c.args.e c.in-Seq.parts c.in_ok-reversed-in-Seq.field-0.items (row_of_sequence c.in-Seq.is).has c.in_ok-reversed-in-Seq.ensures), tt)

pub lay-lay_all-requires-in-Alt : goal.lay-lay_all-requires-in-Alt
lay-lay_all-requires-in-Alt t c =
    (omega (arith, c.decreases, less c.args.e c.in-Alt.parts c.in_ok-reversed-in-Alt.field-0.items (row_of_alternatives c.in-Alt.is).has c.in_ok-reversed-in-Alt.ensures), tt)

-- the place that was held is still there
still : (old held mid : List Node) (at count : ℕ) → at ≡ length old → held ≡ old ++ node.Null ∷ [] → length held ≤ length mid → count ≡ length mid → at < count
still old held mid at count is place longer counted = omega (arith, ap length place ∙ length-append old (node.Null ∷ []))

pub lay-index_mut-requires : goal.lay-index_mut-requires
lay-index_mut-requires t c =
    let held = c.in_ok-at-in-Seq.ensures in
    still c.args.laying.now.nodes.items c.hold.new.laying.nodes.items c.lay_all.new.laying.nodes.items _ _ held.at held.nodes c.in_ok-starts-in-Seq.ensures.longer c.lay_all.new.laying.nodes.ok.0

pub lay-index_mut-requires-in-Alt : goal.lay-index_mut-requires-in-Alt
lay-index_mut-requires-in-Alt t c =
    let held = c.in_ok-at-in-Alt.ensures in
    still c.args.laying.now.nodes.items c.hold-in-Alt.new.laying.nodes.items c.lay_all-in-Alt.new.laying.nodes.items _ _ held.at held.nodes c.in_ok-starts-in-Alt.ensures.longer c.lay_all-in-Alt.new.laying.nodes.ok.0

pub lay-index_mut-requires-in-Rep : goal.lay-index_mut-requires-in-Rep
lay-index_mut-requires-in-Rep t c =
    let held = c.in_ok-at-in-Rep.ensures in
    still c.args.laying.now.nodes.items c.hold-in-Rep.new.laying.nodes.items c.lay.new.laying.nodes.items _ _ held.at held.nodes c.in_ok-lay-in-Rep.ensures.longer c.lay.new.laying.nodes.ok.0

-- ---- nodes whose place was held

abbrev IsLaid : Scope → Expansion → Laying → Laying → Type 0
IsLaid scope x old new = record { laid : Lays scope (x ∷ []) old new; longer : length old.nodes.items ≤ length new.nodes.items }

abbrev AreLaid : Scope → List Expansion → Laying → Laying → List NodeIx → Type 0
AreLaid scope xs old new begin = record {
  laid : Lays scope xs old new;
  starts : StartAt scope xs (length old.nodes.items) begin;
  longer : length old.nodes.items ≤ length new.nodes.items;
}

abbrev IsHeld : Laying → Laying → ℕ → Type 0
IsHeld old held at = record { at : at ≡ length old.nodes.items; nodes : held.nodes.items ≡ old.nodes.items ++ node.Null ∷ []; faults : held.faults ≡ old.faults }

filled_at : (old held mid : Laying) (at : ℕ) (one : Node) → IsHeld old held at → IsFilled one old held mid (record { nodes = with_item mid.nodes at one; faults = mid.faults })
filled_at old held mid at one is = record {
  place = is.nodes;
  place_faults = is.faults;
  put = ap (λ k. slice_set mid.nodes.items k one) is.at;
  put_faults = refl;
}

row : (scope : Scope) {x : Expansion} {parts others : List Expansion} {one : List NodeIx → Node} {begin : List NodeIx} {old held mid new : Laying} → IsRow x parts one →
    IsFilled (one begin) old held mid new → others ≡ reverse parts → AreLaid scope (reverse others) held mid begin → IsLaid scope x old new
row scope {parts = parts} {others = others} {begin = begin} {held = held} {mid = mid} is filled back are =
    let same : reverse others ≡ parts = ap reverse back ∙ reverse-reverse parts in
    record {
      laid = lays_row scope is filled (subst (λ xs. Lays scope xs held mid) same are.laid) (subst (λ xs. StartAt scope xs (length held.nodes.items) begin) same are.starts);
      longer = filled_longer filled are.longer;
    }

pub lay-returns-in-Seq : goal.lay-returns-in-Seq
lay-returns-in-Seq t c =
    let one : Node = node.Seq c.in_ok-starts-in-Seq.starts in
    row c.args.scope.now (row_of_sequence c.in-Seq.is) (filled_at c.args.laying.now c.hold.new.laying c.lay_all.new.laying c.in_ok-at-in-Seq.at one c.in_ok-at-in-Seq.ensures)
    c.in_ok-reversed-in-Seq.ensures c.in_ok-starts-in-Seq.ensures

pub lay-returns-in-Alt : goal.lay-returns-in-Alt
lay-returns-in-Alt t c =
    let one : Node = node.Alt c.in_ok-starts-in-Alt.starts in
    row c.args.scope.now (row_of_alternatives c.in-Alt.is) (filled_at c.args.laying.now c.hold-in-Alt.new.laying c.lay_all-in-Alt.new.laying c.in_ok-at-in-Alt.at one c.in_ok-at-in-Alt.ensures)
    c.in_ok-reversed-in-Alt.ensures c.in_ok-starts-in-Alt.ensures

pub lay-returns-in-Rep : goal.lay-returns-in-Rep
lay-returns-in-Rep t c =
    let scope = c.args.scope.now in
    let held = c.hold-in-Rep.new.laying in
    let mid = c.lay.new.laying in
    let one : Node = node.Rep c.in-Rep.least c.in-Rep.most c.in_ok-start-in-Rep.start in
    let is = filled_at c.args.laying.now held mid c.in_ok-at-in-Rep.at one c.in_ok-at-in-Rep.ensures in
    record {
      laid =
          lays_repeat scope c.in-Rep.is is c.in_ok-start-in-Rep.ensures
          (subst (λ (x : Expansion). Lays scope (x ∷ []) held mid) c.into_inner.ensures c.in_ok-lay-in-Rep.ensures.laid);
      longer = filled_longer is c.in_ok-lay-in-Rep.ensures.longer;
    }

-- ---- nodes that are pushed

abbrev IsFollowed : Scope → Reference → Laying → Laying → RuleIx → Type 0
IsFollowed scope reference old new r = record { nodes : new.nodes ≡ old.nodes; follows : Follows scope reference old new r }

referred : (scope : Scope) {x : Expansion} {r : RuleIx} {old mid new : Laying} (reference : Reference) → x ≡ e.Ref reference → IsFollowed scope reference old mid r →
    IsPushed (node.Ref r) mid new → IsLaid scope x old new
referred scope {old = old} {mid = mid} reference is followed pushed =
    let same : mid.nodes.items ≡ old.nodes.items = λ i. (followed.nodes i).items in
    record {
      laid = lays_reference scope reference is same followed.follows pushed;
      longer = omega (arith, ap length same, pushed_longer pushed);
    }

leaf : (scope : Scope) {x kind : Expansion} {one : Node} {old new : Laying} → x ≡ kind → ((means : Goal → RuleIx) → IsAlone means kind one []) → IsPushed one old new → IsLaid scope x old new
leaf scope is alone pushed = record { laid = lays_leaf scope is alone pushed; longer = pushed_longer pushed }

pub lay-returns : goal.lay-returns
lay-returns t c =
    let scope = c.args.scope.now in
    let old = c.args.laying.now in
    let new : Laying = record { nodes = c.push.new.self; faults = c.match-e.laying.faults } in
    let pushed : IsPushed c.match-e.node c.match-e.laying new = record { nodes = c.in_ok-push.ensures.items; faults = refl } in
    elim c.match-e.branch [
      | lay-in-Ref+in_ok-follow-in-Ref+in-Local-1 w ↦
          referred scope w.in-Ref.reference w.in-Ref.is w.in_ok-follow-in-Ref.ensures (as_pushed pushed w.laying-is w.node-is)
      | lay-in-Ref+in_ok-follow-in-Ref+in-Named-1 w ↦
          referred scope w.in-Ref.reference w.in-Ref.is w.in_ok-follow-in-Ref.ensures (as_pushed pushed w.laying-is w.node-is)
      | lay-in-Ref+in_ok-follow-in-Ref+in-Root-1 w ↦
          referred scope w.in-Ref.reference w.in-Ref.is w.in_ok-follow-in-Ref.ensures (as_pushed pushed w.laying-is w.node-is)
      | lay-in-Token w ↦ leaf scope w.in-Token.is (λ means. alone_token means w.in-Token.words) (as_pushed pushed w.laying-is w.node-is)
      | lay-in-Tag w ↦ leaf scope w.in-Tag.is (λ means. alone_tag means w.in-Tag.tag) (as_pushed pushed w.laying-is w.node-is)
      | lay-in-Null w ↦ leaf scope w.in-Null.is alone_null (as_pushed pushed w.laying-is w.node-is)
      | lay-in-Void w ↦ leaf scope w.in-Void.is alone_void (as_pushed pushed w.laying-is w.node-is)
      | lay-in-Garbage w ↦ leaf scope w.in-Garbage.is alone_garbage (as_pushed pushed w.laying-is w.node-is)
    ]

pub lay_all-lay-requires : goal.lay_all-lay-requires
lay_all-lay-requires t c =
    (omega (arith, c.decreases, c.loop-part.invariant.lighter, ap weight c.in-Some.ensures.items ∙ weight-append c.pop.new.self.items (c.in-Some.part ∷ [])), tt)

pub lay_all-loop-part-preserved : goal.lay_all-loop-part-preserved
lay_all-loop-part-preserved t c =
    let before = c.loop-part.invariant in
    let all : List Expansion = reverse c.args.parts.items in
    record {
      so_far =
          subst (λ (at : List NodeIx). SoFar c.args.scope.now all c.pop.new.self.items c.args.laying.now c.lay.new.laying at) (sym c.in_ok-push.ensures.ok)
          (one_so_far c.in_ok-next.field-0 before.so_far c.in-Some.ensures.items c.in_ok-next.ensures c.in_ok-lay.ensures.laid);
      longer = omega (arith, before.longer, c.in_ok-lay.ensures.longer);
      lighter = omega (arith, before.lighter, ap weight c.in-Some.ensures.items ∙ weight-append c.pop.new.self.items (c.in-Some.part ∷ []));
    }
