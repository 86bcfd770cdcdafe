use Rattle.std.proofs.Common.{List, Some, length, sym, ap, ◌∙◌, subst, ⊎_elim, arith}
use Rattle.vg_base.specs.declared.numbers.NodeIx.{NodeIx}
use Rattle.grammar_tree.specs.declared.linked.Node.{Node}
use Rattle.grammar_tree.specs.declared.linked.Node.TheVariants as node
use Rattle.grammar_tree.specs.Derives.{Words}
use Rattle.grammar_tree.specs.Links.{parts}
use Rattle.parse_choice.specs.declared.plan.Job.{Job}
use Rattle.parse_choice.specs.code.Walks.{State, WalksOn, state_of}
use Rattle.parse_choice.proofs.Outcomes.{on_ok, in_line}
use Rattle.parse_choice.proofs.WalkSteps.{node_place, token_within, token_step, sequence_step, alternative_step, repeat_step, reference_step, tag_step, null_step, void_step, garbage_begins}
use Rattle.parse_choice.proofs.walk.Walk.begin.Goals as goal

pub node-requires : goal.node-requires
node-requires c = (node_place c.args.ground.now c.requires.ground c.args.node c.args.ends (state_of c.args.self.now) c.requires.walks).0

pub token-requires : goal.token-requires
token-requires c =
    omega (arith, token_within c.args.ground.now c.requires.ground c.args.node c.args.ends (state_of c.args.self.now) c.requires.walks c.in-Token.own (c.node.ensures.value ∙ ap Some c.in-Token.is), ap length c.as_slice.ensures)

pub sequence-requires : goal.sequence-requires
sequence-requires c = in_line c.args.ground.now c.requires.ground

pub alternatives-requires : goal.alternatives-requires
alternatives-requires c = omega (arith, c.node.ensures.few, ap (λ (x : Node). length (parts x)) c.in-Alt.is, ap length c.as_slice-in-Alt.ensures)

pub repeat-requires : goal.repeat-requires
repeat-requires c = in_line c.args.ground.now c.requires.ground

pub leaf-requires : goal.leaf-requires
leaf-requires c = omega (arith, (node_place c.args.ground.now c.requires.ground c.args.node c.args.ends (state_of c.args.self.now) c.requires.walks).1, c.requires.ground.ran.few)

pub leaf-requires-in-Null : goal.leaf-requires-in-Null
leaf-requires-in-Null c = omega (arith, (node_place c.args.ground.now c.requires.ground c.args.node c.args.ends (state_of c.args.self.now) c.requires.walks).1, c.requires.ground.ran.few)

pub returns-in-Token : goal.returns-in-Token
returns-in-Token c = on_ok c.token.result
    (λ e. subst (λ (s : State). WalksOn c.args.ground.now s) (sym e)
    (token_step c.args.ground.now c.requires.ground c.args.node c.args.ends (state_of c.args.self.now) c.requires.walks c.as_slice.result.now
    (c.node.ensures.value ∙ ap Some c.in-Token.is ∙ ap (λ (ws : Words). Some (node.Token ws)) (sym c.as_slice.ensures))))
    c.token.ensures

pub returns-in-Seq : goal.returns-in-Seq
returns-in-Seq c = on_ok c.sequence.result
    (λ s. sequence_step c.args.ground.now c.requires.ground c.args.node c.args.ends (state_of c.args.self.now) c.requires.walks c.as_slice-in-Seq.result.now (state_of c.sequence.new.self)
    (c.node.ensures.value ∙ ap Some c.in-Seq.is ∙ ap (λ (ps : List NodeIx). Some (node.Seq ps)) (sym c.as_slice-in-Seq.ensures)) s)
    c.sequence.ensures

pub returns-in-Alt : goal.returns-in-Alt
returns-in-Alt c = on_ok c.alternatives.result
    (λ s. alternative_step c.args.ground.now c.requires.ground c.args.node c.args.ends (state_of c.args.self.now) c.requires.walks c.as_slice-in-Alt.result.now (state_of c.alternatives.new.self)
    (c.node.ensures.value ∙ ap Some c.in-Alt.is ∙ ap (λ (ps : List NodeIx). Some (node.Alt ps)) (sym c.as_slice-in-Alt.ensures)) s)
    c.alternatives.ensures

pub returns-in-Rep : goal.returns-in-Rep
returns-in-Rep c = on_ok c.repeat.result
    (λ s. repeat_step c.args.ground.now c.requires.ground c.args.node c.args.ends (state_of c.args.self.now) c.requires.walks (record { least = c.in-Rep.least; most = c.in-Rep.most; inner = c.in-Rep.inner }) (state_of c.repeat.new.self)
    (c.node.ensures.value ∙ ap Some c.in-Rep.is) s)
    c.repeat.ensures

pub returns-in-Ref : goal.returns-in-Ref
returns-in-Ref c = on_ok c.reference.result
    (λ h. reference_step c.args.ground.now c.requires.ground c.args.node c.args.ends (state_of c.args.self.now) c.requires.walks c.in-Ref.rule h.0 (state_of c.reference.new.self)
    (c.node.ensures.value ∙ ap Some c.in-Ref.is) h.1 h.2)
    c.reference.ensures

pub returns-in-Tag : goal.returns-in-Tag
returns-in-Tag c = on_ok c.leaf.result
    (λ e. subst (λ (s : State). WalksOn c.args.ground.now s) (sym e)
    (tag_step c.args.ground.now c.requires.ground c.args.node c.args.ends (state_of c.args.self.now) c.requires.walks c.in-Tag.field-0 (c.node.ensures.value ∙ ap Some c.in-Tag.is)))
    c.leaf.ensures

pub returns-in-Garbage : goal.returns-in-Garbage
returns-in-Garbage c = on_ok c.push.result
    (λ e. subst (λ (xs : List Job). WalksOn c.args.ground.now (record { plan = xs; here = record { place = c.args.self.now.place; trees = c.args.self.now.trees.items }; trail = c.args.self.now.trail })) (sym e)
    (garbage_begins c.args.ground.now c.requires.ground c.args.node c.args.ends (state_of c.args.self.now) c.requires.walks (c.node.ensures.value ∙ ap Some c.in-Garbage.is)))
    c.push.ensures

pub returns-in-Null : goal.returns-in-Null
returns-in-Null c = on_ok c.leaf-in-Null.result
    (λ e. subst (λ (s : State). WalksOn c.args.ground.now s) (sym e) (⊎_elim
    (λ is. null_step c.args.ground.now c.requires.ground c.args.node c.args.ends (state_of c.args.self.now) c.requires.walks (c.node.ensures.value ∙ ap Some is))
    (λ is. void_step c.args.ground.now c.requires.ground c.args.node c.args.ends (state_of c.args.self.now) c.requires.walks (c.node.ensures.value ∙ ap Some is))
    c.in-Null.is))
    c.leaf-in-Null.ensures
