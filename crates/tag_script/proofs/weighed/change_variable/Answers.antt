use Rattle.std.proofs.Common.{◌≡◌, ap, arith}
use Rattle.vg_base.specs.Pairs.{put}
use Rattle.script_value.specs.declared.value.Value.TheVariants as v
use Rattle.tag_script.specs.Weight.{weight}
use Rattle.tag_script.specs.code.Weights.{variable_weight}
use Rattle.tag_script.proofs.Weights.{put-weighed, tested_weighs}
use Rattle.tag_script.proofs.weighed.change_variable.Goals as goal

pub invariant_of-result : goal.invariant_of-result
invariant_of-result c =
    let same : c.put_member.new.members ≡ put c.args.name.now c.in_ok-whole.whole c.weighed.inside.env.vars =
    cc (c.in_ok-put_member.ensures.ok, c.in_ok-copy.ensures, c.take_member-old.ensures.again c.in_ok-whole.whole) in
    let changed = ap (λ ms. weight (v.Record ms)) same in
    let exchanged = put-weighed c.args.name.now c.in_ok-whole.whole c.weighed.inside.env.vars c.take_member-old.ensures.rising in
    let old = ap (variable_weight c.args.name.now) c.take_member-old.ensures.value in
    let new = tested_weighs c.in_ok-whole.whole c.in_ok-tested_weight.field-0 c.in_ok-tested_weight.ensures in
    omega arith

pub returns-clause-room : goal.returns-clause-room
returns-clause-room c =
    let same : c.put_member.new.members ≡ put c.args.name.now c.in_ok-whole.whole c.weighed.inside.env.vars =
    cc (c.in_ok-put_member.ensures.ok, c.in_ok-copy.ensures, c.take_member-old.ensures.again c.in_ok-whole.whole) in
    let changed = ap (λ ms. weight (v.Record ms)) same in
    let exchanged = put-weighed c.args.name.now c.in_ok-whole.whole c.weighed.inside.env.vars c.take_member-old.ensures.rising in
    let old = ap (variable_weight c.args.name.now) c.take_member-old.ensures.value in
    let new = tested_weighs c.in_ok-whole.whole c.in_ok-tested_weight.field-0 c.in_ok-tested_weight.ensures in
    omega arith
