use Rattle.std.proofs.Common.{rules, ◌≡◌, ◌++◌, ap, sym, ◌∙◌, reverse}
use Rattle.std.specs.Prelude.{Ok, pos}
use Rattle.std.specs.Int.{w64, cast_signed, cast_unsigned}
use Rattle.script_value.specs.declared.value.Value.TheVariants as v
use Rattle.script_value.proofs.Numbers.{index_of}
use Rattle.tag_script.proofs.Walks.{item_walked}
use Rattle.tag_script.proofs.changes.+walk.Goals as goal

-- src/changes.rt:143:1
pub walked_item-returns : goal.walked_item-returns
walked_item-returns t c =
    let same : cast_signed w64 (cast_unsigned w64 c.args.n) ≡ c.args.n = search rules in
    let number : c.args.n ≡ pos c.in-Ok.at = sym same ∙ index_of _ c.in-Ok.at c.in-Ok.ensures.0 c.in-Ok.ensures.1 in
    item_walked c.args.items c.in_ok-front.field-0.front (reverse c.in_ok-front.field-0.behind) c.args.n c.in-Ok.at c.in_ok-front.field-0.item
    c.in_ok-changed.changed c.args.new c.args.next.now c.args.rest.now number c.in_ok-front.ensures.0 c.in_ok-front.ensures.1 c.in_ok-changed.ensures
    ∙ ap (λ l. Ok (v.List l)) (ap (λ l. l ++ reverse c.in_ok-front.field-0.behind) (sym c.in_ok-push.ensures.ok) ∙ sym c.in_ok-put_behind.ensures)
