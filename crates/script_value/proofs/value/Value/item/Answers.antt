use Rattle.std.proofs.Common.{◌≡◌, pos, sym, ap, ◌∙◌, slice_get, rules}
use Rattle.std.specs.Int.{w64, cast_signed, cast_unsigned}
use Rattle.script_value.specs.Parts.{item, item_of_level}
use Rattle.script_value.specs.declared.value.Value.TheVariants.{outs-List}
use Rattle.script_value.specs.declared.value.Value.TheOpen.{Value-F}
use Rattle.script_value.proofs.Numbers.{index_of}
use Rattle.script_value.proofs.value.Value.item.Goals as goal

pub returns-in-List : goal.returns-in-List
returns-in-List c =
    let same : cast_signed w64 (cast_unsigned w64 c.args.number) ≡ c.args.number = search rules in
    let index = index_of _ c.in-Ok.index c.in-Ok.ensures.0 c.in-Ok.ensures.1 in
    let number : c.args.number ≡ pos c.in-Ok.index = sym same ∙ index in
    c.item_at.ensures
    ∙ ap (λ vs. slice_get vs c.in-Ok.index) c.as_slice.ensures
    ∙ sym (ap (item c.args.number) c.in-List.is ∙ ap (item_of_level c.args.number) (outs-List c.in-List.values) ∙ ap (λ z. item_of_level z (Value-F.List c.in-List.values)) number)
