use Rattle.std.proofs.Common.{◌≡◌, subst, sym, ◌∙◌}
use Rattle.std.specs.Prelude.{IfOk}
use Rattle.script_reader.specs.declared.lexing.cutting.Cut.{Cut}
use Rattle.script_reader.proofs.Fronts.{front_other, headed}
use Rattle.script_reader.proofs.lexing.cutting.front.Goals as goal

pub returns-else-is_word_start : goal.returns-else-is_word_start
returns-else-is_word_start c =
    let Q : Cut → Type 0 = λ x. IfOk c.other_front.result (λ f. f ≡ x) in
    subst Q (front_other c.args.text.now _ c.c-item.result (headed c.args.text.now _ c.c-item.result c.in-len1-up.len_at_least c.c-item.is) (sym c.is_space.ensures ∙ c.if-is_space.false) (sym c.is_word_start.ensures ∙ c.if-is_word_start.false)) c.other_front.ensures
