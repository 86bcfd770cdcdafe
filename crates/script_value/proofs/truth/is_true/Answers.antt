use Rattle.std.proofs.Common.{sym, ap, ◌∙◌, nat_lt}
use Rattle.script_value.specs.Truth.{is_true, is_true_level}
use Rattle.script_value.specs.declared.value.Value.TheVariants.{outs-Str}
use Rattle.script_value.proofs.Texts.{some_bytes}
use Rattle.script_value.proofs.truth.is_true.Goals as goal

pub returns-in-Str : goal.returns-in-Str
returns-in-Str c =
    ap (nat_lt 0) c.byte_len.ensures.value
    ∙ some_bytes c.in-Str.text
    ∙ sym (ap is_true c.in-Str.is ∙ ap is_true_level (outs-Str c.in-Str.text))
