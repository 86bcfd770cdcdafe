use Rattle.std.proofs.Common.{length, ap, ◌∙◌, arith, length-append}
use Rattle.std.proofs.lemmas.Bool.Decides.{nat_tests}
use Rattle.vg_base.specs.Cut.{characters}
use Rattle.vg_base.proofs.Cutting.{cut_whole}
use Rattle.token_forms.specs.Keys.{HasForm, keys_in}
use Rattle.token_forms.proofs.KeyBytes.{all_signs, bad_place}
use Rattle.token_forms.proofs.keys.count_keys.Goals as goal

pub overflow_sub-at : goal.overflow_sub-at
overflow_sub-at c =
    let found = c.unspelled-number.ensures in
    let rest = c.unspelled-number.result.1.now in
    omega (arith, ap length (cut_whole HasForm c.as_bytes-bytes.result.now found.0 rest found.1.cuts), length-append (characters found.0) rest)

pub returns-then-is_empty : goal.returns-then-is_empty
returns-then-is_empty c =
    let found = c.unspelled-number.ensures in
    let same = c.as_bytes-bytes.ensures.value ∙ c.as_str.ensures.bytes in
    (keys_in found.0, all_signs c.args.text.now c.as_bytes-bytes.result.now same found.0 c.unspelled-number.result.1.now found.1 (grind (arith, nat_tests)), found.2)

pub returns-else-is_empty : goal.returns-else-is_empty
returns-else-is_empty c =
    let found = c.unspelled-number.ensures in
    let same = c.as_bytes-bytes.ensures.value ∙ c.as_str.ensures.bytes in
    bad_place c.args.text.now c.as_bytes-bytes.result.now same found.0 c.unspelled-number.result.1.now found.1 (grind (arith, nat_tests))
