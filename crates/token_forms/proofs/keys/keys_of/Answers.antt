use Rattle.std.proofs.Common.{◌∙◌}
use Rattle.token_forms.proofs.KeyBytes.{keys_all}
use Rattle.token_forms.proofs.keys.keys_of.Goals as goal

pub returns : goal.returns
returns c =
    let made = c.in_ok-spelled.ensures in
    let same = c.as_bytes.ensures.value ∙ c.as_str.ensures.bytes in
    let whole = c.in_default.ensures in
    keys_all c.args.text.now c.as_bytes.result.now same made.0 made.1 made.2 whole.0 c.in_ok-spelled.field-0 whole.1 made.3
