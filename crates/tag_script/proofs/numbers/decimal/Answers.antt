use Rattle.std.proofs.Common.{rules}
use Rattle.tag_script.proofs.Decimals.{signed_chars}
use Rattle.tag_script.proofs.numbers.decimal.Goals as goal

-- src/numbers.rt:92:1
pub returns : goal.returns
returns c = search (rules, signed_chars)
