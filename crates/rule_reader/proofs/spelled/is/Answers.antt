use Rattle.std.proofs.Common.{sym, ◌∙◌}
use Rattle.script_reader.proofs.Keywords.{word_bytes}
use Rattle.rule_reader.proofs.spelled.is.Goals as goal

pub returns : goal.returns
returns c = c.eq.ensures ∙ word_bytes c.as_str.result.now c.args.text.now c.args.other.now c.requires c.as_str.ensures.characters (sym c.as_str.ensures.bytes)
