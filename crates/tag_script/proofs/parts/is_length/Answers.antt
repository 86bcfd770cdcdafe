use Rattle.std.proofs.Common.{sym, ◌∙◌}
use Rattle.tag_script.proofs.Words.{length_bytes}
use Rattle.tag_script.proofs.parts.is_length.Goals as goal

-- src/parts.rt:27:1
pub returns : goal.returns
returns c = c.eq.ensures ∙ length_bytes c.as_str.result.now c.args.word.now c.as_str.ensures.characters (sym c.as_str.ensures.bytes)
