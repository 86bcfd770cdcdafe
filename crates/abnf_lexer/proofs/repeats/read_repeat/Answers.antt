use Rattle.std.proofs.Common.{◌≡◌, ℕ, List, Option, Some, None, sym, ◌∙◌}
use Rattle.std.specs.Option.{MatchOption, option_map, option_copied}
use Rattle.std.proofs.lemmas.Option.{none-some}
use Rattle.abnf_lexer.specs.declared.repeats.Repeat.{Repeat}
use Rattle.abnf_lexer.specs.Repeats.{IsRepeat, IsNoRepeat, shown, most_of}
use Rattle.abnf_lexer.specs.code.Repeats.{repeat}
use Rattle.abnf_lexer.proofs.RepeatForms.{repeat_of, repeat_read}
use Rattle.abnf_lexer.proofs.repeats.read_repeat.Goals as goal

-- what is read is a repeat, and where nothing is read there is none
exact : (slice : List ℕ) (o : Option Repeat) → option_map shown o ≡ repeat slice → MatchOption o (IsNoRepeat slice) (λ (r : Repeat). IsRepeat slice r.least.now (most_of r.most) (option_copied r.chance))
exact slice None e = λ least most chance h. none-some _ (e ∙ repeat_read slice (record { least = least; most = most; chance = chance }) h)
exact slice (Some r) e = repeat_of slice (shown r) (sym e)

pub returns : goal.returns
returns c = exact c.args.slice.now c.in_angles.result c.in_angles.ensures
