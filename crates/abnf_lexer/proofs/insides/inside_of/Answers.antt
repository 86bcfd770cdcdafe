use Rattle.std.proofs.Common.{◌≡◌, ℕ, List, Option, Some, None, sym, ◌∙◌}
use Rattle.std.specs.Option.{MatchOption, option_map, option_copied}
use Rattle.std.proofs.lemmas.Option.{none-some}
use Rattle.abnf_lexer.specs.declared.insides.Inside.{Inside}
use Rattle.abnf_lexer.specs.declared.lexemes.LexKind.{LexKind}
use Rattle.abnf_lexer.specs.Insides.{IsInside, HasNoInside}
use Rattle.abnf_lexer.specs.code.Insides.{shown, inside}
use Rattle.abnf_lexer.proofs.InsideForms.{inside_is, inside_read}
use Rattle.abnf_lexer.proofs.insides.inside_of.Goals as goal

-- what is found is the inside, and where nothing is found there is none
exact : (kind : LexKind) (slice : List ℕ) (o : Option Inside) → option_map shown o ≡ inside kind slice → MatchOption o (HasNoInside kind slice) (λ (i : Inside). IsInside kind i.characters.now (option_copied i.media) slice)
exact kind slice None e = λ i media h. none-some _ (e ∙ inside_read kind i media slice h)
exact kind slice (Some i) e = inside_is kind slice (shown i) (sym e)

pub returns : goal.returns
returns c = exact c.args.kind c.args.slice.now c.found.result c.found.ensures
