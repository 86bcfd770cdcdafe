-- What the code asks of a document's context.
use Rattle.std.specs.Prelude.{ℕ, Bool, true, false, List, Option, Some}
use Rattle.std.specs.List.{list_any}
use Rattle.abnf_parser.specs.declared.written.Declaration.{Declaration}
use Rattle.rule_reader.specs.Context.{once, same}
use Rattle.abnf_parser.specs.declared.lexeme.BareWord.{BareWord}
use Rattle.abnf_parser.specs.declared.lexeme.BareWord.TheVariants as word
use Rattle.vg_base.specs.declared.format.Format.{Format}
use Rattle.vg_base.specs.declared.format.Format.TheVariants as format

-- tags are scripts
abbrev pub is_scripted : Option Format → Bool
is_scripted (Some format.Script) = true
is_scripted f = false

-- a reference stands behind the keyword
abbrev pub names_uri : BareWord → Bool
names_uri word.Base = true
names_uri word.Lexicon = true
names_uri keyword = false

abbrev pub names_format : BareWord → Bool
names_format word.TagFormat = true
names_format keyword = false

-- a declaration of this kind stands among these
abbrev pub stands_among : Option ℕ → List Declaration → Bool
stands_among kind = list_any (λ (other : Declaration). same (once other.keyword) kind)
