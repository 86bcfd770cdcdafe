-- The inside of a lexeme as it is found, kind by kind.
use Rattle.std.specs.Prelude.{ℕ, ◌==◌, nat_eq, List, drop, codes, Option, Some, None, if◌then◌else◌}
use Rattle.std.specs.List.{starts_with}
use Rattle.std.specs.Option.{option_copied}
use Rattle.vg_base.specs.Runs.{begins}
use Rattle.abnf_lexer.specs.declared.insides.Inside.{Inside}
use Rattle.abnf_lexer.specs.declared.lexemes.LexKind.{LexKind}
use Rattle.abnf_lexer.specs.declared.lexemes.LexKind.TheVariants as lex
use Rattle.abnf_lexer.specs.Classes.{is_empty}
use Rattle.abnf_lexer.specs.code.Repeats.{Parted, between}

-- the characters between the marks, and the media type or none
pub record Found : Type 0 where
  pub characters : List ℕ
  pub media : Option (List ℕ)

abbrev pub shown : Inside → Found
shown i = record { characters = i.characters.now; media = option_copied i.media }

-- these characters, and no media type
abbrev pub plain : List ℕ → Found
plain characters = record { characters = characters; media = None }

abbrev pub alone : Option Parted → Option Found
alone None = None
alone (Some p) = if is_empty p.behind then Some (plain p.inside) else None

abbrev pub behind_mark : ℕ → List ℕ → Option Found
behind_mark mark text = if begins (λ c. c == mark) text then Some (plain (drop 1 text)) else None

abbrev pub media_in : List ℕ → Option Parted → Option Found
media_in characters None = None
media_in characters (Some p) = if is_empty p.behind then Some (record { characters = characters; media = Some p.inside }) else None

abbrev pub with_media : (characters behind : List ℕ) → Option Found
with_media characters behind =
    if is_empty behind then Some (plain characters) else media_in characters (between (codes "~<") (codes ">") behind)

abbrev pub angled : Option Parted → Option Found
angled None = None
angled (Some p) = with_media p.inside p.behind

abbrev pub in_tag : List ℕ → Option Found
in_tag slice =
    if starts_with nat_eq slice (codes "{!{") then alone (between (codes "{!{") (codes "}!}") slice) else alone (between (codes "{") (codes "}") slice)

-- the inside of a slice of this kind
abbrev pub inside : LexKind → List ℕ → Option Found
inside lex.Bare slice = Some (plain slice)
inside lex.Quoted slice = alone (between (codes "\"") (codes "\"") slice)
inside lex.Name slice = behind_mark 36 slice
inside lex.UriRef slice = angled (between (codes "$<") (codes ">") slice)
inside lex.Angle slice = angled (between (codes "<") (codes ">") slice)
inside lex.Weight slice = alone (between (codes "/") (codes "/") slice)
inside lex.Language slice = behind_mark 33 slice
inside lex.Tag slice = in_tag slice
inside lex.Sign slice = Some (plain slice)
