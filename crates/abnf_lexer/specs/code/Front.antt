-- What stands at the front of a text, as it is found.
use Rattle.std.specs.Prelude.{ℕ, ◌+◌, ◌==◌, ◌&&◌, Bool, true, false, nat_eq, nat_le, List, [], ◌∷◌, take, drop, codes, Option, Some, None, unwrap_or, if◌then◌else◌}
use Rattle.std.specs.List.{prefix_len, starts_with}
use Rattle.vg_base.specs.Characters.{is_space, is_name_start, is_name}
use Rattle.vg_base.specs.Places.{is_within_line}
use Rattle.abnf_lexer.specs.declared.lexemes.PieceKind.{PieceKind}
use Rattle.abnf_lexer.specs.declared.lexemes.PieceKind.TheVariants.{WhiteSpace, LineComment, BlockComment, Lexeme}
use Rattle.abnf_lexer.specs.declared.lexemes.LexKind.TheVariants as lex
use Rattle.abnf_lexer.specs.declared.front.Cut.{Cut}
use Rattle.vg_base.specs.Runs.{begins, enclosed_len}
use Rattle.abnf_lexer.specs.Classes.{is_sign, is_bare, is_letter, is_letter_or_digit, is_code_character}

-- the first part of a code has letters alone
abbrev pub is_allowed : (first : Bool) → ℕ → Bool
is_allowed first c = if first then is_letter c else is_letter_or_digit c

abbrev pub is_part : ℕ → Bool
is_part len = nat_le 1 len && nat_le len 8

-- whether the characters go on as a code of which the first or a later part has so many characters so far
abbrev pub goes_on : (first : Bool) (len : ℕ) → List ℕ → Bool
goes_on first len [] = is_part len
goes_on first len (c ∷ cs) =
    if c == 45 then is_part len && goes_on false 0 cs
    else is_allowed first c && goes_on first (len + 1) cs

abbrev pub is_code : List ℕ → Bool
is_code = goes_on true 0

abbrev pub cut : PieceKind → ℕ → Option Cut
cut kind len = Some (record { kind = kind; len = len })

abbrev pub cut_at : PieceKind → Option ℕ → Option Cut
cut_at kind None = None
cut_at kind (Some len) = cut kind len

-- how long a media type is that comes next
abbrev pub media_len : List ℕ → ℕ
media_len text = if starts_with nat_eq text (codes "~<") then unwrap_or (enclosed_len 2 (codes ">") text) 0 else 0

abbrev pub with_media : (text : List ℕ) → Option ℕ → Option ℕ
with_media text None = None
with_media text (Some n) = Some (n + media_len (drop n text))

abbrev pub angled : ℕ → (text : List ℕ) → Option ℕ
angled opening text = with_media text (enclosed_len opening (codes ">") text)

-- what begins with a `$`, a `/`, a `!` and a `{`
abbrev pub dollar : List ℕ → Option Cut
dollar text =
    if begins (λ c. c == 60) (drop 1 text) then cut_at (Lexeme lex.UriRef) (angled 2 text)
    else (if begins is_name_start (drop 1 text) then cut (Lexeme lex.Name) (2 + prefix_len is_name (drop 2 text)) else None)

abbrev pub slash : List ℕ → Option Cut
slash text =
    if begins (λ c. c == 47) (drop 1 text) then cut LineComment (2 + prefix_len is_within_line (drop 2 text))
    else (if begins (λ c. c == 42) (drop 1 text) then cut_at BlockComment (enclosed_len 2 (codes "*/") text)
    else cut_at (Lexeme lex.Weight) (enclosed_len 1 (codes "/") text))

abbrev pub language : List ℕ → Option Cut
language text =
    let n = prefix_len is_code_character (drop 1 text) in
    if is_code (take n (drop 1 text)) then cut (Lexeme lex.Language) (1 + n) else None

abbrev pub tag : List ℕ → Option Cut
tag text =
    if starts_with nat_eq text (codes "{!{") then cut_at (Lexeme lex.Tag) (enclosed_len 3 (codes "}!}") text)
    else cut_at (Lexeme lex.Tag) (enclosed_len 1 (codes "}") text)

unfoldable pub front : List ℕ → Option Cut
front [] = None
front (c ∷ cs) =
    if is_bare c then cut (Lexeme lex.Bare) (1 + prefix_len is_bare cs)
    else (if is_space c then cut WhiteSpace (1 + prefix_len is_space cs)
    else (if is_sign c then cut (Lexeme lex.Sign) 1
    else (if c == 34 then cut_at (Lexeme lex.Quoted) (enclosed_len 1 (codes "\"") (c ∷ cs))
    else (if c == 36 then dollar (c ∷ cs)
    else (if c == 60 then cut_at (Lexeme lex.Angle) (angled 1 (c ∷ cs))
    else (if c == 47 then slash (c ∷ cs)
    else (if c == 33 then language (c ∷ cs)
    else (if c == 123 then tag (c ∷ cs) else None))))))))
