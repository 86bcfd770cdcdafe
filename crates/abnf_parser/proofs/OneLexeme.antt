-- What stands at a place is one lexeme, whatever its characters are.
use Rattle.std.proofs.Common.{◌≡◌, ℕ, Bool, true, false, List, [], ◌∷◌, Option, Some, None, codes, refl, sym, subst, ap, ◌∙◌}
use Rattle.std.specs.Option.{is_some}
use Rattle.std.proofs.lemmas.Option.{none-some, same_Some}
use Rattle.vg_base.proofs.Ascii.{passes}
use Rattle.abnf_lexer.specs.declared.lexemes.LexKind.{LexKind}
use Rattle.abnf_lexer.specs.declared.lexemes.LexKind.TheVariants as kind
use Rattle.abnf_lexer.specs.declared.lexemes.PieceKind.TheVariants as piece
use Rattle.abnf_lexer.specs.declared.lexemes.Spanned.{Spanned}
use Rattle.abnf_lexer.specs.Classes.{is_sign}
use Rattle.abnf_lexer.specs.Forms.{HasForm, IsSign}
use Rattle.abnf_lexer.specs.Insides.{IsInside, HasNoInside}
use Rattle.abnf_lexer.specs.Repeats.{IsNoRepeat, Numbers}
use Rattle.abnf_lexer.specs.code.Front.{is_code}
use Rattle.abnf_lexer.specs.code.Repeats.{repeat}
use Rattle.abnf_lexer.proofs.CodeForms.{code_form, code_read}
use Rattle.abnf_lexer.proofs.RepeatForms.{repeat_of, repeat_read}
use Rattle.abnf_lexer.proofs.InsideForms.{some_inside, one_inside}
use Rattle.abnf_parser.specs.declared.lexeme.BareWord.{BareWord}
use Rattle.abnf_parser.specs.declared.lexeme.BareWord.TheVariants as word
use Rattle.abnf_parser.specs.declared.lexeme.AngleForm.{AngleForm}
use Rattle.abnf_parser.specs.declared.lexeme.AngleForm.TheVariants as angle
use Rattle.abnf_parser.specs.declared.lexeme.Sign.{Sign}
use Rattle.abnf_parser.specs.declared.lexeme.Lexeme.{Lexeme}
use Rattle.abnf_parser.specs.declared.lexeme.Lexeme.TheVariants as l
use Rattle.abnf_parser.specs.Roles.{found_in, signs, keywords, IsWordAs, IsBareWord, form_of, HasAngleForm, StandsAs, Stands}

-- ---- one at most

one_word : (keyword : Option BareWord) (this that : BareWord) (slice : List ℕ) → IsWordAs keyword this slice → IsWordAs keyword that slice → this ≡ that
one_word (Some keyword) this that slice h k = h ∙ sym k
one_word None word.Code word.Code slice h k = refl
one_word None word.Code word.Other slice h k = absurd (k h)
one_word None word.Other word.Code slice h k = absurd (h k)
one_word None word.Other word.Other slice h k = refl
one_word None word.Code _ slice h k = absurd k
one_word None word.Other _ slice h k = absurd k
one_word None _ that slice h k = absurd h

-- an Angle that is no repeat, by its media type
abbrev HasMediaForm : AngleForm → List ℕ → Type 0
HasMediaForm form slice = (inside : List ℕ) × (media : Option (List ℕ)) × IsInside kind.Angle inside media slice × (form ≡ form_of media)

one_media : (this that : AngleForm) (slice : List ℕ) → HasMediaForm this slice → HasMediaForm that slice → this ≡ that
one_media this that slice h k = h.3 ∙ (ap form_of (one_inside kind.Angle slice h.0 k.0 h.1 k.1 h.2 k.2).1 ∙ sym k.3)

one_form : (this that : AngleForm) (slice : List ℕ) → HasAngleForm this slice → HasAngleForm that slice → this ≡ that
one_form angle.Repeat angle.Repeat slice h k = refl
one_form angle.Repeat angle.Plain slice h k = absurd (k.0 h.0 h.1 h.2 h.3)
one_form angle.Repeat angle.Typed slice h k = absurd (k.0 h.0 h.1 h.2 h.3)
one_form angle.Plain angle.Repeat slice h k = absurd (h.0 k.0 k.1 k.2 k.3)
one_form angle.Typed angle.Repeat slice h k = absurd (h.0 k.0 k.1 k.2 k.3)
one_form angle.Plain angle.Plain slice h k = refl
one_form angle.Typed angle.Typed slice h k = refl
one_form angle.Plain angle.Typed slice h k = one_media angle.Plain angle.Typed slice h.1 k.1
one_form angle.Typed angle.Plain slice h k = one_media angle.Typed angle.Plain slice h.1 k.1

one_as : (k : LexKind) (span : Spanned) (slice : List ℕ) (x y : Lexeme) → StandsAs k span slice x → StandsAs k span slice y → x ≡ y
one_as kind.Bare span slice x y h k = h.2 ∙ (ap (λ word. l.Bare word span) (one_word (found_in keywords slice) h.0 k.0 slice h.1 k.1) ∙ sym k.2)
one_as kind.Quoted span slice x y h k = h ∙ sym k
one_as kind.Name span slice x y h k = h ∙ sym k
one_as kind.UriRef span slice x y h k = h ∙ sym k
one_as kind.Angle span slice x y h k = h.2 ∙ (ap (λ form. l.Angle form span) (one_form h.0 k.0 slice h.1 k.1) ∙ sym k.2)
one_as kind.Weight span slice x y h k = h ∙ sym k
one_as kind.Language span slice x y h k = h ∙ sym k
one_as kind.Tag span slice x y h k = h ∙ sym k
one_as kind.Sign span slice x y h k = h.2 ∙ (ap l.Sign (same_Some h.0 k.0 (sym h.1 ∙ k.1)) ∙ sym k.2)

pub one_lexeme : (span : Spanned) (slice : List ℕ) (x y : Lexeme) → Stands span slice x → Stands span slice y → x ≡ y
one_lexeme span slice x y h k = one_as span.kind span slice x y h k

-- ---- and one

false-true : false ≡ true → ⊥
false-true h = cc

some_word : (slice : List ℕ) → (word : BareWord) × IsBareWord word slice
some_word slice = by_keyword (found_in keywords slice) (is_code slice) refl
  where
    by_keyword : (keyword : Option BareWord) (b : Bool) → is_code slice ≡ b → (word : BareWord) × IsWordAs keyword word slice
    by_keyword (Some keyword) b e = (keyword, refl)
    by_keyword None true e = (word.Code, code_form slice e)
    by_keyword None false e = (word.Other, λ h. false-true (sym e ∙ code_read slice h))

no_repeat : (slice : List ℕ) → repeat slice ≡ None → IsNoRepeat slice
no_repeat slice e least most chance h =
    none-some _ (sym e ∙ repeat_read slice (record { least = least; most = most; chance = chance }) h)

-- a slice that is no repeat has the form that its media type tells
pub formed : (slice : List ℕ) (inside : List ℕ) (media : Option (List ℕ)) → IsNoRepeat slice → IsInside kind.Angle inside media slice → HasAngleForm (form_of media) slice
formed slice inside None n i = (n, (inside, None, i, refl))
formed slice inside (Some media) n i = (n, (inside, Some media, i, refl))

some_form : (slice rest : List ℕ) → HasForm (piece.Lexeme kind.Angle) slice rest → (form : AngleForm) × HasAngleForm form slice
some_form slice rest h = by_repeat (repeat slice) refl (some_inside kind.Angle slice rest h)
  where
    by_repeat : (r : Option Numbers) → repeat slice ≡ r → ((inside : List ℕ) × (media : Option (List ℕ)) × IsInside kind.Angle inside media slice)
        → (form : AngleForm) × HasAngleForm form slice
    by_repeat (Some r) e i = (angle.Repeat, (r.least, r.most, r.chance, repeat_of slice r e))
    by_repeat None e (inside, media, i) = (form_of media, formed slice inside media (no_repeat slice e) i)

-- an Angle has an inside
pub has_inside : (slice rest : List ℕ) → HasForm (piece.Lexeme kind.Angle) slice rest → HasNoInside kind.Angle slice → ⊥
has_inside slice rest h none = let i = some_inside kind.Angle slice rest h in none i.0 i.1 i.2

-- each sign is in the table
sign_known : (s : ℕ) → is_sign s ≡ true → is_some (found_in signs (s ∷ [])) ≡ true
sign_known s e = passes (λ c. is_some (found_in signs (c ∷ []))) (codes ";=|()[]") s refl e

none_is_some : (o : Option Sign) → o ≡ None → is_some o ≡ true → ⊥
none_is_some None e k = cc
none_is_some (Some s) e k = cc

pub some_sign : (slice : List ℕ) → IsSign slice → (s : Sign) × (found_in signs slice ≡ Some s)
some_sign slice h = by_found (found_in signs slice) refl (subst (λ cs. is_some (found_in signs cs) ≡ true) (sym h.whole) (sign_known h.sign h.is_sign))
  where
    by_found : (o : Option Sign) → found_in signs slice ≡ o → is_some (found_in signs slice) ≡ true → (s : Sign) × (found_in signs slice ≡ Some s)
    by_found (Some s) e k = (s, e)
    by_found None e k = absurd (none_is_some (found_in signs slice) e k)

some_as : (k : LexKind) (span : Spanned) (slice rest : List ℕ) → HasForm (piece.Lexeme k) slice rest → (x : Lexeme) × StandsAs k span slice x
some_as kind.Bare span slice rest h = let w = some_word slice in (l.Bare w.0 span, (w.0, w.1, refl))
some_as kind.Quoted span slice rest h = (l.Quoted span, refl)
some_as kind.Name span slice rest h = (l.Name span, refl)
some_as kind.UriRef span slice rest h = (l.UriRef span, refl)
some_as kind.Angle span slice rest h = let f = some_form slice rest h in (l.Angle f.0 span, (f.0, f.1, refl))
some_as kind.Weight span slice rest h = (l.Weight span, refl)
some_as kind.Language span slice rest h = (l.Language span, refl)
some_as kind.Tag span slice rest h = (l.Tag span, refl)
some_as kind.Sign span slice rest h = let s = some_sign slice h in (l.Sign s.0, (s.0, s.1, refl))

pub some_lexeme : (span : Spanned) (slice rest : List ℕ) → HasForm (piece.Lexeme span.kind) slice rest → (x : Lexeme) × Stands span slice x
some_lexeme span slice rest h = some_as span.kind span slice rest h
