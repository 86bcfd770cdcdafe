-- A bare word may stand behind `language` exactly where it has the form of a code: each keyword has it.
use Rattle.std.proofs.Common.{◌≡◌, ℕ, Bool, true, false, List, [], ◌∷◌, Option, Some, None, codes, refl, sym, subst}
use Rattle.std.specs.Prelude.{nat_eq, if◌then◌else◌}
use Rattle.std.specs.List.{AllByRecursion}
use Rattle.std.specs.Cmp.Lexicographic.{pointwise, same_text}
use Rattle.std.proofs.lemmas.Option.{none-some, same_Some}
use Rattle.abnf_lexer.specs.declared.lexemes.LexKind.TheVariants as kind
use Rattle.abnf_lexer.specs.declared.lexemes.Spanned.{Spanned}
use Rattle.abnf_lexer.specs.Codes.{IsCode}
use Rattle.abnf_lexer.proofs.CodeForms.{code_form}
use Rattle.abnf_parser.specs.declared.lexeme.BareWord.{BareWord}
use Rattle.abnf_parser.specs.declared.lexeme.BareWord.TheVariants as word
use Rattle.abnf_parser.specs.declared.lexeme.Lexeme.{Lexeme}
use Rattle.abnf_parser.specs.declared.lexeme.Lexeme.TheVariants as l
use Rattle.abnf_parser.specs.Declarations.{is_lang}
use Rattle.abnf_parser.specs.Roles.{found_in, keywords, IsWordAs, StandsAs, Stands}

-- what holds of each row of a table holds of what is found there
found_row : {A : Type 0} (P : List ℕ → A → Type 0) (table : List (List ℕ × A)) → AllByRecursion (λ (row : List ℕ × A). P row.0 row.1) table
    → (characters : List ℕ) (a : A) → found_in table characters ≡ Some a → P characters a
found_row P [] each characters a e = absurd (none-some a e)
found_row {A} P (row ∷ table) each characters a e = by_test (pointwise nat_eq characters row.0) refl e (λ h. found_row P table each.1 characters a h)
  where
    by_test : (b : Bool) → pointwise nat_eq characters row.0 ≡ b → (if b then Some row.1 else found_in table characters) ≡ Some a
        → (found_in table characters ≡ Some a → P characters a) → P characters a
    by_test true t h more =
        subst (λ (s : List ℕ). P s a) (sym (same_text characters row.0 (sym t))) (subst (P row.0) (same_Some row.1 a h) each.0)
    by_test false t h more = more h

-- a keyword, which is a code and may stand behind `language`
abbrev IsKeyword : List ℕ → BareWord → Type 0
IsKeyword slice keyword = IsCode slice × ((span : Spanned) → is_lang (l.Bare keyword span) ≡ true)

keywords_are : AllByRecursion (λ (row : List ℕ × BareWord). IsKeyword row.0 row.1) keywords
keywords_are = (
  (code_form (codes "language") refl, λ span. refl),
  (
    (code_form (codes "mode") refl, λ span. refl),
    (
      (code_form (codes "voice") refl, λ span. refl),
      (
        (code_form (codes "dtmf") refl, λ span. refl),
        (
          (code_form (codes "root") refl, λ span. refl),
          (
            (code_form (codes "tag-format") refl, λ span. refl),
            (
              (code_form (codes "base") refl, λ span. refl),
              (
                (code_form (codes "lexicon") refl, λ span. refl),
                (
                  (code_form (codes "meta") refl, λ span. refl),
                  (
                    (code_form (codes "http-equiv") refl, λ span. refl),
                    (
                      (code_form (codes "is") refl, λ span. refl),
                      (
                        (code_form (codes "public") refl, λ span. refl),
                        ((code_form (codes "private") refl, λ span. refl), tt),
                      ),
                    ),
                  ),
                ),
              ),
            ),
          ),
        ),
      ),
    ),
  ),
)

-- the word is a code exactly where it may stand there
record IsCodeWord (span : Spanned) (slice : List ℕ) (x : Lexeme) : Type 0 where
  code : is_lang x ≡ true → IsCode slice
  lang : IsCode slice → is_lang x ≡ true

false-true : false ≡ true → ⊥
false-true e = cc

code_word : (span : Spanned) (slice : List ℕ) (keyword : Option BareWord) → found_in keywords slice ≡ keyword → (w : BareWord) → IsWordAs keyword w slice
    → IsCodeWord span slice (l.Bare w span)
code_word span slice (Some keyword) e w h =
    let row = found_row IsKeyword keywords keywords_are slice keyword e in
    record { code = λ t. row.0; lang = λ c. subst (λ v. is_lang (l.Bare v span) ≡ true) (sym h) (row.1 span) }
code_word span slice None e word.Code h = record { code = λ t. h; lang = λ c. refl }
code_word span slice None e word.Other h = record { code = λ t. absurd (false-true t); lang = λ c. absurd (h c) }
code_word span slice None e _ h = absurd h

word_is : (span : Spanned) (slice : List ℕ) (x : Lexeme) → StandsAs kind.Bare span slice x → IsCodeWord span slice x
word_is span slice x h = subst (IsCodeWord span slice) (sym h.2) (code_word span slice (found_in keywords slice) refl h.0 h.1)

pub is_code_of : (span : Spanned) (slice : List ℕ) (x : Lexeme) → span.kind ≡ kind.Bare → Stands span slice x → is_lang x ≡ true → IsCode slice
is_code_of span slice x e h = (word_is span slice x (subst (λ k. StandsAs k span slice x) e h)).code

pub is_lang_of : (span : Spanned) (slice : List ℕ) (x : Lexeme) → span.kind ≡ kind.Bare → Stands span slice x → IsCode slice → is_lang x ≡ true
is_lang_of span slice x e h = (word_is span slice x (subst (λ k. StandsAs k span slice x) e h)).lang
