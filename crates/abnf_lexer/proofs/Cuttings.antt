-- The pieces of a grammar's text: one that is found has its form (`stands`), one at most begins each text (`one_begins`), and it is decided whether
-- one does (`looks`). So a text is cut in one way, by the laws of any cutting.
use Rattle.std.proofs.Common.{◌≡◌, ◌≢◌, ℕ, ◌<◌, ◌⊎◌, inl, inr, Option, Some, None, List, [], ◌∷◌, ◌++◌, length, take, drop, codes, refl, sym, ap, subst, ◌∙◌, arith, length-append}
use Rattle.std.proofs.lemmas.List.{drop_at, take_at, take-append-drop}
use Rattle.std.proofs.lemmas.Option.{none-some, same_Some}
use Rattle.vg_base.specs.Cut.{Cuts, BeginsNone}
use Rattle.vg_base.specs.Runs.{IsEnclosed}
use Rattle.vg_base.proofs.Cutting.{OneBegins, Looks, FirstPiece}
use Rattle.vg_base.proofs.Enclosures.{Slice}
use Rattle.vg_base.proofs.LongestRuns.{fronts_same}
use Rattle.abnf_lexer.specs.declared.front.Cut.{Cut}
use Rattle.abnf_lexer.specs.declared.lexemes.PieceKind.{PieceKind}
use Rattle.abnf_lexer.specs.declared.lexemes.PieceKind.TheVariants.{WhiteSpace, LineComment, BlockComment, Lexeme}
use Rattle.abnf_lexer.specs.declared.lexemes.LexKind.TheVariants as lex
use Rattle.abnf_lexer.specs.Forms.{HasForm}
use Rattle.abnf_lexer.specs.code.Front.{cut, front}
use Rattle.abnf_lexer.specs.code.Tally.{next_piece}
use Rattle.abnf_lexer.proofs.Found.{form_found}
use Rattle.abnf_lexer.proofs.Pieces.{Sound, front_sound}

-- ---- every piece has a character

some_length : (xs : List ℕ) → xs ≢ [] → 0 < length xs
some_length [] h = absurd (h refl)
some_length (x ∷ xs) h = omega arith

some_enclosed : (opening close slice : List ℕ) → 0 < length opening → IsEnclosed opening close slice → 0 < length slice
some_enclosed opening close slice some h = omega (arith, ap length h.whole, length-append opening (h.inside ++ close))

pub some_slice : (kind : PieceKind) (slice rest : List ℕ) → HasForm kind slice rest → 0 < length slice
some_slice WhiteSpace slice rest h = some_length slice h.some
some_slice LineComment slice rest h = omega (arith, ap length h.whole)
some_slice BlockComment slice rest h = some_enclosed (codes "/*") (codes "*/") slice (omega arith) h
some_slice (Lexeme lex.Bare) slice rest h = some_length slice h.some
some_slice (Lexeme lex.Quoted) slice rest h = some_enclosed (codes "\"") (codes "\"") slice (omega arith) h
some_slice (Lexeme lex.Name) slice rest h = omega (arith, ap length h.whole)
some_slice (Lexeme lex.UriRef) slice rest h = let some = some_enclosed (codes "$<") (codes ">") h.angle (omega arith) h.enclosed in omega (arith, ap length h.whole, length-append h.angle h.media)
some_slice (Lexeme lex.Angle) slice rest h = let some = some_enclosed (codes "<") (codes ">") h.angle (omega arith) h.enclosed in omega (arith, ap length h.whole, length-append h.angle h.media)
some_slice (Lexeme lex.Weight) slice rest h = some_enclosed (codes "/") (codes "/") slice (omega arith) h.enclosed
some_slice (Lexeme lex.Language) slice rest h = omega (arith, ap length h.whole)
some_slice (Lexeme lex.Tag) slice rest (inl h) = some_enclosed (codes "{!{") (codes "}!}") slice (omega arith) h
some_slice (Lexeme lex.Tag) slice rest (inr h) = some_enclosed (codes "{") (codes "}") slice (omega arith) h.0
some_slice (Lexeme lex.Sign) slice rest h = omega (arith, ap length h.whole)

-- ---- what is found

-- the piece that is found has its form
pub stands : (text : List ℕ) (cut : Cut) → front text ≡ Some cut → HasForm cut.kind (take cut.len text) (drop cut.len text)
stands text cut e =
    let s : Slice (HasForm cut.kind) text cut.len = subst (Sound text) e (front_sound text) in
    let slice : take cut.len text ≡ s.slice = ap (take cut.len) s.parts ∙ take_at s.slice s.rest cut.len s.long in
    let rest : drop cut.len text ≡ s.rest = ap (drop cut.len) s.parts ∙ drop_at s.slice s.rest cut.len s.long in
    subst (λ (l : List ℕ). HasForm cut.kind l (drop cut.len text)) (sym slice) (subst (λ (l : List ℕ). HasForm cut.kind s.slice l) (sym rest) s.has_form)

-- where nothing is found no piece begins
pub no_piece : (text : List ℕ) → front text ≡ None → BeginsNone HasForm text
no_piece text e kind slice rest parts h = none-some (record { kind = kind; len = length slice }) (sym e ∙ (ap front parts ∙ form_found kind slice rest h))

-- one more piece behind others
pub cuts_one : (text : List ℕ) (cut : Cut) → front text ≡ Some cut → Cuts HasForm text (next_piece cut.kind cut.len text ∷ []) (drop cut.len text)
cuts_one text cut e = (drop cut.len text, sym (take-append-drop cut.len text), stands text cut e, refl)

-- ---- what every cutting asks for

pub one_begins : OneBegins HasForm
one_begins j k s t r q e f g =
    let same : record_of j (length s) ≡ record_of k (length t) = same_Some (record_of j (length s)) (record_of k (length t)) (sym (form_found j s r f) ∙ (ap front e ∙ form_found k t q g)) in
    (ap (λ (c : Cut). c.kind) same, (fronts_same s t r q e (ap (λ (c : Cut). c.len) same)).0)
  where
    record_of : PieceKind → ℕ → Cut
    record_of kind len = record { kind = kind; len = len }

pub looks : Looks HasForm
looks text = by_front (front text) refl
  where
    by_front : (o : Option Cut) → front text ≡ o → FirstPiece HasForm text ⊎ BeginsNone HasForm text
    by_front None e = inr (no_piece text e)
    by_front (Some cut) e = let form = stands text cut e in inl (record {
      kind = cut.kind;
      slice = take cut.len text;
      rest = drop cut.len text;
      whole = sym (take-append-drop cut.len text);
      form = form;
      some = some_slice cut.kind (take cut.len text) (drop cut.len text) form;
    })
