-- A list of lexemes has one right answer, and so has a text.
use Rattle.std.proofs.Common.{◌≡◌, ℕ, zero, suc, ◌<◌, ◌≤◌, ◌⊎◌, inl, inr, List, [], ◌∷◌, ◌++◌, length, get_or, Some, None, Result, Ok, Err, refl, sym, subst, ap, ◌∙◌, arith}
use Rattle.std.specs.Prelude.{slice_get}
use Rattle.std.specs.List.{filter_map}
use Rattle.std.proofs.lemmas.List.{same_lists}
use Rattle.std.proofs.lemmas.Option.{same_Some, slice_get-get_or, slice_get_cases}
use Rattle.vg_base.specs.declared.doc_fault.DocFault.{DocFault}
use Rattle.vg_base.specs.declared.doc_fault.DocKind.TheVariants.{Unexpected}
use Rattle.vg_base.specs.Cut.{Piece}
use Rattle.vg_base.specs.Reading.{Reads, answer}
use Rattle.vg_base.proofs.Plain.{same_Ok, same_Err}
use Rattle.vg_base.proofs.Reading as right
use Rattle.abnf_lexer.specs.declared.lexemes.LexKind.{LexKind}
use Rattle.abnf_lexer.specs.declared.lexemes.PieceKind.TheVariants as kinds
use Rattle.abnf_lexer.specs.declared.lexemes.Spanned.{Spanned}
use Rattle.abnf_lexer.specs.Forms.{HasForm}
use Rattle.abnf_lexer.specs.Lexemes.{placed_pieces, spelled}
use Rattle.abnf_lexer.specs.Lexing.{AreLexemes, IsFirstFault, ShowsEach}
use Rattle.abnf_lexer.proofs.OneAnswer.{one_list, one_spelling, one_fault, no_both, some_answer}
use Rattle.abnf_lexer.proofs.Spans.{shows_in, parts_in}
use Rattle.abnf_parser.specs.declared.lexeme.Lexeme.{Lexeme}
use Rattle.abnf_parser.specs.declared.written.WrittenDocument.{WrittenDocument}
use Rattle.abnf_parser.specs.Roles.{Stands}
use Rattle.abnf_parser.specs.Documents.{Spells}
use Rattle.abnf_parser.specs.Texts.{EachStands, HasDocumentLexemes, place_of, IsWritten, IsUnexpected, IsSyntax}
use Rattle.abnf_parser.specs.code.Readers.{machine}
use Rattle.abnf_parser.proofs.OneLexeme.{one_lexeme, some_lexeme}
use Rattle.abnf_parser.proofs.RoleLemmas.{SoFar, none, one_more, all}
use Rattle.abnf_parser.proofs.Exact.{reads}

-- ---- lists of lexemes

pub some_reading : (lexemes : List Lexeme) → (a : Result WrittenDocument ℕ) × Reads Spells lexemes a
some_reading lexemes = (answer machine lexemes, reads lexemes (answer machine lexemes) refl)

pub one_reading : (lexemes : List Lexeme) (a b : Result WrittenDocument ℕ) → Reads Spells lexemes a → Reads Spells lexemes b → a ≡ b
one_reading lexemes a b h k = right.one_answer Spells lexemes a b h k

-- ---- the lexemes of a text

element : {X : Type 0} (xs : List X) (n : ℕ) → n < length xs → (x : X) × (slice_get xs n ≡ Some x)
element {X} xs n h = by_cases (slice_get_cases xs n).1
  where
    by_cases : ((x : X) × (n < length xs) × (slice_get xs n ≡ Some x) × (get_or xs n x ≡ x)) ⊎ ((length xs ≤ n) × (slice_get xs n ≡ None)) → (x : X) × (slice_get xs n ≡ Some x)
    by_cases (inl q) = (q.0, q.2)
    by_cases (inr q) = let past = q.0 in absurd (omega arith)

one_each : (spans : List Spanned) (pieces : List (Piece LexKind)) (these those : List Lexeme) → EachStands spans pieces these → EachStands spans pieces those → these ≡ those
one_each spans pieces these those h k = same_lists these those (h.as_lexemes ∙ sym k.as_lexemes) at
  where
    at : (n : ℕ) (d : Lexeme) → n < length these → get_or these n d ≡ get_or those n d
    at n d within =
        let span = element spans n (omega (arith, h.as_lexemes)) in
        let piece = element pieces n (omega (arith, h.as_lexemes, h.as_pieces)) in
        one_lexeme span.0 piece.0.slice (get_or these n d) (get_or those n d)
        (h.each n span.0 piece.0 (get_or these n d) span.1 piece.1 (slice_get-get_or these n d within))
        (k.each n span.0 piece.0 (get_or those n d) span.1 piece.1 (slice_get-get_or those n d (omega (arith, h.as_lexemes, k.as_lexemes))))

-- two that are told of one text are one
record Same (text : List ℕ) (spans others : List Spanned) (these those : List Lexeme) : Type 0 where
  spans_same : spans ≡ others
  lexemes_same : these ≡ those

one_list_of : (text : List ℕ) (spans others : List Spanned) (these those : List Lexeme) → HasDocumentLexemes text spans these → HasDocumentLexemes text others those → Same text spans others these those
one_list_of text spans others these those h k =
    let same : spans ≡ others = one_list text spans others h.are k.are in
    let pieces : h.pieces ≡ k.pieces = one_spelling text h.pieces k.pieces h.has k.has in
    let stand : EachStands spans h.pieces those = subst (λ (ps : List (Piece LexKind)). EachStands spans ps those) (sym pieces) (subst (λ (ss : List Spanned). EachStands ss k.pieces those) (sym same) k.stand) in
    record { spans_same = same; lexemes_same = one_each spans h.pieces these those h.stand stand }

-- ---- the answer to a text

read_once : (text : List ℕ) (spans others : List Spanned) (these those : List Lexeme) (a b : Result WrittenDocument ℕ) → HasDocumentLexemes text spans these → HasDocumentLexemes text others those
    → Reads Spells these a → Reads Spells those b → (a ≡ b) × (spans ≡ others)
read_once text spans others these those a b h k r s =
    let same = one_list_of text spans others these those h k in
    (one_reading these a b r (subst (λ (xs : List Lexeme). Reads Spells xs b) (sym same.lexemes_same) s), same.spans_same)

ok_not_err : (document : WrittenDocument) (at : ℕ) → ◌≡◌ {A = Result WrittenDocument ℕ} (Ok document) (Err at) → ⊥
ok_not_err document at e = cc

apart : (text : List ℕ) (document : WrittenDocument) (fault : DocFault) → IsWritten text document → IsFirstFault text fault ⊎ IsUnexpected text fault → ⊥
apart text document fault h (inl f) = no_both text h.spans fault h.has.are f
apart text document fault h (inr u) = ok_not_err document u.at (read_once text h.spans u.spans h.lexemes u.lexemes (Ok document) (Err u.at) h.has u.has h.spells u.first).0

one_refusal : (text : List ℕ) (f g : DocFault) → IsFirstFault text f ⊎ IsUnexpected text f → IsFirstFault text g ⊎ IsUnexpected text g → f ≡ g
one_refusal text f g (inl h) (inl k) = one_fault text f g h k
one_refusal text f g (inl h) (inr k) = absurd (no_both text k.spans f k.has.are h)
one_refusal text f g (inr h) (inl k) = absurd (no_both text h.spans g h.has.are k)
one_refusal text f g (inr h) (inr k) =
    let same = read_once text h.spans k.spans h.lexemes k.lexemes (Err h.at) (Err k.at) h.has k.has h.first k.first in
    h.told ∙ ((λ i. record { place = place_of text (same.1 i) (same_Err same.0 i); kind = Unexpected }) ∙ sym k.told)

pub one_answer : (text : List ℕ) (a b : Result WrittenDocument DocFault) → IsSyntax text a → IsSyntax text b → a ≡ b
one_answer text (Ok these) (Ok those) h k = ap Ok (same_Ok (read_once text h.spans k.spans h.lexemes k.lexemes (Ok these) (Ok those) h.has k.has h.spells k.spells).0)
one_answer text (Ok these) (Err g) h k = absurd (apart text these g h k)
one_answer text (Err f) (Ok those) h k = absurd (apart text those f k h)
one_answer text (Err f) (Err g) h k = ap Err (one_refusal text f g h k)

-- ---- and each text has one

-- as many lexemes as there are spans up to an index
some_so_far : (text : List ℕ) (spans : List Spanned) (pieces : List (Piece LexKind)) → ShowsEach text spans pieces → (n : ℕ) → n ≤ length spans → (lexemes : List Lexeme) × SoFar spans pieces lexemes n
some_so_far text spans pieces shows zero within = ([], none spans pieces)
some_so_far text spans pieces shows (suc n) within = one_behind (some_so_far text spans pieces shows n (omega arith)) (element spans n (omega arith)) (element pieces n (omega (arith, shows.count)))
  where
    stands_at : (span : (s : Spanned) × (slice_get spans n ≡ Some s)) → (piece : (p : Piece LexKind) × (slice_get pieces n ≡ Some p)) → (x : (y : Lexeme) × Stands span.0 piece.0.slice y)
        → (s : Spanned) (p : Piece LexKind) → slice_get spans n ≡ Some s → slice_get pieces n ≡ Some p → Stands s p.slice x.0
    stands_at span piece x s p h g =
        subst (λ t. Stands t p.slice x.0) (same_Some span.0 s (sym span.1 ∙ h)) (subst (λ (q : Piece LexKind). Stands span.0 q.slice x.0) (same_Some piece.0 p (sym piece.1 ∙ g)) x.1)

    one_behind : ((lexemes : List Lexeme) × SoFar spans pieces lexemes n) → ((span : Spanned) × (slice_get spans n ≡ Some span)) → ((piece : Piece LexKind) × (slice_get pieces n ≡ Some piece))
        → (lexemes : List Lexeme) × SoFar spans pieces lexemes (suc n)
    one_behind before span piece =
        let shown = shows.each n span.0 piece.0 span.1 piece.1 in
        let x = some_lexeme span.0 piece.0.slice shown.rest (subst (λ k. HasForm (kinds.Lexeme k) piece.0.slice shown.rest) (sym shown.kind) shown.form) in
        (before.0 ++ x.0 ∷ [], subst (SoFar spans pieces (before.0 ++ x.0 ∷ [])) (omega arith) (one_more spans pieces before.0 n x.0 before.1 (stands_at span piece x)))

has_lexemes : (text : List ℕ) (spans : List Spanned) → AreLexemes text spans → (lexemes : List Lexeme) × HasDocumentLexemes text spans lexemes
has_lexemes text spans are =
    let pieces = filter_map spelled (placed_pieces are.cut) in
    let shows : ShowsEach text spans pieces = subst (λ (ss : List Spanned). ShowsEach text ss pieces) (sym are.lexemes) (shows_in text (placed_pieces are.cut) (parts_in text are.cut)) in
    let xs = some_so_far text spans pieces shows (length spans) (omega arith) in
    (xs.0, record { pieces = pieces; are = are; has = record { cut = are.cut; faultless = are.faultless; spelled = refl }; stand = all text spans pieces xs.0 shows xs.1 })

answered : (text : List ℕ) (spans : List Spanned) (lexemes : List Lexeme) → HasDocumentLexemes text spans lexemes → (a : Result WrittenDocument ℕ) → Reads Spells lexemes a
    → (b : Result WrittenDocument DocFault) × IsSyntax text b
answered text spans lexemes has (Ok document) r = (Ok document, record { spans = spans; lexemes = lexemes; has = has; spells = r })
answered text spans lexemes has (Err at) r =
    (Err (record { place = place_of text spans at; kind = Unexpected }), inr (record { spans = spans; lexemes = lexemes; has = has; at = at; first = r; told = refl }))

pub some_answer_of : (text : List ℕ) → (a : Result WrittenDocument DocFault) × IsSyntax text a
some_answer_of text = by_answer (some_answer text)
  where
    by_answer : ((spans : List Spanned) × AreLexemes text spans) ⊎ ((fault : DocFault) × IsFirstFault text fault) → (a : Result WrittenDocument DocFault) × IsSyntax text a
    by_answer (inl s) =
        let xs = has_lexemes text s.0 s.1 in
        let r = some_reading xs.0 in
        answered text s.0 xs.0 xs.1 r.0 r.1
    by_answer (inr f) = (Err f.0, inl f.1)
