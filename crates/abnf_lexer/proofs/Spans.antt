-- Where the lexemes of a text stand, and what their spans show.
use Rattle.std.proofs.Common.{◌≡◌, ℕ, zero, suc, ◌≤◌, Some, List, [], ◌∷◌, ◌++◌, refl, sym, ap, subst, ◌∙◌, arith, append_assoc}
use Rattle.std.specs.Prelude.{All, slice_get}
use Rattle.std.specs.List.{filter_map, cons_option, AllPairs}
use Rattle.std.proofs.lemmas.List.Kept.{AllPairs-cons}
use Rattle.std.proofs.lemmas.List.Elements.{All-nil, All-cons, All-head, All-tail}
use Rattle.std.proofs.lemmas.Option.{none-some, same_Some}
use Rattle.vg_base.specs.Characters.{byte_len, IsPlace}
use Rattle.vg_base.specs.Cut.{Piece, characters, Placed, placed, IsPartOf}
use Rattle.vg_base.specs.Places.{place_after}
use Rattle.vg_base.proofs.Bytes.{byte_len-append, length-le-byte_len}
use Rattle.vg_base.proofs.Cutting.{at, parts_of}
use Rattle.vg_base.proofs.Places.{IsPlace-front}
use Rattle.abnf_lexer.specs.declared.lexemes.LexKind.{LexKind}
use Rattle.abnf_lexer.specs.declared.lexemes.PieceKind.{PieceKind}
use Rattle.abnf_lexer.specs.declared.lexemes.PieceKind.TheVariants.{Lexeme}
use Rattle.abnf_lexer.specs.declared.lexemes.Spanned.{Spanned}
use Rattle.abnf_lexer.specs.Forms.{HasForm}
use Rattle.abnf_lexer.specs.Header.{behind_header}
use Rattle.abnf_lexer.specs.Lexemes.{CutFrom, placed_pieces, spanned, spelled}
use Rattle.abnf_lexer.specs.Lexing.{IsLexeme, IsWithin, Precedes, Shows, ShowsEach}
use Rattle.abnf_lexer.proofs.Cuttings.{some_slice}
use Rattle.abnf_lexer.proofs.HeaderForm.{behind_header-whole}

-- each piece is a part of the text
pub parts_in : (text : List ℕ) (cut : CutFrom (behind_header text)) → All (IsPartOf HasForm text) (placed_pieces cut)
parts_in text cut =
    subst (λ (l : List ℕ). All (IsPartOf HasForm l) (placed_pieces cut)) (behind_header-whole text)
    (parts_of HasForm (behind_header text).passed (behind_header text).rest cut.pieces cut.stop cut.is_cut.cuts)

-- ---- what is told of a piece that is a lexeme

record Tells (piece : Placed PieceKind) (one : Spanned) (lexeme : Piece LexKind) : Type 0 where
  kind : piece.kind ≡ Lexeme one.kind
  place : one.place ≡ place_after piece.front
  from : one.from ≡ byte_len piece.front
  to : one.to ≡ byte_len (piece.front ++ piece.slice)
  same : lexeme.kind ≡ one.kind
  slice : lexeme.slice ≡ piece.slice

on_kind : (P : List Spanned → List (Piece LexKind) → Type 0) (piece : Placed PieceKind) (found : List Spanned) (those : List (Piece LexKind)) (kind : PieceKind) → piece.kind ≡ kind
    → P found those → ((one : Spanned) (lexeme : Piece LexKind) → Tells piece one lexeme → P (one ∷ found) (lexeme ∷ those)) → P (cons_option (spanned piece) found) (cons_option (spelled piece) those)
on_kind P piece found those (Lexeme kind) e h f =
    let one : Spanned = record { place = place_after piece.front; from = byte_len piece.front; to = byte_len (piece.front ++ piece.slice); kind = kind } in
    rw e (f one (record { kind = kind; slice = piece.slice }) (record { kind = e; place = refl; from = refl; to = refl; same = refl; slice = refl }))
on_kind P piece found those _ e h f = rw e h

-- ---- where they stand

lexeme_of : (text : List ℕ) (piece : Placed PieceKind) (one : Spanned) (lexeme : Piece LexKind) → IsPartOf HasForm text piece → Tells piece one lexeme → IsLexeme text one
lexeme_of text piece one lexeme p t = record {
  front = piece.front;
  slice = piece.slice;
  rest = piece.rest;
  whole = p.parts;
  form = subst (λ (kind : PieceKind). HasForm kind piece.slice piece.rest) t.kind p.form;
  place = t.place;
  from = t.from;
  to = t.to;
}

pub lexemes_in : (text : List ℕ) (pieces : List (Placed PieceKind)) → All (IsPartOf HasForm text) pieces → All (IsLexeme text) (filter_map spanned pieces)
lexemes_in text [] h = All-nil (IsLexeme text)
lexemes_in text (piece ∷ pieces) h =
    let others = lexemes_in text pieces (All-tail (IsPartOf HasForm text) piece pieces h) in
    on_kind (λ found those. All (IsLexeme text) found) piece (filter_map spanned pieces) [] piece.kind refl others
    (λ one lexeme tells. All-cons (IsLexeme text) one (filter_map spanned pieces) (lexeme_of text piece one lexeme (All-head (IsPartOf HasForm text) piece pieces h) tells) others)

-- a lexeme stands between two places
pub within : (text : List ℕ) (one : Spanned) → IsLexeme text one → IsWithin text one
within text one h =
    let after : (h.front ++ h.slice) ++ h.rest ≡ text = append_assoc h.front h.slice h.rest ∙ sym h.whole in
    record {
      starts = subst (λ n. IsPlace text n) (sym h.from) (subst (λ (l : List ℕ). IsPlace l (byte_len h.front)) (sym h.whole) (IsPlace-front h.front (h.slice ++ h.rest)));
      ends = subst (λ n. IsPlace text n) (sym h.to) (subst (λ (l : List ℕ). IsPlace l (byte_len (h.front ++ h.slice))) after (IsPlace-front (h.front ++ h.slice) h.rest));
      some = let some = some_slice (Lexeme one.kind) h.slice h.rest h.form in let least = length-le-byte_len h.slice in omega (arith, byte_len-append h.front h.slice, h.from, h.to);
    }

-- ---- they are in order

begin_later : (n : ℕ) (front : List ℕ) (ps : List (Piece PieceKind)) (stop : List ℕ) → n ≤ byte_len front → All (λ (one : Spanned). n ≤ one.from) (filter_map spanned (placed front ps stop))
begin_later n front [] stop le = All-nil (λ (one : Spanned). n ≤ one.from)
begin_later n front (p ∷ ps) stop le =
    let piece : Placed PieceKind = at front p (characters ps ++ stop) in
    let pieces : List (Placed PieceKind) = placed (front ++ p.slice) ps stop in
    let others = begin_later n (front ++ p.slice) ps stop (omega (arith, byte_len-append front p.slice)) in
    on_kind (λ found those. All (λ (one : Spanned). n ≤ one.from) found) piece (filter_map spanned pieces) [] piece.kind refl others
    (λ one lexeme tells. All-cons (λ (one : Spanned). n ≤ one.from) one (filter_map spanned pieces) (omega (arith, tells.from)) others)

pub in_order : (front : List ℕ) (ps : List (Piece PieceKind)) (stop : List ℕ) → AllPairs Precedes (filter_map spanned (placed front ps stop))
in_order front [] stop = λ i j d h k. absurd (omega arith)
in_order front (p ∷ ps) stop =
    let piece : Placed PieceKind = at front p (characters ps ++ stop) in
    let pieces : List (Placed PieceKind) = placed (front ++ p.slice) ps stop in
    let others = in_order (front ++ p.slice) ps stop in
    on_kind (λ found those. AllPairs Precedes found) piece (filter_map spanned pieces) [] piece.kind refl others
    (λ one lexeme tells. AllPairs-cons Precedes one (filter_map spanned pieces) (begin_later one.to (front ++ p.slice) ps stop (omega (arith, tells.to))) others)

-- ---- what they show

shows_one : (text : List ℕ) (piece : Placed PieceKind) (one : Spanned) (lexeme : Piece LexKind) → IsPartOf HasForm text piece → Tells piece one lexeme → Shows text one lexeme
shows_one text piece one lexeme p t = record {
  front = piece.front;
  rest = piece.rest;
  kind = sym t.same;
  whole = p.parts ∙ ap (λ (l : List ℕ). piece.front ++ (l ++ piece.rest)) (sym t.slice);
  form = subst (λ (l : List ℕ). HasForm (Lexeme lexeme.kind) l piece.rest) (sym t.slice) (subst (λ (kind : PieceKind). HasForm kind piece.slice piece.rest) (t.kind ∙ ap Lexeme (sym t.same)) p.form);
  from = t.from;
  to = t.to ∙ ap (λ (l : List ℕ). byte_len (piece.front ++ l)) (sym t.slice);
}

shows_more : (text : List ℕ) (one : Spanned) (lexeme : Piece LexKind) (found : List Spanned) (those : List (Piece LexKind)) → Shows text one lexeme → ShowsEach text found those → ShowsEach text (one ∷ found) (lexeme ∷ those)
shows_more text one lexeme found those s h = record { count = ap suc h.count; each = each }
  where
    each : (k : ℕ) (span : Spanned) (other : Piece LexKind) → slice_get (one ∷ found) k ≡ Some span → slice_get (lexeme ∷ those) k ≡ Some other → Shows text span other
    each zero span other e f = subst (λ (l : Piece LexKind). Shows text span l) (same_Some lexeme other f) (subst (λ (x : Spanned). Shows text x lexeme) (same_Some one span e) s)
    each (suc k) span other e f = h.each k span other e f

pub shows_in : (text : List ℕ) (pieces : List (Placed PieceKind)) → All (IsPartOf HasForm text) pieces → ShowsEach text (filter_map spanned pieces) (filter_map spelled pieces)
shows_in text [] h = record { count = refl; each = λ k span lexeme e f. absurd (none-some span e) }
shows_in text (piece ∷ pieces) h =
    let others = shows_in text pieces (All-tail (IsPartOf HasForm text) piece pieces h) in
    on_kind (ShowsEach text) piece (filter_map spanned pieces) (filter_map spelled pieces) piece.kind refl others
    (λ one lexeme tells. shows_more text one lexeme (filter_map spanned pieces) (filter_map spelled pieces) (shows_one text piece one lexeme (All-head (IsPartOf HasForm text) piece pieces h) tells) others)
