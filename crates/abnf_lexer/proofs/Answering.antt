-- From the pieces that were passed to the answer: their first fault is settled (`fault_settled`), so it is the first of the text (`settled_first`);
-- where they have none, what is told behind them is the first (`stopped_first`).
use Rattle.std.proofs.Common.{◌≡◌, ℕ, ◌<◌, ◌⊎◌, inl, inr, true, false, cond, Option, Some, None, List, [], ◌∷◌, ◌++◌, length, refl, sym, ap, subst, ◌∙◌, arith, append_assoc, length-append}
use Rattle.std.specs.Prelude.{All, Contains}
use Rattle.std.proofs.lemmas.List.Elements.{All-nil, All-append}
use Rattle.vg_base.specs.declared.doc_fault.DocFault.{DocFault}
use Rattle.vg_base.specs.Cut.{Piece, characters, Cuts, Placed, placed}
use Rattle.vg_base.specs.Faults.{doc_fault_order}
use Rattle.vg_base.specs.First.{IsFirst}
use Rattle.vg_base.specs.Places.{Walked}
use Rattle.vg_base.proofs.Cutting.{at, cut_whole, cut_then, one_cutting, Cutting, some_cutting}
use Rattle.abnf_lexer.specs.declared.lexemes.LexKind.{LexKind}
use Rattle.abnf_lexer.specs.declared.lexemes.PieceKind.{PieceKind}
use Rattle.abnf_lexer.specs.declared.lexemes.PieceKind.TheVariants.{Lexeme}
use Rattle.abnf_lexer.specs.declared.tally.Tally.{Tally}
use Rattle.abnf_lexer.specs.Faults.{bad_characters, stop_faults, faults_at, lexeme_faults, cutting_faults}
use Rattle.abnf_lexer.specs.Forms.{HasForm}
use Rattle.abnf_lexer.specs.Header.{header_faults, behind_header}
use Rattle.abnf_lexer.specs.Lexemes.{CutFrom, placed_pieces, end, is_lexeme, lexemes}
use Rattle.abnf_lexer.specs.code.Tally.{IsTallied, Passed, pieces_in, faults_in}
use Rattle.abnf_lexer.proofs.Cuttings.{one_begins, looks}
use Rattle.abnf_lexer.proofs.FirstCharacters.{lexeme_moves}
use Rattle.abnf_lexer.proofs.FirstFault.{all_faults, at_contained, first_of_all, first_at_stop}
use Rattle.abnf_lexer.proofs.HeaderCharacters.{good_header}
use Rattle.abnf_lexer.proofs.HeaderForm.{behind_header-whole}
use Rattle.abnf_lexer.proofs.Later.{Settled, settled_more, bad_settled, faults_settled}

-- ---- each fault of pieces is settled behind them

-- settled behind a front, so behind more
all_more : (front more : List ℕ) (fs : List DocFault) → All (Settled front) fs → All (Settled (front ++ more)) fs
all_more front more fs h = λ k d within. settled_more front more _ (h k d within)

is_lexeme_of : (piece : Placed PieceKind) (k : LexKind) → piece.kind ≡ Lexeme k → is_lexeme piece ≡ true
is_lexeme_of piece k e = rw e refl

-- a piece is a lexeme, or none
no_lexeme : (piece : Placed PieceKind) (kind : PieceKind) → piece.kind ≡ kind → ((k : LexKind) × (piece.kind ≡ Lexeme k)) ⊎ (is_lexeme piece ≡ false)
no_lexeme piece (Lexeme k) e = inl (k, e)
no_lexeme piece _ e = inr (rw e refl)

-- faults of the lexemes among pieces
lexemes_settled : (front : List ℕ) (before : List (Placed PieceKind)) (text : List ℕ) (ps : List (Piece PieceKind)) (stop : List ℕ) → 0 < length front → Cuts HasForm text ps stop
    → All (Settled (front ++ characters ps)) (lexeme_faults before (lexemes (placed front ps stop)))
lexemes_settled front before text [] stop some c = All-nil (Settled (front ++ []))
lexemes_settled front before text (p ∷ ps) stop some c =
    by_kind (no_lexeme (at front p (characters ps ++ stop)) p.kind refl)
    (λ after. subst (λ (l : List ℕ). All (Settled l) (lexeme_faults after (lexemes (placed (front ++ p.slice) ps stop)))) (append_assoc front p.slice (characters ps)) (lexemes_settled (front ++ p.slice) after c.0 ps stop (omega (arith, length-append front p.slice)) c.3))
  where
    by_kind : ((k : LexKind) × (p.kind ≡ Lexeme k)) ⊎ (is_lexeme (at front p (characters ps ++ stop)) ≡ false)
        → ((after : List (Placed PieceKind)) → All (Settled (front ++ (p.slice ++ characters ps))) (lexeme_faults after (lexemes (placed (front ++ p.slice) ps stop))))
        → All (Settled (front ++ (p.slice ++ characters ps))) (lexeme_faults before (lexemes (placed front (p ∷ ps) stop)))
    by_kind (inr e) others =
        let here : Placed PieceKind = at front p (characters ps ++ stop) in
        let those : List (Placed PieceKind) = lexemes (placed (front ++ p.slice) ps stop) in
        subst (λ b. All (Settled (front ++ (p.slice ++ characters ps))) (lexeme_faults before (cond b (here ∷ those) those))) (sym e) (others before)
    by_kind (inl k) others =
        let here : Placed PieceKind = at front p (characters ps ++ stop) in
        let those : List (Placed PieceKind) = lexemes (placed (front ++ p.slice) ps stop) in
        let is_one : is_lexeme here ≡ true = is_lexeme_of here k.0 k.1 in
        let moves = lexeme_moves k.0 front p.slice c.0 some (subst (λ (d : PieceKind). HasForm d p.slice c.0) k.1 c.2) in
        let one = faults_settled before here moves.first moves.more moves.whole moves.moves in
        subst (λ b. All (Settled (front ++ (p.slice ++ characters ps))) (lexeme_faults before (cond b (here ∷ those) those))) (sym is_one)
        (All-append (Settled (front ++ (p.slice ++ characters ps))) (faults_at before here) (lexeme_faults (before ++ here ∷ []) those)
        (subst (λ (l : List ℕ). All (Settled l) (faults_at before here)) (append_assoc front p.slice (characters ps)) (all_more (front ++ p.slice) (characters ps) (faults_at before here) one))
        (others (before ++ here ∷ [])))

pub fault_settled : (p : Passed) (text : List ℕ) (f : DocFault) → 0 < length p.front → Cuts HasForm text p.pieces p.rest → Contains (faults_in p) f → Settled (p.front ++ characters p.pieces) f
fault_settled p text f some c h =
    at_contained (Settled (p.front ++ characters p.pieces)) (faults_in p) f
    (All-append (Settled (p.front ++ characters p.pieces)) (bad_characters p.front (characters p.pieces)) (lexeme_faults [] (lexemes (pieces_in p))) (bad_settled p.front (characters p.pieces)) (lexemes_settled p.front [] text p.pieces p.rest some c)) h

-- ---- the answer

module _ (text : List ℕ) (to : Walked) (tally : Tally) where
  abbrev start : Walked
  start = behind_header text

  -- any cutting of the text goes on from the pieces that were passed
  pub record Rests (t : IsTallied start to tally) (cut : CutFrom start) : Type 0 where
    pub more : List (Piece PieceKind)
    pub left : to.rest ≡ characters more ++ cut.stop
    pub faults : cutting_faults text (placed_pieces cut) (end cut) ≡ all_faults start.passed (t.pieces ++ more) cut.stop

  text_is : (ps : List (Piece PieceKind)) (stop : List ℕ) → Cuts HasForm start.rest ps stop → text ≡ start.passed ++ (characters ps ++ stop)
  text_is ps stop c = sym (behind_header-whole text) ∙ ap (λ (l : List ℕ). start.passed ++ l) (cut_whole HasForm start.rest ps stop c)

  rests : (t : IsTallied start to tally) (cut : CutFrom start) → Rests t cut
  rests t cut =
      let others : Cutting HasForm to.rest = some_cutting HasForm looks to.rest in
      let whole : Cuts HasForm start.rest (t.pieces ++ others.pieces) others.stop = cut_then HasForm start.rest t.pieces to.rest others.pieces others.stop t.cuts others.is_cut.cuts in
      let same = one_cutting HasForm one_begins start.rest cut.pieces (t.pieces ++ others.pieces) cut.stop others.stop cut.is_cut (record { cuts = whole; stuck = others.is_cut.stuck }) in
      record {
        more = others.pieces;
        left = cut_whole HasForm to.rest others.pieces others.stop others.is_cut.cuts ∙ ap (λ (l : List ℕ). characters others.pieces ++ l) (sym same.1);
        faults = (λ i. cutting_faults (text_is cut.pieces cut.stop cut.is_cut.cuts i) (placed start.passed cut.pieces cut.stop) (record { passed = start.passed ++ characters cut.pieces; rest = cut.stop }))
            ∙ (λ i. all_faults start.passed (same.0 i) cut.stop);
      }

  pub settled_first : (f : DocFault) → header_faults text ≡ [] → IsTallied start to tally → (cut : CutFrom start) → tally.fault ≡ Some f → IsFirst doc_fault_order (cutting_faults text (placed_pieces cut) (end cut)) (Some f)
  settled_first f header t cut e =
      let good = good_header text header in
      let r = rests t cut in
      let p : Passed = record { front = start.passed; pieces = t.pieces; rest = to.rest } in
      let first : IsFirst doc_fault_order (faults_in p) (Some f) = subst (IsFirst doc_fault_order (faults_in p)) e t.is_tally.first in
      let settled : Settled (start.passed ++ characters t.pieces) f = fault_settled p start.rest f good.some t.cuts first.0 in
      let here : IsFirst doc_fault_order (faults_in (record { front = start.passed; pieces = t.pieces; rest = characters r.more ++ cut.stop })) (Some f) =
      subst (λ (l : List ℕ). IsFirst doc_fault_order (faults_in (record { front = start.passed; pieces = t.pieces; rest = l })) (Some f)) r.left first in
      subst (λ (fs : List DocFault). IsFirst doc_fault_order fs (Some f)) (sym r.faults) (first_of_all start.passed good.clean t.pieces r.more cut.stop f settled here)

  -- where the pieces have no fault, they are the whole cutting
  abbrev pub whole_cut : IsTallied start to tally → tally.fault ≡ None → CutFrom start
  whole_cut t e = record { pieces = t.pieces; stop = to.rest; is_cut = record { cuts = t.cuts; stuck = t.stuck e } }

  pub stopped_first : (r : Option DocFault) → header_faults text ≡ [] → IsTallied start to tally → (cut : CutFrom start) → tally.fault ≡ None → IsFirst doc_fault_order (stop_faults to) r
      → IsFirst doc_fault_order (cutting_faults text (placed_pieces cut) (end cut)) r
  stopped_first r header t cut e h =
      let good = good_header text header in
      let p : Passed = record { front = start.passed; pieces = t.pieces; rest = to.rest } in
      let none : faults_in p ≡ [] = subst (IsFirst doc_fault_order (faults_in p)) e t.is_tally.first in
      let same = one_cutting HasForm one_begins start.rest cut.pieces t.pieces cut.stop to.rest cut.is_cut (record { cuts = t.cuts; stuck = t.stuck e }) in
      let there : IsFirst doc_fault_order (stop_faults (record { passed = start.passed ++ characters t.pieces; rest = to.rest })) r =
      subst (λ (l : List ℕ). IsFirst doc_fault_order (stop_faults (record { passed = l; rest = to.rest })) r) t.passed h in
      let all = first_at_stop start.passed good.clean t.pieces to.rest r good.some (t.stuck e) none there in
      let faults : cutting_faults text (placed_pieces cut) (end cut) ≡ all_faults start.passed t.pieces to.rest =
      (λ i. cutting_faults (text_is cut.pieces cut.stop cut.is_cut.cuts i) (placed start.passed cut.pieces cut.stop) (record { passed = start.passed ++ characters cut.pieces; rest = cut.stop }))
      ∙ (λ i. all_faults start.passed (same.0 i) (same.1 i)) in
      subst (λ (fs : List DocFault). IsFirst doc_fault_order fs r) (sym faults) all
