-- One turn of the loop that passes pieces: what the search for the next piece tells, and the pieces so far with one more.
use Rattle.std.proofs.Common.{◌≡◌, ℕ, ◌++◌, ◌∷◌, List, [], cond, Option, Some, None, take, drop, refl, sym, ap, subst, ◌∙◌, append_assoc}
use Rattle.std.specs.Option.{is_some}
use Rattle.std.proofs.lemmas.List.{append-nil}
use Rattle.std.proofs.lemmas.Option.{none-some}
use Rattle.vg_base.specs.declared.doc_fault.DocFault.{DocFault}
use Rattle.vg_base.specs.Cut.{Piece, characters, Cuts}
use Rattle.vg_base.specs.Places.{Walked}
use Rattle.vg_base.proofs.Cutting.{cut_then, characters-append}
use Rattle.abnf_lexer.specs.declared.front.Cut.{Cut}
use Rattle.abnf_lexer.specs.declared.lexemes.PieceKind.{PieceKind}
use Rattle.abnf_lexer.specs.declared.tally.Tally.{Tally}
use Rattle.abnf_lexer.specs.Forms.{HasForm}
use Rattle.abnf_lexer.specs.Header.{past}
use Rattle.abnf_lexer.specs.code.Front.{front}
use Rattle.abnf_lexer.specs.code.Tally.{next_piece, Passed, behind, IsTally, Counts}
use Rattle.abnf_lexer.proofs.Cuttings.{cuts_one}

-- a piece is found where there is no fault
pub found_next : (fault : Option DocFault) (o : Option Cut) (cut : Cut) → cond (is_some fault) None o ≡ Some cut → (fault ≡ None) × (o ≡ Some cut)
found_next None o cut e = (refl, e)
found_next (Some f) o cut e = absurd (none-some cut e)

-- where none is found and there is no fault, none begins
pub none_next : (fault : Option DocFault) (o : Option Cut) → cond (is_some fault) None o ≡ None → fault ≡ None → o ≡ None
none_next None o e h = e
none_next (Some f) o e h = absurd (none-some f (sym h))

-- what the loop keeps: pieces from the start on, and their tally
abbrev pub Passes : (start here : Walked) → Tally → List (Piece PieceKind) → Type 0
Passes start here tally pieces =
    Cuts HasForm start.rest pieces here.rest × (here.passed ≡ start.passed ++ characters pieces) × IsTally tally (record { front = start.passed; pieces = pieces; rest = here.rest })

module _ (start here : Walked) (old new : Tally) (cut : Cut) where
  abbrev passed : List (Piece PieceKind) → Passed
  passed pieces = record { front = start.passed; pieces = pieces; rest = here.rest }

  abbrev longer : List (Piece PieceKind) → List (Piece PieceKind)
  longer pieces = pieces ++ next_piece cut.kind cut.len here.rest ∷ []

  -- behind the next piece
  next_here : (pieces : List (Piece PieceKind)) → Passes start here old pieces → old.fault ≡ None → front here.rest ≡ Some cut → Counts old new cut.kind cut.len here → Passes start (past cut.len here) new (longer pieces)
  next_here pieces h none found counts =
      let slice : List ℕ = take cut.len here.rest in
      let at : here ≡ behind (passed pieces) = λ i. record { passed = h.1 i; rest = here.rest } in
      let characters_are : characters (longer pieces) ≡ characters pieces ++ slice = characters-append pieces (next_piece cut.kind cut.len here.rest ∷ []) ∙ ap (λ (l : List ℕ). characters pieces ++ l) (append-nil slice) in (
        cut_then HasForm start.rest pieces here.rest (next_piece cut.kind cut.len here.rest ∷ []) (drop cut.len here.rest) h.0 (cuts_one here.rest cut found),
        ap (λ (l : List ℕ). l ++ slice) h.1 ∙ (append_assoc start.passed (characters pieces) slice ∙ ap (λ (l : List ℕ). start.passed ++ l) (sym characters_are)),
        counts (passed pieces) at none h.2,
      )

  pub passes_next : (there : Walked) (pieces : List (Piece PieceKind)) → Passes start here old pieces → cond (is_some old.fault) None (front here.rest) ≡ Some cut → there ≡ past cut.len here → Counts old new cut.kind cut.len here
      → (more : List (Piece PieceKind)) × Passes start there new more
  passes_next there pieces h found e counts =
      let next = found_next old.fault (front here.rest) cut found in
      (longer pieces, subst (λ (w : Walked). Passes start w new (longer pieces)) (sym e) (next_here pieces h next.0 next.1 counts))
