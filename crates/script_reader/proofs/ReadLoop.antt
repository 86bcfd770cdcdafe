-- The loop that reads a script: the text before the place is cut into lexemes, which the machine has read.
use Rattle.std.proofs.Common.{◌≡◌, ℕ, ◌+◌, ◌≤◌, ◌<◌, inl, inr, List, [], ◌∷◌, ◌++◌, length, take, drop, Option, Some, None, refl, sym, ap, subst, ◌∙◌, append_assoc, length-drop, arith}
use Rattle.std.specs.Prelude.{◌≢◌}
use Rattle.std.proofs.lemmas.List.{append-nil, take-append-drop, drop-drop}
use Rattle.vg_base.specs.declared.script.Script.{Script}
use Rattle.script_reader.specs.declared.lexing.lexeme.Lexeme.{Lexeme}
use Rattle.script_reader.specs.declared.machine.stack.State.{State}
use Rattle.script_reader.specs.declared.lexing.cutting.Cut.{Cut}
use Rattle.script_reader.specs.declared.lexing.cutting.Cut.TheVariants as c
use Rattle.script_reader.specs.Lexemes.{Piece, Cuts, lexemes}
use Rattle.script_reader.specs.Grammar.{SpellsScript}
use Rattle.script_reader.specs.code.Statements.{start, step, run, result_of}
use Rattle.script_reader.specs.code.Front.{front}
use Rattle.script_reader.specs.declared.read.Advance.{Advance}
use Rattle.script_reader.specs.declared.read.Advance.TheVariants as a
use Rattle.script_reader.specs.code.Advances.{advance, ending}
use Rattle.script_reader.specs.code.Advances as advances
use Rattle.script_reader.specs.Reading.{IsScript, FitsNone, FirstUnfit}
use Rattle.script_reader.proofs.Runs.{run-then, run-one, run-none}
use Rattle.script_reader.proofs.SoundStatements.{sound}
use Rattle.script_reader.proofs.Viable.{viable, stuck, unfinished, one_script}
use Rattle.script_reader.proofs.Forms.{Sound, front_sound}
use Rattle.script_reader.proofs.Found.{front_len, CutAs, cut_longest, stop_no_form}
use Rattle.script_reader.proofs.Cuttings.{one_cutting}

pub record SoFar (text : List ℕ) (at : ℕ) (state : State) : Type 0 where
  pub within : at ≤ length text
  pub pieces : List Piece
  pub cut : Cuts text pieces (drop at text)
  pub read : run start (lexemes pieces) ≡ Some state

pub begins : (text : List ℕ) → SoFar text 0 start
begins text = record { within = omega arith; pieces = []; cut = refl; read = run-none start }

cuts_more : (text : List ℕ) (ps : List Piece) (stop : List ℕ) (p : Piece) (rest : List ℕ) → Cuts text ps stop → Cuts stop (p ∷ []) rest → Cuts text (ps ++ p ∷ []) rest
cuts_more text [] stop p rest c d = subst (λ (ys : List ℕ). Cuts ys (p ∷ []) rest) (sym c) d
cuts_more text (q ∷ ps) stop p rest c d = (c.0, c.1, c.2, c.3, cuts_more c.0 ps stop p rest c.4 d)

lexemes_more : (ps : List Piece) (p : Piece) → lexemes (ps ++ p ∷ []) ≡ lexemes ps ++ p.found
lexemes_more [] p = append-nil p.found
lexemes_more (q ∷ ps) p = ap (λ (xs : List Lexeme). q.found ++ xs) (lexemes_more ps p) ∙ sym (append_assoc q.found (lexemes ps) p.found)

-- what is cut off is a piece
abbrev piece_of : (text : List ℕ) (n : ℕ) (found : List Lexeme) → CutAs text n found → Piece
piece_of text n found q = record { kind = q.kind; slice = take n text; found = found }

one_piece : (text : List ℕ) (n : ℕ) (found : List Lexeme) (q : CutAs text n found) → front_len (front text) ≡ Some n → Cuts text (piece_of text n found q ∷ []) (drop n text)
one_piece text n found q e = (drop n text, sym (take-append-drop n text), cut_longest text n found q e, q.gives, refl)

gap_cut : (text : List ℕ) (n : ℕ) → front text ≡ c.Gap n → CutAs text n []
gap_cut text n e = let h : Sound text (c.Gap n) = subst (Sound text) e (front_sound text) in record { kind = h.0; fits = h.1; gives = h.2 }

whole_cut : (text : List ℕ) (x : Lexeme) (n : ℕ) → front text ≡ c.Whole x n → CutAs text n (x ∷ [])
whole_cut text x n e = let h : Sound text (c.Whole x n) = subst (Sound text) e (front_sound text) in record { kind = h.0; fits = h.1; gives = h.2 }

-- the cut is some of the text
pub gap_within : (text : List ℕ) (at n : ℕ) → at ≤ length text → front (drop at text) ≡ c.Gap n → (0 < n) × (at + n ≤ length text)
gap_within text at n le e = let q = (gap_cut (drop at text) n e).fits in (q.some, omega (arith, q.within, length-drop at text))

pub whole_within : (text : List ℕ) (at n : ℕ) (x : Lexeme) → at ≤ length text → front (drop at text) ≡ c.Whole x n → (0 < n) × (at + n ≤ length text)
whole_within text at n x le e = let q = (whole_cut (drop at text) x n e).fits in (q.some, omega (arith, q.within, length-drop at text))

further : (text : List ℕ) (at n : ℕ) (ps : List Piece) → Cuts text ps (drop n (drop at text)) → Cuts text ps (drop (at + n) text)
further text at n ps h = subst (λ (ys : List ℕ). Cuts text ps ys) (drop-drop n at text) h

pub past_gap : (text : List ℕ) (at n : ℕ) (state : State) → front (drop at text) ≡ c.Gap n → SoFar text at state → SoFar text (at + n) state
past_gap text at n state e q =
    let d = gap_cut (drop at text) n e in
    let p = piece_of (drop at text) n [] d in
    record {
      within = (gap_within text at n q.within e).1;
      pieces = q.pieces ++ p ∷ [];
      cut = further text at n (q.pieces ++ p ∷ []) (cuts_more text q.pieces (drop at text) p (drop n (drop at text)) q.cut (one_piece (drop at text) n [] d (ap front_len e)));
      read = ap (run start) (lexemes_more q.pieces p ∙ append-nil (lexemes q.pieces)) ∙ q.read;
    }

pub past_lexeme : (text : List ℕ) (at n : ℕ) (x : Lexeme) (state then : State) → front (drop at text) ≡ c.Whole x n → step state x ≡ Some then → SoFar text at state → SoFar text (at + n) then
past_lexeme text at n x state then e h q =
    let d = whole_cut (drop at text) x n e in
    let p = piece_of (drop at text) n (x ∷ []) d in
    record {
      within = (whole_within text at n x q.within e).1;
      pieces = q.pieces ++ p ∷ [];
      cut = further text at n (q.pieces ++ p ∷ []) (cuts_more text q.pieces (drop at text) p (drop n (drop at text)) q.cut (one_piece (drop at text) n (x ∷ []) d (ap front_len e)));
      read = ap (run start) (lexemes_more q.pieces p) ∙ run-then start state then (lexemes q.pieces) (x ∷ []) q.read (run-one state then x h);
    }

unfit_at : (text : List ℕ) (at : ℕ) (state : State) (q : SoFar text at state) → FitsNone (lexemes q.pieces) (drop at text) → FirstUnfit text at
unfit_at text at state q none = record {
  pieces = q.pieces;
  stop = drop at text;
  cut = q.cut;
  before = viable (lexemes q.pieces) state q.read;
  unfit = none;
  place = omega (arith, length-drop at text, q.within);
}

-- a lexeme that stops the machine
pub lexeme_unfit : (text : List ℕ) (at n : ℕ) (x : Lexeme) (state : State) → front (drop at text) ≡ c.Whole x n → step state x ≡ None → SoFar text at state → FirstUnfit text at
lexeme_unfit text at n x state e h q =
    let d = whole_cut (drop at text) x n e in
    let p = piece_of (drop at text) n (x ∷ []) d in
    unfit_at text at state q (inr (inr (
      p,
      drop n (drop at text),
      one_piece (drop at text) n (x ∷ []) d (ap front_len e),
      λ b. stuck (lexemes q.pieces) state x b.0 b.1 q.read h (subst (λ (ys : List Lexeme). SpellsScript ys b.1) (append_assoc (lexemes q.pieces) (x ∷ []) b.0) b.2),
    )))

stop_some : (text : List ℕ) → front text ≡ c.Stop → text ≢ []
stop_some text e h = none text h (subst (Sound text) e (front_sound text))
  where
    none : (text : List ℕ) → text ≡ [] → 0 < length text → ⊥
    none text h lt = omega (arith, ap length h)

-- what no lexeme begins
pub nothing_fits : (text : List ℕ) (at : ℕ) (state : State) → front (drop at text) ≡ c.Stop → SoFar text at state → FirstUnfit text at
nothing_fits text at state e q = unfit_at text at state q (inr (inl (stop_some (drop at text) e, stop_no_form (drop at text) e)))

at_end : (text : List ℕ) (at : ℕ) → front (drop at text) ≡ c.End → drop at text ≡ []
at_end text at e = subst (Sound (drop at text)) e (front_sound (drop at text))

-- a text that ends too early
pub ends_early : (text : List ℕ) (at : ℕ) (state : State) → front (drop at text) ≡ c.End → result_of state ≡ None → SoFar text at state → FirstUnfit text at
ends_early text at state e h q = unfit_at text at state q (inl (at_end text at e, λ script k. unfinished (lexemes q.pieces) state script q.read h k))

-- a whole script
pub is_read : (text : List ℕ) (at : ℕ) (state : State) (script : Script) → front (drop at text) ≡ c.End → result_of state ≡ Some script → SoFar text at state
    → IsScript text script × ((other : Script) → IsScript text other → other ≡ script)
is_read text at state script e h q =
    let whole : Cuts text q.pieces [] = subst (λ (ys : List ℕ). Cuts text q.pieces ys) (at_end text at e) q.cut in (
      record { pieces = q.pieces; cut = whole; spells = sound (lexemes q.pieces) state script q.read h },
      λ other k. one_script (lexemes q.pieces) state script other q.read h (subst (λ (ys : List Lexeme). SpellsScript ys other) (one_cutting text k.pieces q.pieces k.cut whole) k.spells),
    )

-- what each outcome at a place says of the text
abbrev pub ComesTo : List ℕ → ℕ → Advance → Type 0
ComesTo text at (a.On next len) = SoFar text (at + len) next × ((0 < len) × (at + len ≤ length text))
ComesTo text at (a.Read script) = IsScript text script × ((other : Script) → IsScript text other → other ≡ script)
ComesTo text at a.Unfit = FirstUnfit text at

comes_of_lexeme : (text : List ℕ) (at n : ℕ) (x : Lexeme) (state : State) (then : Option State) → front (drop at text) ≡ c.Whole x n → step state x ≡ then → SoFar text at state → ComesTo text at (advances.further then n)
comes_of_lexeme text at n x state (Some then) e h q = (past_lexeme text at n x state then e h q, whole_within text at n x q.within e)
comes_of_lexeme text at n x state None e h q = lexeme_unfit text at n x state e h q

comes_of_end : (text : List ℕ) (at : ℕ) (state : State) (script : Option Script) → front (drop at text) ≡ c.End → result_of state ≡ script → SoFar text at state → ComesTo text at (ending script)
comes_of_end text at state (Some script) e h q = is_read text at state script e h q
comes_of_end text at state None e h q = ends_early text at state e h q

comes_of_cut : (text : List ℕ) (at : ℕ) (state : State) (cut : Cut) → front (drop at text) ≡ cut → SoFar text at state → ComesTo text at (advance state cut)
comes_of_cut text at state (c.Gap n) e q = (past_gap text at n state e q, gap_within text at n q.within e)
comes_of_cut text at state (c.Whole x n) e q = comes_of_lexeme text at n x state (step state x) e refl q
comes_of_cut text at state c.Stop e q = nothing_fits text at state e q
comes_of_cut text at state c.End e q = comes_of_end text at state (result_of state) e refl q

pub comes_to : (text : List ℕ) (at : ℕ) (state : State) (found : Advance) → found ≡ advance state (front (drop at text)) → SoFar text at state → ComesTo text at found
comes_to text at state found e q = subst (ComesTo text at) (sym e) (comes_of_cut text at state (front (drop at text)) refl q)
