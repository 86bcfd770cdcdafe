-- A text is one script, or has one first unfit place, and not both.
use Rattle.std.proofs.Common.{◌≡◌, ℕ, zero, suc, ◌+◌, ◌<◌, ◌≤◌, ◌⊎◌, inl, inr, List, [], ◌∷◌, ◌++◌, length, drop, refl, sym, ap, subst, Ok, Err, ◌∙◌, append_assoc, arith}
use Rattle.std.proofs.lemmas.List.{append-nil}
use Rattle.vg_base.specs.declared.script.Script.{Script}
use Rattle.script_reader.specs.declared.lexing.lexeme.Lexeme.{Lexeme}
use Rattle.script_reader.specs.declared.machine.stack.State.{State}
use Rattle.script_reader.specs.declared.read.Advance.{Advance}
use Rattle.script_reader.specs.declared.read.Advance.TheVariants as a
use Rattle.script_reader.specs.Lexemes.{Piece, Cuts, lexemes}
use Rattle.script_reader.specs.Grammar.{SpellsScript}
use Rattle.script_reader.specs.code.Statements.{start}
use Rattle.script_reader.specs.code.Front.{front}
use Rattle.script_reader.specs.code.Advances.{advance}
use Rattle.script_reader.specs.Reading.{IsScript, Begins, FitsNone, FirstUnfit, Reads}
use Rattle.script_reader.specs.Answers.{Answer, answer_on, answer_from, script_answer}
use Rattle.script_reader.proofs.CompleteStatements.{complete}
use Rattle.script_reader.proofs.Viable.{one_script}
use Rattle.script_reader.proofs.Cuttings.{none_cut, one_first, GoesOn, one_goes_on, one_cutting}
use Rattle.script_reader.proofs.ReadLoop.{SoFar, begins, ComesTo, comes_to}

-- ---- one script

pub one_script_of : (text : List ℕ) (x y : Script) → IsScript text x → IsScript text y → x ≡ y
one_script_of text x y h j =
    let c = complete (lexemes j.pieces) y j.spells in
    one_script (lexemes j.pieces) c.0 y x c.1 c.2 (subst (λ (ys : List Lexeme). SpellsScript ys x) (one_cutting text h.pieces j.pieces h.cut j.cut) h.spells)

-- ---- one place

begins_less : (before more : List Lexeme) → Begins (before ++ more) → Begins before
begins_less before more b = (more ++ b.0, b.1, subst (λ (ys : List Lexeme). SpellsScript ys b.1) (append_assoc before more b.0) b.2)

-- nothing that begins a script is cut from where what stands fits none
no_piece : (before : List Lexeme) (stop : List ℕ) (p : Piece) (ps : List Piece) (t : List ℕ) → FitsNone before stop → Cuts stop (p ∷ ps) t → Begins (before ++ lexemes (p ∷ ps)) → ⊥
no_piece before stop p ps t (inl h) cut b = none_cut stop p ps t h.0 cut
no_piece before stop p ps t (inr (inl h)) cut b = h.1 p.kind p.slice cut.0 cut.1 cut.2.form
no_piece before stop p ps t (inr (inr h)) cut b =
    let first = one_first stop p h.0 ps [] t h.1 cut h.2 in
    let less : Begins (before ++ p.found) = begins_less (before ++ p.found) (lexemes ps) (subst Begins (sym (append_assoc before p.found (lexemes ps))) b) in
    h.3 (subst (λ (ys : List Lexeme). Begins (before ++ ys)) first.found less)

-- so a cutting whose lexemes begin a script stops no later
no_more : (ps : List Piece) (s : List ℕ) (qs : List Piece) (t : List ℕ) → FitsNone (lexemes ps) s → Begins (lexemes qs) → GoesOn ps s qs t → s ≡ t
no_more ps s qs t unfit b h = by_more h.more h.cut h.found
  where
    by_more : (more : List Piece) → Cuts s more t → lexemes qs ≡ lexemes ps ++ lexemes more → s ≡ t
    by_more [] cut e = cut
    by_more (p ∷ more) cut e = absurd (no_piece (lexemes ps) s p more t unfit cut (subst Begins e b))

same_place : (m n s t whole : ℕ) → s ≡ t → m + s ≡ whole → n + t ≡ whole → m ≡ n
same_place m n s t whole e h j = omega arith

pub one_place : (text : List ℕ) (m n : ℕ) → FirstUnfit text m → FirstUnfit text n → m ≡ n
one_place text m n h j = same_place m n (length h.stop) (length j.stop) (length text) (ap length (one_stop (one_goes_on text h.pieces j.pieces h.stop j.stop h.cut j.cut))) h.place j.place
  where
    one_stop : GoesOn h.pieces h.stop j.pieces j.stop ⊎ GoesOn j.pieces j.stop h.pieces h.stop → h.stop ≡ j.stop
    one_stop (inl k) = no_more h.pieces h.stop j.pieces j.stop h.unfit j.before k
    one_stop (inr k) = sym (no_more j.pieces j.stop h.pieces h.stop j.unfit h.before k)

-- ---- not both

-- a script can't be read where what stands fits none behind its lexemes
not_whole : (before : List Lexeme) (stop : List ℕ) (script : Script) → stop ≡ [] → FitsNone before stop → SpellsScript before script → ⊥
not_whole before stop script e (inl h) s = h.1 script s
not_whole before stop script e (inr (inl h)) s = h.0 e
not_whole before stop script e (inr (inr h)) s = none_cut stop h.0 [] h.1 e h.2

begins_whole : (found : List Lexeme) (script : Script) → SpellsScript found script → Begins found
begins_whole found script h = ([], script, subst (λ (ys : List Lexeme). SpellsScript ys script) (sym (append-nil found)) h)

pub not_both : (text : List ℕ) (script : Script) (at : ℕ) → IsScript text script → FirstUnfit text at → ⊥
not_both text script at h j = either (one_goes_on text j.pieces h.pieces j.stop [] j.cut h.cut)
  where
    whole : (more : List Piece) → Cuts j.stop more [] → lexemes h.pieces ≡ lexemes j.pieces ++ lexemes more → ⊥
    whole [] cut e = not_whole (lexemes j.pieces) j.stop script cut j.unfit (subst (λ (ys : List Lexeme). SpellsScript ys script) (e ∙ append-nil (lexemes j.pieces)) h.spells)
    whole (p ∷ more) cut e = no_piece (lexemes j.pieces) j.stop p more [] j.unfit cut (subst Begins e (begins_whole (lexemes h.pieces) script h.spells))

    beyond : (more : List Piece) → Cuts [] more j.stop → lexemes j.pieces ≡ lexemes h.pieces ++ lexemes more → ⊥
    beyond [] cut e = not_whole (lexemes j.pieces) j.stop script (sym cut) j.unfit (subst (λ (ys : List Lexeme). SpellsScript ys script) (sym (e ∙ append-nil (lexemes h.pieces))) h.spells)
    beyond (p ∷ more) cut e = none_cut [] p more j.stop refl cut

    either : GoesOn j.pieces j.stop h.pieces [] ⊎ GoesOn h.pieces [] j.pieces j.stop → ⊥
    either (inl k) = whole k.more k.cut k.found
    either (inr k) = beyond k.more k.cut k.found

-- ---- the answer

-- an outcome at a place, where what comes of reading on from it is an answer
reads_on : (fuel : ℕ) (text : List ℕ) (at : ℕ) (found : Advance) (more : State → ℕ → Answer) → length text < at + suc fuel → ComesTo text at found
    → ((next : State) (on : ℕ) → length text < on + fuel → SoFar text on next → Reads text (more next on)) → Reads text (answer_on found at more)
reads_on fuel text at (a.On next len) more lt h k = k next (at + len) (sooner at len fuel (length text) h.1.0 lt) h.0
  where
    sooner : (m k f n : ℕ) → 0 < k → n < m + suc f → n < (m + k) + f
    sooner m k f n h j = omega arith
reads_on fuel text at (a.Read script) more lt h k = h
reads_on fuel text at a.Unfit more lt h k = h

-- reading on from a place, with at most so many characters to come
reads_from : (fuel : ℕ) (text : List ℕ) (at : ℕ) (state : State) → length text < at + fuel → SoFar text at state → Reads text (answer_from fuel text state at)
unfolding answer_from
reads_from zero text at state lt q = absurd (past at (length text) q.within lt)
  where
    past : (m n : ℕ) → m ≤ n → n < m + 0 → ⊥
    past m n h j = omega arith
reads_from (suc fuel) text at state lt q =
    reads_on fuel text at (advance state (front (drop at text))) (λ next on. answer_from fuel text next on) lt
    (comes_to text at state (advance state (front (drop at text))) refl q) (λ next on l k. reads_from fuel text on next l k)

pub answers_read : (text : List ℕ) → Reads text (script_answer text)
answers_read text = reads_from (suc (length text)) text 0 start (omega arith) (begins text)

pub one_answer : (text : List ℕ) (x y : Answer) → Reads text x → Reads text y → x ≡ y
one_answer text (Ok x) (Ok y) h j = ap Ok (one_script_of text x y h.0 j.0)
one_answer text (Ok x) (Err s) h j = absurd (not_both text x s.at h.0 j)
one_answer text (Err s) (Ok y) h j = absurd (not_both text y s.at j.0 h)
one_answer text (Err s) (Err t) h j = ap (λ (n : ℕ). Err (record { at = n })) (one_place text s.at t.at h j)

-- what reads a text is its answer
pub reads_gives : (text : List ℕ) (x : Answer) → Reads text x → script_answer text ≡ x
reads_gives text x h = one_answer text (script_answer text) x (answers_read text) h
