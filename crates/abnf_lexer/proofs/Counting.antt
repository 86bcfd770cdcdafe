-- What one more piece does to what is known of a text. Behind pieces without a fault the faults are those of the one piece (`one_fault`), so the
-- first of it is the first of all.
use Rattle.std.proofs.Common.{◌≡◌, ℕ, suc, ◌+◌, ◌-◌, ◌≤◌, Bool, true, false, cond, ◌&&◌, ◌==◌, nat_le, List, [], ◌∷◌, ◌++◌, length, take, drop, Option, Some, None, refl, sym, ap, subst, ◌∙◌, arith, append_assoc}
use Rattle.std.specs.Prelude.{fold}
use Rattle.std.specs.List.{filter_map, cons_option}
use Rattle.std.proofs.lemmas.List.{append-nil, take-append-drop}
use Rattle.std.proofs.lemmas.List.Elements.{filter-append, filter_map-append}
use Rattle.std.proofs.lemmas.List.Sums.{fold-append}
use Rattle.vg_base.specs.declared.doc_fault.DocFault.{DocFault}
use Rattle.vg_base.specs.declared.doc_fault.DocKind.TheVariants.{BadCharacter, Deep, Large}
use Rattle.vg_base.specs.Characters.{byte_len}
use Rattle.vg_base.specs.Limits as limits
use Rattle.vg_base.specs.Places.{Walked, place_after}
use Rattle.abnf_lexer.specs.Classes.{is_joint}
use Rattle.vg_base.specs.Cut.{characters, Placed, placed}
use Rattle.vg_base.specs.Faults.{doc_fault_order}
use Rattle.vg_base.specs.First.{IsFirst}
use Rattle.vg_base.proofs.Cutting.{at, characters-append, placed-one_more}
use Rattle.abnf_lexer.specs.declared.lexemes.LexKind.{LexKind}
use Rattle.abnf_lexer.specs.declared.lexemes.PieceKind.{PieceKind}
use Rattle.abnf_lexer.specs.declared.lexemes.PieceKind.TheVariants.{Lexeme}
use Rattle.abnf_lexer.specs.declared.lexemes.Spanned.{Spanned}
use Rattle.abnf_lexer.specs.declared.tally.Tally.{Tally}
use Rattle.vg_base.specs.Runs.{begins}
use Rattle.abnf_lexer.specs.Faults.{told, bad_characters, is_name_kind, is_opening, is_closing, bracketed, open_brackets, faults_at, lexeme_faults}
use Rattle.abnf_lexer.specs.Lexemes.{is_lexeme, lexemes, spanned}
use Rattle.abnf_lexer.specs.code.Tally.{next_piece, Passed, behind, one_more, pieces_in, faults_in, IsTally, faults_found, Counts}
use Rattle.abnf_lexer.proofs.FirstBad.{bad_characters-append}

-- ---- counts

-- a count rises by one at most
bracketed-le : (count : ℕ) (slice : List ℕ) → bracketed count slice ≤ count + 1
bracketed-le count slice = by_tests (begins is_opening slice) (begins is_closing slice)
  where
    by_tests : (a b : Bool) → cond a (count + 1) (cond b (count - 1) count) ≤ count + 1
    by_tests true b = omega arith
    by_tests false true = omega arith
    by_tests false false = omega arith

fold-le : (count : ℕ) (pieces : List (Placed PieceKind)) → fold (λ n (piece : Placed PieceKind). bracketed n piece.slice) count pieces ≤ count + length pieces
fold-le count [] = omega arith
fold-le count (piece ∷ pieces) = let more = bracketed-le count piece.slice in omega (arith, fold-le (bracketed count piece.slice) pieces)

-- as many lexemes are told of as there are
length-one : (piece : Placed PieceKind) (kind : PieceKind) (pieces : List (Placed PieceKind)) → piece.kind ≡ kind → length (filter_map spanned pieces) ≡ length (lexemes pieces) → length (filter_map spanned (piece ∷ pieces)) ≡ length (lexemes (piece ∷ pieces))
length-one piece (Lexeme kind) pieces e h = rw e (ap suc h)
length-one piece _ pieces e h = rw e h

pub length-found : (pieces : List (Placed PieceKind)) → length (filter_map spanned pieces) ≡ length (lexemes pieces)
length-found [] = refl
length-found (piece ∷ pieces) = length-one piece piece.kind pieces refl (length-found pieces)

pub brackets-le : (tally : Tally) (p : Passed) → tally.fault ≡ None → IsTally tally p → tally.brackets ≤ length tally.found.items
brackets-le tally p none h = let le = fold-le 0 (lexemes (pieces_in p)) in omega (arith, h.brackets none, ap length (h.found none), length-found (pieces_in p))

-- ---- one more piece

pub lexeme_faults-append : (before those more : List (Placed PieceKind)) → lexeme_faults before (those ++ more) ≡ lexeme_faults before those ++ lexeme_faults (before ++ those) more
lexeme_faults-append before [] more = ap (λ (ps : List (Placed PieceKind)). lexeme_faults ps more) (sym (append-nil before))
lexeme_faults-append before (one ∷ those) more =
    ap (λ (fs : List DocFault). faults_at before one ++ fs) (lexeme_faults-append (before ++ one ∷ []) those more ∙ ap (λ (ps : List (Placed PieceKind)). lexeme_faults (before ++ one ∷ []) those ++ lexeme_faults ps more) (append_assoc before (one ∷ []) those))
    ∙ sym (append_assoc (faults_at before one) (lexeme_faults (before ++ one ∷ []) those) (lexeme_faults (before ++ one ∷ those) more))

-- the piece of so many characters where it stands
abbrev pub next_placed : Passed → PieceKind → ℕ → Placed PieceKind
next_placed p kind len = at (p.front ++ characters p.pieces) (next_piece kind len p.rest) (drop len p.rest)

-- the others stand as before
pub pieces-one : (p : Passed) (kind : PieceKind) (len : ℕ) → pieces_in (one_more p kind len) ≡ pieces_in p ++ next_placed p kind len ∷ []
pieces-one p kind len =
    placed-one_more p.front p.pieces (next_piece kind len p.rest) (drop len p.rest)
    ∙ ap (λ (l : List ℕ). placed p.front p.pieces l ++ next_placed p kind len ∷ []) (take-append-drop len p.rest)

-- the faults of one piece, behind others
abbrev pub faults_of : Passed → PieceKind → ℕ → List DocFault
faults_of p kind len = bad_characters (p.front ++ characters p.pieces) (take len p.rest) ++ lexeme_faults (lexemes (pieces_in p)) (lexemes (next_placed p kind len ∷ []))

no_parts : {A : Type 0} (xs ys : List A) → xs ++ ys ≡ [] → (xs ≡ []) × (ys ≡ [])
no_parts [] ys e = (refl, e)
no_parts (x ∷ xs) ys e = cc

-- behind pieces without a fault
pub one_fault : (p : Passed) (kind : PieceKind) (len : ℕ) → faults_in p ≡ [] → faults_in (one_more p kind len) ≡ faults_of p kind len
one_fault p kind len e =
    let none = no_parts (bad_characters p.front (characters p.pieces)) (lexeme_faults [] (lexemes (pieces_in p))) e in
    let here : List (Placed PieceKind) = next_placed p kind len ∷ [] in
    let slice : List ℕ = take len p.rest in
    let bad : bad_characters p.front (characters (p.pieces ++ next_piece kind len p.rest ∷ [])) ≡ bad_characters (p.front ++ characters p.pieces) slice =
    ap (bad_characters p.front) (characters-append p.pieces (next_piece kind len p.rest ∷ []) ∙ ap (λ (l : List ℕ). characters p.pieces ++ l) (append-nil slice))
    ∙ (bad_characters-append p.front (characters p.pieces) slice ∙ ap (λ (fs : List DocFault). fs ++ bad_characters (p.front ++ characters p.pieces) slice) none.0) in
    let those : lexeme_faults [] (lexemes (pieces_in (one_more p kind len))) ≡ lexeme_faults (lexemes (pieces_in p)) (lexemes here) =
    ap (λ (ps : List (Placed PieceKind)). lexeme_faults [] (lexemes ps)) (pieces-one p kind len)
    ∙ (ap (lexeme_faults []) (filter-append is_lexeme (pieces_in p) here)
    ∙ (lexeme_faults-append [] (lexemes (pieces_in p)) (lexemes here) ∙ ap (λ (fs : List DocFault). fs ++ lexeme_faults (lexemes (pieces_in p)) (lexemes here)) none.1)) in
    λ i. bad i ++ those i

-- what is told of the piece of so many characters
abbrev pub told_of : LexKind → ℕ → Passed → Option Spanned
told_of kind len p = spanned (next_placed p (Lexeme kind) len)

-- one more lexeme
pub counts : (old new : Tally) (p : Passed) (kind : LexKind) (len : ℕ) (one : Spanned) → old.fault ≡ None → IsTally old p → told_of kind len p ≡ Some one
    → IsFirst doc_fault_order (bad_characters (p.front ++ characters p.pieces) (take len p.rest) ++ faults_at (lexemes (pieces_in p)) (next_placed p (Lexeme kind) len)) new.fault
    → (new.fault ≡ None → new.found.items ≡ old.found.items ++ one ∷ []) → (new.fault ≡ None → new.brackets ≡ bracketed old.brackets (take len p.rest))
    → IsTally new (one_more p (Lexeme kind) len)
counts old new p kind len one none h told first found brackets =
    let piece = next_placed p (Lexeme kind) len in
    let whole : faults_in (one_more p (Lexeme kind) len) ≡ bad_characters (p.front ++ characters p.pieces) (take len p.rest) ++ faults_at (lexemes (pieces_in p)) piece =
    one_fault p (Lexeme kind) len (subst (IsFirst doc_fault_order (faults_in p)) none h.first)
    ∙ ap (λ (fs : List DocFault). bad_characters (p.front ++ characters p.pieces) (take len p.rest) ++ fs) (append-nil (faults_at (lexemes (pieces_in p)) piece)) in
    record {
      first = subst (λ (fs : List DocFault). IsFirst doc_fault_order fs new.fault) (sym whole) first;
      found = λ e. found e ∙ (ap (λ (l : List Spanned). l ++ one ∷ []) (h.found none) ∙ sym (ap (filter_map spanned) (pieces-one p (Lexeme kind) len) ∙ (filter_map-append spanned (pieces_in p) (piece ∷ []) ∙ ap (λ (o : Option Spanned). filter_map spanned (pieces_in p) ++ cons_option o []) told)));
      brackets = λ e. brackets e ∙ (ap (λ n. bracketed n (take len p.rest)) (h.brackets none)
          ∙ sym (ap (λ (ps : List (Placed PieceKind)). open_brackets (lexemes ps)) (pieces-one p (Lexeme kind) len)
          ∙ (ap open_brackets (filter-append is_lexeme (pieces_in p) (piece ∷ [])) ∙ fold-append (λ n (q : Placed PieceKind). bracketed n q.slice) 0 (lexemes (pieces_in p)) (piece ∷ []))));
    }

-- a piece of another kind is no lexeme
no_lexeme : (piece : Placed PieceKind) (kind : PieceKind) → piece.kind ≡ kind → ((x : LexKind) → kind ≡ Lexeme x → ⊥) → (is_lexeme piece ≡ false) × (spanned piece ≡ None)
no_lexeme piece (Lexeme x) e other = absurd (other x refl)
no_lexeme piece _ e other = (rw e refl, rw e refl)

pub passes : (old new : Tally) (p : Passed) (kind : PieceKind) (len : ℕ) → ((x : LexKind) → kind ≡ Lexeme x → ⊥) → old.fault ≡ None → IsTally old p
    → IsFirst doc_fault_order (bad_characters (p.front ++ characters p.pieces) (take len p.rest)) new.fault → new.found.items ≡ old.found.items → new.brackets ≡ old.brackets
    → IsTally new (one_more p kind len)
passes old new p kind len other none h first found brackets =
    let piece = next_placed p kind len in
    let no = no_lexeme piece kind refl other in
    let bad = bad_characters (p.front ++ characters p.pieces) (take len p.rest) in
    let no_one : lexemes (piece ∷ []) ≡ [] = ap (λ b. cond b (piece ∷ []) []) no.0 in
    let whole : faults_in (one_more p kind len) ≡ bad =
    one_fault p kind len (subst (IsFirst doc_fault_order (faults_in p)) none h.first) ∙ (ap (λ (ps : List (Placed PieceKind)). bad ++ lexeme_faults (lexemes (pieces_in p)) ps) no_one ∙ append-nil bad) in
    let same : lexemes (pieces_in (one_more p kind len)) ≡ lexemes (pieces_in p) =
    ap lexemes (pieces-one p kind len) ∙ (filter-append is_lexeme (pieces_in p) (piece ∷ []) ∙ (ap (λ (ps : List (Placed PieceKind)). lexemes (pieces_in p) ++ ps) no_one ∙ append-nil (lexemes (pieces_in p)))) in
    record {
      first = subst (λ (fs : List DocFault). IsFirst doc_fault_order fs new.fault) (sym whole) first;
      found = λ e. found ∙ (h.found none ∙ sym (ap (filter_map spanned) (pieces-one p kind len) ∙ (filter_map-append spanned (pieces_in p) (piece ∷ []) ∙ rw no.1 (append-nil (filter_map spanned (pieces_in p))))));
      brackets = λ e. brackets ∙ (h.brackets none ∙ ap open_brackets (sym same));
    }

-- what taking a lexeme does
pub record Takes (old new : Tally) (kind : LexKind) (len : ℕ) (walk : Walked) : Type 0 where
  pub first : IsFirst doc_fault_order (faults_found old kind len walk) new.fault
  pub found : new.fault ≡ None → new.found.items ≡ old.found.items ++ (record { place = place_after walk.passed; from = byte_len walk.passed; to = byte_len (walk.passed ++ take len walk.rest); kind = kind }) ∷ []
  pub brackets : new.fault ≡ None → new.brackets ≡ bracketed old.brackets (take len walk.rest)

takes_here : (old new : Tally) (kind : LexKind) (len : ℕ) (p : Passed) → Takes old new kind len (behind p) → old.fault ≡ None → IsTally old p → IsTally new (one_more p (Lexeme kind) len)
takes_here old new kind len p t none h =
    let here : Walked = behind p in
    let slice : List ℕ = take len p.rest in
    let opened : old.brackets ≡ open_brackets (lexemes (pieces_in p)) = h.brackets none in
    let many : length old.found.items ≡ length (lexemes (pieces_in p)) = ap length (h.found none) ∙ length-found (pieces_in p) in
    let joined : List DocFault = told (is_name_kind (Lexeme kind) && begins is_joint (drop len p.rest)) (here.passed ++ slice) BadCharacter in
    let first : IsFirst doc_fault_order (bad_characters here.passed slice ++ (joined
    ++ (told (begins is_opening slice && nat_le limits.nesting (open_brackets (lexemes (pieces_in p)))) here.passed Deep ++ told (length (lexemes (pieces_in p)) == limits.lexemes) here.passed Large))) new.fault =
    subst (λ n. IsFirst doc_fault_order (bad_characters here.passed slice ++ (joined ++ (told (begins is_opening slice && nat_le limits.nesting (open_brackets (lexemes (pieces_in p)))) here.passed Deep ++ told (n == limits.lexemes) here.passed Large))) new.fault) many
    (subst (λ n. IsFirst doc_fault_order (bad_characters here.passed slice ++ (joined ++ (told (begins is_opening slice && nat_le limits.nesting n) here.passed Deep ++ told (length old.found.items == limits.lexemes) here.passed Large))) new.fault) opened t.first) in
    counts old new p kind len (record { place = place_after here.passed; from = byte_len here.passed; to = byte_len (here.passed ++ slice); kind = kind }) none h refl first t.found t.brackets

pub takes : (old new : Tally) (kind : LexKind) (len : ℕ) (walk : Walked) → Takes old new kind len walk → Counts old new (Lexeme kind) len walk
takes old new kind len walk t = λ p w none h. takes_here old new kind len p (subst (Takes old new kind len) w t) none h
