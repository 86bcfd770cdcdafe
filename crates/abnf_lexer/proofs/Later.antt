-- Which fault comes first, whatever stands behind. A fault is settled behind a front where none that stands from there on is sooner (`Settled`): it
-- stands at an earlier place, or at no later one and is a bad character, the first of the kinds that a cutting tells. Each fault of a piece is settled
-- behind it (`bad_settled`, `faults_settled`), and what is settled is before all that may come (`bad_later`, `faults_later`, `stop_later`).
use Rattle.std.proofs.Common.{◌≡◌, ℕ, zero, suc, ◌<◌, ◌⊎◌, inl, inr, Bool, true, false, not, cond, ◌&&◌, ◌==◌, nat_le, List, [], ◌∷◌, ◌++◌, length, get_or, is_gt, refl, sym, ap, subst, ◌∙◌, arith, append_assoc}
use Rattle.std.specs.Prelude.{All}
use Rattle.std.specs.Cmp.{IsTotalOrder, nat_cmp_total, on_total, then_total, upto, alike_right, tied_itself}
use Rattle.std.specs.Ordering.{nat_cmp, ordering_then}
use Rattle.std.specs.declared.cmp.Ordering.{Ordering}
use Rattle.std.specs.declared.cmp.Ordering.TheVariants.{Less, Equal, Greater}
use Rattle.std.proofs.lemmas.List.Elements.{All-nil, All-append}
use Rattle.vg_base.specs.declared.doc_fault.DocFault.{DocFault}
use Rattle.vg_base.specs.declared.doc_fault.DocKind.{DocKind}
use Rattle.vg_base.specs.declared.doc_fault.DocKind.TheVariants.{BadCharacter, Unclosed, Deep, Large}
use Rattle.vg_base.specs.declared.place.Place.{Place}
use Rattle.vg_base.specs.Characters.{is_char}
use Rattle.vg_base.specs.Cut.{Piece, characters, Placed, placed}
use Rattle.vg_base.specs.Faults.{doc_fault_order, doc_kind_number}
use Rattle.vg_base.specs.Places.{moves_on, place_after, place_order}
use Rattle.vg_base.proofs.PlacesRise.{places-not_back, places-rise}
use Rattle.abnf_lexer.specs.declared.lexemes.PieceKind.{PieceKind}
use Rattle.vg_base.specs.Limits as limits
use Rattle.vg_base.specs.Runs.{begins}
use Rattle.abnf_lexer.specs.Classes.{is_empty, is_joint}
use Rattle.abnf_lexer.specs.Faults.{told, bad_characters, opens, is_name_kind, is_opening, open_brackets, stop_faults, joint, deep, large, faults_at, lexeme_faults}
use Rattle.abnf_lexer.specs.Lexemes.{is_lexeme, lexemes}

places_total : IsTotalOrder place_order
places_total = then_total (on_total (λ p. p.line) nat_cmp_total) (on_total (λ p. p.column) nat_cmp_total)

-- the fault of a kind just behind a front
abbrev pub fault : List ℕ → DocKind → DocFault
fault front kind = record { place = place_after front; kind = kind }

-- the other fault is no sooner
abbrev pub NotBefore : DocFault → DocFault → Type 0
NotBefore f g = is_gt (doc_fault_order f g) ≡ false

-- nothing that stands behind the front is sooner than the fault
abbrev pub Settled : List ℕ → DocFault → Type 0
Settled front f = (place_order f.place (place_after front) ≡ Less) ⊎ ((is_gt (place_order f.place (place_after front)) ≡ false) × (f.kind ≡ BadCharacter))

less_upto : (p q r : Place) (o : Ordering) → place_order q r ≡ o → place_order p q ≡ Less → is_gt o ≡ false → place_order p r ≡ Less
less_upto p q r Less e h k = places_total.trans p q r h e
less_upto p q r Equal e h k = sym (alike_right places_total q r p e) ∙ h
less_upto p q r Greater e h k = absurd cc

-- it stays settled
pub settled_more : (front more : List ℕ) (f : DocFault) → Settled front f → Settled (front ++ more) f
settled_more front more f (inl h) = inl (less_upto f.place (place_after front) (place_after (front ++ more)) (place_order (place_after front) (place_after (front ++ more))) refl h (places-not_back front more))
settled_more front more f (inr h) = inr (upto places_total f.place (place_after front) (place_after (front ++ more)) h.0 (places-not_back front more), h.1)

-- a kind that a cutting may tell: none of them comes before a bad character
abbrev pub IsKind : DocKind → Type 0
IsKind kind = is_gt (nat_cmp 4 (doc_kind_number kind)) ≡ false

by_order : (o rest : Ordering) → is_gt o ≡ false → is_gt rest ≡ false → is_gt (ordering_then o rest) ≡ false
by_order Less rest h k = refl
by_order Equal rest h k = k
by_order Greater rest h k = h

-- what is settled here is before a fault here
not_before : (front : List ℕ) (kind : DocKind) (f : DocFault) → IsKind kind → Settled front f → NotBefore f (fault front kind)
not_before front kind f k (inl h) = ap (λ o. is_gt (ordering_then o (nat_cmp (doc_kind_number f.kind) (doc_kind_number kind)))) h
not_before front kind f k (inr h) =
    by_order (place_order f.place (place_after front)) (nat_cmp (doc_kind_number f.kind) (doc_kind_number kind)) h.0 (ap (λ (d : DocKind). is_gt (nat_cmp (doc_kind_number d) (doc_kind_number kind))) h.1 ∙ k)

-- ---- what is told by a test

all_told : (P : DocFault → Type 0) (b : Bool) (front : List ℕ) (kind : DocKind) → P (fault front kind) → All P (told b front kind)
all_told P false front kind h = All-nil P
all_told P true front kind h = λ k d within. at k d within
  where
    at : (k : ℕ) (d : DocFault) → k < 1 → P (get_or (told true front kind) k d)
    at zero d within = h
    at (suc k) d within = absurd (omega arith)

pub told_later : (front more : List ℕ) (b : Bool) (kind : DocKind) (f : DocFault) → IsKind kind → Settled front f → All (NotBefore f) (told b (front ++ more) kind)
told_later front more b kind f k s = all_told (NotBefore f) b (front ++ more) kind (not_before (front ++ more) kind f k (settled_more front more f s))

-- ---- what may still come

pub bad_later : (front more rest : List ℕ) (f : DocFault) → Settled front f → All (NotBefore f) (bad_characters (front ++ more) rest)
bad_later front more [] f s = All-nil (NotBefore f)
bad_later front more (c ∷ rest) f s =
    All-append (NotBefore f) (told (not (is_char c)) (front ++ more) BadCharacter) (bad_characters ((front ++ more) ++ c ∷ []) rest) (told_later front more (not (is_char c)) BadCharacter f refl s)
    (subst (λ (l : List ℕ). All (NotBefore f) (bad_characters l rest)) (sym (append_assoc front more (c ∷ []))) (bad_later front (more ++ c ∷ []) rest f s))

told_at : (front more here : List ℕ) (b : Bool) (kind : DocKind) (f : DocFault) → here ≡ front ++ more → IsKind kind → Settled front f → All (NotBefore f) (told b here kind)
told_at front more here b kind f e k s = subst (λ (l : List ℕ). All (NotBefore f) (told b l kind)) (sym e) (told_later front more b kind f k s)

-- the tests of a lexeme
abbrev is_joined : Placed PieceKind → Bool
is_joined piece = is_name_kind piece.kind && begins is_joint piece.rest

abbrev is_deep : List (Placed PieceKind) → Placed PieceKind → Bool
is_deep before piece = begins is_opening piece.slice && nat_le limits.nesting (open_brackets before)

abbrev is_large : List (Placed PieceKind) → Bool
is_large before = length before == limits.lexemes

-- faults of a lexeme that stands behind the front
one_later : (front more : List ℕ) (before : List (Placed PieceKind)) (piece : Placed PieceKind) (f : DocFault) → piece.front ≡ front ++ more → Settled front f → All (NotBefore f) (faults_at before piece)
one_later front more before piece f e s =
    All-append (NotBefore f) (joint piece) (deep before piece ++ large before piece)
    (told_at front (more ++ piece.slice) (piece.front ++ piece.slice) (is_joined piece) BadCharacter f (ap (λ (l : List ℕ). l ++ piece.slice) e ∙ append_assoc front more piece.slice) refl s)
    (All-append (NotBefore f) (deep before piece) (large before piece) (told_at front more piece.front (is_deep before piece) Deep f e refl s) (told_at front more piece.front (is_large before) Large f e refl s))

-- of a piece that may be a lexeme, before others
by_kind : (front more : List ℕ) (before : List (Placed PieceKind)) (here : Placed PieceKind) (others : List (Placed PieceKind)) (f : DocFault) (b : Bool) → here.front ≡ front ++ more → Settled front f
    → ((after : List (Placed PieceKind)) → All (NotBefore f) (lexeme_faults after others)) → All (NotBefore f) (lexeme_faults before (cond b (here ∷ others) others))
by_kind front more before here others f false e s later = later before
by_kind front more before here others f true e s later =
    All-append (NotBefore f) (faults_at before here) (lexeme_faults (before ++ here ∷ []) others) (one_later front more before here f e s) (later (before ++ here ∷ []))

pub faults_later : (front more : List ℕ) (before : List (Placed PieceKind)) (ps : List (Piece PieceKind)) (stop : List ℕ) (f : DocFault) → Settled front f
    → All (NotBefore f) (lexeme_faults before (lexemes (placed (front ++ more) ps stop)))
faults_later front more before [] stop f s = All-nil (NotBefore f)
faults_later front more before (p ∷ ps) stop f s =
    let here : Placed PieceKind = record { kind = p.kind; front = front ++ more; slice = p.slice; rest = characters ps ++ stop } in
    by_kind front more before here (lexemes (placed ((front ++ more) ++ p.slice) ps stop)) f (is_lexeme here) refl s
    (λ after. subst (λ (l : List ℕ). All (NotBefore f) (lexeme_faults after (lexemes (placed l ps stop)))) (sym (append_assoc front more p.slice)) (faults_later front (more ++ p.slice) after ps stop f s))

-- what is told where no piece begins
pub stop_later : (front more stop : List ℕ) (f : DocFault) → Settled front f → All (NotBefore f) (stop_faults (record { passed = front ++ more; rest = stop }))
stop_later front more stop f s = by_opening (opens stop)
  where
    by_opening : (b : Bool) → All (NotBefore f) (told (not (is_empty stop)) (front ++ more) (cond b Unclosed BadCharacter))
    by_opening true = told_later front more (not (is_empty stop)) Unclosed f refl s
    by_opening false = told_later front more (not (is_empty stop)) BadCharacter f refl s

-- ---- what is settled behind a piece

-- a bad character among these
pub bad_settled : (front slice : List ℕ) → All (Settled (front ++ slice)) (bad_characters front slice)
bad_settled front [] = All-nil (Settled (front ++ []))
bad_settled front (c ∷ slice) =
    All-append (Settled (front ++ c ∷ slice)) (told (not (is_char c)) front BadCharacter) (bad_characters (front ++ c ∷ []) slice)
    (all_told (Settled (front ++ c ∷ slice)) (not (is_char c)) front BadCharacter (inr (places-not_back front (c ∷ slice), refl)))
    (subst (λ (l : List ℕ). All (Settled l) (bad_characters (front ++ c ∷ []) slice)) (append_assoc front (c ∷ []) slice) (bad_settled (front ++ c ∷ []) slice))

-- a bad character just behind the front
pub settled_here : (front : List ℕ) → Settled front (fault front BadCharacter)
settled_here front = inr (ap is_gt (tied_itself places_total (place_after front)), refl)

-- a fault just behind a front, before a character that moves on
pub settled_before : (front more : List ℕ) (c : ℕ) (kind : DocKind) → moves_on front c ≡ true → Settled (front ++ c ∷ more) (fault front kind)
settled_before front more c kind m = inl (places-rise front more c m)

-- faults of a lexeme whose first character moves on
pub faults_settled : (before : List (Placed PieceKind)) (piece : Placed PieceKind) (c : ℕ) (more : List ℕ) → piece.slice ≡ c ∷ more → moves_on piece.front c ≡ true → All (Settled (piece.front ++ piece.slice)) (faults_at before piece)
faults_settled before piece c more e m =
    All-append (Settled (piece.front ++ piece.slice)) (joint piece) (deep before piece ++ large before piece)
    (all_told (Settled (piece.front ++ piece.slice)) (is_joined piece) (piece.front ++ piece.slice) BadCharacter (settled_here (piece.front ++ piece.slice)))
    (All-append (Settled (piece.front ++ piece.slice)) (deep before piece) (large before piece) (all_told (Settled (piece.front ++ piece.slice)) (is_deep before piece) piece.front Deep (early Deep)) (all_told (Settled (piece.front ++ piece.slice)) (is_large before) piece.front Large (early Large)))
  where
    early : (kind : DocKind) → Settled (piece.front ++ piece.slice) (fault piece.front kind)
    early kind = subst (λ (l : List ℕ). Settled (piece.front ++ l) (fault piece.front kind)) (sym e) (settled_before piece.front more c kind m)
