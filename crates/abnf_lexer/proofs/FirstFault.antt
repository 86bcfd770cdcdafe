-- The first fault of a text, by the pieces up to it. `ps` are the pieces that were passed and `qs` those behind them: where a fault of the first is
-- settled, it is the first of all (`first_of_all`); where they have none and no piece begins behind them, what is told there is (`first_at_stop`).
use Rattle.std.proofs.Common.{◌≡◌, ℕ, ◌<◌, ◌⊎◌, inl, inr, not, List, [], ◌∷◌, ◌++◌, length, Option, Some, None, refl, sym, ap, subst, ◌∙◌, arith, append_assoc, length-append}
use Rattle.std.specs.Prelude.{All, Contains, if◌then◌else◌}
use Rattle.std.proofs.lemmas.List.{append-nil}
use Rattle.std.proofs.lemmas.List.Elements.{All-nil, All-cons, All-head, All-tail, All-append, Contains-append_left, Contains-append_right, Contains-append_cases, filter-append}
use Rattle.vg_base.specs.declared.doc_fault.DocFault.{DocFault}
use Rattle.vg_base.specs.declared.doc_fault.DocKind.TheVariants.{BadCharacter, Unclosed}
use Rattle.vg_base.specs.Cut.{Piece, characters, BeginsNone, Placed, placed}
use Rattle.vg_base.specs.Faults.{doc_fault_order}
use Rattle.vg_base.specs.First.{IsFirst}
use Rattle.vg_base.specs.Places.{Walked}
use Rattle.vg_base.proofs.Cutting.{characters-append, placed-append}
use Rattle.abnf_lexer.specs.declared.lexemes.PieceKind.{PieceKind}
use Rattle.abnf_lexer.specs.Faults.{told, opens, bad_characters, stop_faults, lexeme_faults, cutting_faults}
use Rattle.abnf_lexer.specs.Forms.{HasForm}
use Rattle.abnf_lexer.specs.Lexemes.{is_lexeme, lexemes}
use Rattle.abnf_lexer.specs.code.Tally.{faults_in}
use Rattle.abnf_lexer.proofs.Counting.{lexeme_faults-append}
use Rattle.abnf_lexer.proofs.FirstBad.{bad_characters-append, contains_one}
use Rattle.abnf_lexer.proofs.FirstCharacters.{stop_moves}
use Rattle.abnf_lexer.proofs.Later.{fault, NotBefore, Settled, settled_before, bad_later, faults_later, stop_later}

-- the walk to where no piece begins
abbrev pub walk_to : (front : List ℕ) (ps : List (Piece PieceKind)) (stop : List ℕ) → Walked
walk_to front ps stop = record { passed = front ++ characters ps; rest = stop }

-- all faults of a text that is cut behind a front
abbrev pub all_faults : (front : List ℕ) (ps : List (Piece PieceKind)) (stop : List ℕ) → List DocFault
all_faults front ps stop = cutting_faults (front ++ (characters ps ++ stop)) (placed front ps stop) (walk_to front ps stop)

all_left : {X : Type 0} (P : X → Type 0) (xs ys : List X) → All P (xs ++ ys) → All P xs
all_left P [] ys h = All-nil P
all_left P (x ∷ xs) ys h = All-cons P x xs (All-head P x (xs ++ ys) h) (all_left P xs ys (All-tail P x (xs ++ ys) h))

all_right : {X : Type 0} (P : X → Type 0) (xs ys : List X) → All P (xs ++ ys) → All P ys
all_right P [] ys h = h
all_right P (x ∷ xs) ys h = all_right P xs ys (All-tail P x (xs ++ ys) h)

-- an element of a list has what all of it have
pub at_contained : {X : Type 0} (P : X → Type 0) (xs : List X) (x : X) → All P xs → Contains xs x → P x
at_contained P xs x h c = subst P c.2 (h c.0 x c.1)

no_parts : {A : Type 0} (xs ys : List A) → xs ++ ys ≡ [] → (xs ≡ []) × (ys ≡ [])
no_parts [] ys e = (refl, e)
no_parts (x ∷ xs) ys e = cc

-- at the first character that begins no piece
at_character : (passed : List ℕ) (c : ℕ) (cs : List ℕ) (r : Option DocFault) → 0 < length passed → BeginsNone HasForm (c ∷ cs)
    → IsFirst doc_fault_order (stop_faults (record { passed = passed; rest = c ∷ cs })) r → IsFirst doc_fault_order (bad_characters passed (c ∷ cs) ++ stop_faults (record { passed = passed; rest = c ∷ cs })) r
at_character passed c cs None some stuck h = absurd cc
at_character passed c cs (Some f) some stuck h =
    let stops = stop_moves passed c cs some stuck in
    let f_is : f ≡ fault passed (if opens (c ∷ cs) then Unclosed else BadCharacter) = contains_one f (fault passed (if opens (c ∷ cs) then Unclosed else BadCharacter)) h.0 in
    let settled : Settled (passed ++ c ∷ []) f = subst (Settled (passed ++ c ∷ [])) (sym f_is) (settled_before passed [] c (if opens (c ∷ cs) then Unclosed else BadCharacter) stops.moves) in
    let later : All (NotBefore f) (bad_characters (passed ++ c ∷ []) cs) =
    subst (λ (l : List ℕ). All (NotBefore f) (bad_characters l cs)) (append-nil (passed ++ c ∷ [])) (bad_later (passed ++ c ∷ []) [] cs f settled) in
    let bad : All (NotBefore f) (bad_characters passed (c ∷ cs)) = subst (λ b. All (NotBefore f) (told (not b) passed BadCharacter ++ bad_characters (passed ++ c ∷ []) cs)) (sym stops.allowed) later in
    (Contains-append_right (bad_characters passed (c ∷ cs)) _ f h.0, All-append (NotBefore f) (bad_characters passed (c ∷ cs)) _ bad h.1)

at_stop : (passed stop : List ℕ) (r : Option DocFault) → 0 < length passed → BeginsNone HasForm stop
    → IsFirst doc_fault_order (stop_faults (record { passed = passed; rest = stop })) r → IsFirst doc_fault_order (bad_characters passed stop ++ stop_faults (record { passed = passed; rest = stop })) r
at_stop passed [] r some stuck h = h
at_stop passed (c ∷ cs) r some stuck h = at_character passed c cs r some stuck h

module _ (front : List ℕ) (clean : bad_characters [] front ≡ []) where
  -- the faults of the pieces that were passed, and those that come behind them
  abbrev bad_here : List (Piece PieceKind) → List DocFault
  bad_here ps = bad_characters front (characters ps)

  abbrev bad_behind : List (Piece PieceKind) → List ℕ → List DocFault
  bad_behind ps rest = bad_characters (front ++ characters ps) rest

  all_bad : (ps : List (Piece PieceKind)) (rest : List ℕ) → bad_characters [] (front ++ (characters ps ++ rest)) ≡ bad_here ps ++ bad_behind ps rest
  all_bad ps rest =
      bad_characters-append [] front (characters ps ++ rest)
      ∙ (ap (λ (fs : List DocFault). fs ++ bad_characters front (characters ps ++ rest)) clean ∙ bad_characters-append front (characters ps) rest)

  -- the parts of all faults
  abbrev parted : (ps qs : List (Piece PieceKind)) (stop : List ℕ) → List DocFault
  parted ps qs stop =
      (bad_here ps ++ bad_behind ps (characters qs ++ stop))
      ++ ((lexeme_faults [] (lexemes (placed front ps (characters qs ++ stop))) ++ lexeme_faults (lexemes (placed front ps (characters qs ++ stop))) (lexemes (placed (front ++ characters ps) qs stop)))
      ++ stop_faults (walk_to front (ps ++ qs) stop))

  parts : (ps qs : List (Piece PieceKind)) (stop : List ℕ) → all_faults front (ps ++ qs) stop ≡ parted ps qs stop
  parts ps qs stop =
      let rest : List ℕ = characters qs ++ stop in
      let here : List (Placed PieceKind) = placed front ps rest in
      let behind : List (Placed PieceKind) = placed (front ++ characters ps) qs stop in
      let text : characters (ps ++ qs) ++ stop ≡ characters ps ++ rest = ap (λ (l : List ℕ). l ++ stop) (characters-append ps qs) ∙ append_assoc (characters ps) (characters qs) stop in
      let bad : bad_characters [] (front ++ (characters (ps ++ qs) ++ stop)) ≡ bad_here ps ++ bad_behind ps rest = ap (λ (l : List ℕ). bad_characters [] (front ++ l)) text ∙ all_bad ps rest in
      let those : lexeme_faults [] (lexemes (placed front (ps ++ qs) stop)) ≡ lexeme_faults [] (lexemes here) ++ lexeme_faults (lexemes here) (lexemes behind) =
      ap (λ (l : List (Placed PieceKind)). lexeme_faults [] (lexemes l)) (placed-append front ps qs stop)
      ∙ (ap (lexeme_faults []) (filter-append is_lexeme here behind) ∙ lexeme_faults-append [] (lexemes here) (lexemes behind)) in
      λ i. bad i ++ (those i ++ stop_faults (walk_to front (ps ++ qs) stop))

  -- a fault of the pieces that were passed is one of all
  contained : (ps qs : List (Piece PieceKind)) (stop : List ℕ) (f : DocFault) → Contains (faults_in (record { front = front; pieces = ps; rest = characters qs ++ stop })) f → Contains (parted ps qs stop) f
  contained ps qs stop f h = by_part (Contains-append_cases (bad_here ps) (lexeme_faults [] (lexemes (placed front ps (characters qs ++ stop)))) f h)
    where
      by_part : Contains (bad_here ps) f ⊎ Contains (lexeme_faults [] (lexemes (placed front ps (characters qs ++ stop)))) f → Contains (parted ps qs stop) f
      by_part (inl c) = Contains-append_left (bad_here ps ++ bad_behind ps (characters qs ++ stop)) _ f (Contains-append_left (bad_here ps) (bad_behind ps (characters qs ++ stop)) f c)
      by_part (inr c) = Contains-append_right (bad_here ps ++ bad_behind ps (characters qs ++ stop)) _ f (Contains-append_left _ (stop_faults (walk_to front (ps ++ qs) stop)) f (Contains-append_left _ _ f c))

  -- what is settled is before all
  before_all : (ps qs : List (Piece PieceKind)) (stop : List ℕ) (f : DocFault) → Settled (front ++ characters ps) f
      → All (NotBefore f) (faults_in (record { front = front; pieces = ps; rest = characters qs ++ stop })) → All (NotBefore f) (parted ps qs stop)
  before_all ps qs stop f settled h =
      let rest : List ℕ = characters qs ++ stop in
      let here : List (Placed PieceKind) = placed front ps rest in
      let behind : List (Placed PieceKind) = placed (front ++ characters ps) qs stop in
      let end : Walked = walk_to front (ps ++ qs) stop in
      let bad : All (NotBefore f) (bad_behind ps rest) = subst (λ (l : List ℕ). All (NotBefore f) (bad_characters l rest)) (append-nil (front ++ characters ps)) (bad_later (front ++ characters ps) [] rest f settled) in
      let those : All (NotBefore f) (lexeme_faults (lexemes here) (lexemes behind)) =
      subst (λ (l : List ℕ). All (NotBefore f) (lexeme_faults (lexemes here) (lexemes (placed l qs stop)))) (append-nil (front ++ characters ps)) (faults_later (front ++ characters ps) [] (lexemes here) qs stop f settled) in
      let at_stop : All (NotBefore f) (stop_faults end) =
      subst (λ (l : List ℕ). All (NotBefore f) (stop_faults (record { passed = l; rest = stop }))) (append_assoc front (characters ps) (characters qs) ∙ ap (λ (l : List ℕ). front ++ l) (sym (characters-append ps qs)))
      (stop_later (front ++ characters ps) (characters qs) stop f settled) in
      All-append (NotBefore f) (bad_here ps ++ bad_behind ps rest) _ (All-append (NotBefore f) (bad_here ps) (bad_behind ps rest) (all_left (NotBefore f) (bad_here ps) (lexeme_faults [] (lexemes here)) h) bad)
      (All-append (NotBefore f) _ (stop_faults end) (All-append (NotBefore f) (lexeme_faults [] (lexemes here)) _ (all_right (NotBefore f) (bad_here ps) (lexeme_faults [] (lexemes here)) h) those) at_stop)

  -- so it is the first of all
  pub first_of_all : (ps qs : List (Piece PieceKind)) (stop : List ℕ) (f : DocFault) → Settled (front ++ characters ps) f
      → IsFirst doc_fault_order (faults_in (record { front = front; pieces = ps; rest = characters qs ++ stop })) (Some f) → IsFirst doc_fault_order (all_faults front (ps ++ qs) stop) (Some f)
  first_of_all ps qs stop f settled h =
      subst (λ (fs : List DocFault). IsFirst doc_fault_order fs (Some f)) (sym (parts ps qs stop)) (contained ps qs stop f h.0, before_all ps qs stop f settled h.1)

  -- where there is none in the pieces, and none begins behind them
  pub first_at_stop : (ps : List (Piece PieceKind)) (stop : List ℕ) (r : Option DocFault) → 0 < length front → BeginsNone HasForm stop
      → faults_in (record { front = front; pieces = ps; rest = stop }) ≡ [] → IsFirst doc_fault_order (stop_faults (walk_to front ps stop)) r → IsFirst doc_fault_order (all_faults front ps stop) r
  first_at_stop ps stop r some stuck none h =
      let parts = no_parts (bad_here ps) (lexeme_faults [] (lexemes (placed front ps stop))) none in
      let whole : all_faults front ps stop ≡ bad_behind ps stop ++ stop_faults (walk_to front ps stop) =
      λ i. (all_bad ps stop ∙ ap (λ (fs : List DocFault). fs ++ bad_behind ps stop) parts.0) i ++ (parts.1 i ++ stop_faults (walk_to front ps stop)) in
      subst (λ (fs : List DocFault). IsFirst doc_fault_order fs r) (sym whole) (at_stop (front ++ characters ps) stop r (omega (arith, length-append front (characters ps))) stuck h)
