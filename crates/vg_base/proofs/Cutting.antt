-- A text that is cut into pieces. Where at most one piece begins each text, a text is cut in one way (`one_cutting`): of two cuttings one goes on
-- from where the other stops (`goes_on`). Where it is decided whether a piece begins, each text can be cut (`some_cutting`). A loop that cuts a text
-- from the front keeps `Cuts` by `one_more`, and what is told of each piece where it stands by `placed-one_more`. A clause can't range over all
-- forms, so these are no contract of a function here: a reader states them of its own forms, as laws.
use Rattle.std.proofs.Common.{◌≡◌, ℕ, zero, suc, ◌+◌, ◌<◌, ◌≤◌, ◌⊎◌, inl, inr, List, [], ◌∷◌, ◌++◌, length, refl, sym, ap, subst, ◌∙◌, arith, append_assoc, length-append}
use Rattle.std.specs.Prelude.{All}
use Rattle.std.proofs.lemmas.List.{append_cancel_left, append-nil}
use Rattle.std.proofs.lemmas.List.Elements.{All-nil, All-cons}
use Rattle.vg_base.specs.Cut.{Piece, characters, Cuts, BeginsNone, IsCut, Placed, placed, IsPartOf}

-- ---- the characters of pieces, and where they stand

pub characters-append : {K : Type 0} (ps qs : List (Piece K)) → characters (ps ++ qs) ≡ characters ps ++ characters qs
characters-append [] qs = refl
characters-append (p ∷ ps) qs = ap (λ (l : List ℕ). p.slice ++ l) (characters-append ps qs) ∙ sym (append_assoc p.slice (characters ps) (characters qs))

-- a piece before this rest, behind a front
abbrev pub at : {K : Type 0} → List ℕ → Piece K → List ℕ → Placed K
at front p rest = record { kind = p.kind; front = front; slice = p.slice; rest = rest }

-- what stands behind several pieces has those characters before it
pub placed-append : {K : Type 0} (front : List ℕ) (ps qs : List (Piece K)) (stop : List ℕ)
    → placed front (ps ++ qs) stop ≡ placed front ps (characters qs ++ stop) ++ placed (front ++ characters ps) qs stop
placed-append front [] qs stop = ap (λ (l : List ℕ). placed l qs stop) (sym (append-nil front))
placed-append front (p ∷ ps) qs stop =
    let rest : characters (ps ++ qs) ++ stop ≡ characters ps ++ (characters qs ++ stop) = ap (λ (l : List ℕ). l ++ stop) (characters-append ps qs) ∙ append_assoc (characters ps) (characters qs) stop in
    let more = placed-append (front ++ p.slice) ps qs stop ∙ ap (λ (l : List ℕ). placed (front ++ p.slice) ps (characters qs ++ stop) ++ placed l qs stop) (append_assoc front p.slice (characters ps)) in
    λ i. at front p (rest i) ∷ more i

-- one more piece stands behind those before it; to them it is a part of what follows
pub placed-one_more : {K : Type 0} (front : List ℕ) (ps : List (Piece K)) (p : Piece K) (stop : List ℕ)
    → placed front (ps ++ p ∷ []) stop ≡ placed front ps (p.slice ++ stop) ++ at (front ++ characters ps) p stop ∷ []
placed-one_more front ps p stop = placed-append front ps (p ∷ []) stop ∙ ap (λ (l : List ℕ). placed front ps (l ++ stop) ++ at (front ++ characters ps) p stop ∷ []) (append-nil p.slice)

module _ {K : Type 0} (HasForm : K → List ℕ → List ℕ → Type 0) where
  -- ---- pieces one after another

  -- a cutting tells all characters of its text
  pub cut_whole : (text : List ℕ) (ps : List (Piece K)) (stop : List ℕ) → Cuts HasForm text ps stop → text ≡ characters ps ++ stop
  cut_whole text [] stop c = c
  cut_whole text (p ∷ ps) stop c = c.1 ∙ (ap (λ (l : List ℕ). p.slice ++ l) (cut_whole c.0 ps stop c.3) ∙ sym (append_assoc p.slice (characters ps) stop))

  -- a cutting, and a cutting of what it leaves
  pub cut_then : (text : List ℕ) (ps : List (Piece K)) (middle : List ℕ) (qs : List (Piece K)) (stop : List ℕ) → Cuts HasForm text ps middle → Cuts HasForm middle qs stop → Cuts HasForm text (ps ++ qs) stop
  cut_then text [] middle qs stop c d = subst (λ (l : List ℕ). Cuts HasForm l qs stop) (sym c) d
  cut_then text (p ∷ ps) middle qs stop c d = (c.0, c.1, c.2, cut_then c.0 ps middle qs stop c.3 d)

  -- one more piece at the end
  pub one_more : (text : List ℕ) (ps : List (Piece K)) (middle : List ℕ) (p : Piece K) (stop : List ℕ) → Cuts HasForm text ps middle → middle ≡ p.slice ++ stop → HasForm p.kind p.slice stop → Cuts HasForm text (ps ++ p ∷ []) stop
  one_more text ps middle p stop c e f = cut_then text ps middle (p ∷ []) stop c (stop, e, f, refl)

  -- each piece is a slice of the text with its form
  pub parts_of : (front text : List ℕ) (ps : List (Piece K)) (stop : List ℕ) → Cuts HasForm text ps stop → All (IsPartOf HasForm (front ++ text)) (placed front ps stop)
  parts_of front text [] stop c = All-nil (IsPartOf HasForm (front ++ text))
  parts_of front text (p ∷ ps) stop c =
      let rest : c.0 ≡ characters ps ++ stop = cut_whole c.0 ps stop c.3 in
      let whole : text ≡ p.slice ++ (characters ps ++ stop) = c.1 ∙ ap (λ (l : List ℕ). p.slice ++ l) rest in
      let more : (front ++ p.slice) ++ c.0 ≡ front ++ text = append_assoc front p.slice c.0 ∙ ap (λ (l : List ℕ). front ++ l) (sym c.1) in
      All-cons (IsPartOf HasForm (front ++ text)) (at front p (characters ps ++ stop)) (placed (front ++ p.slice) ps stop) (record { parts = ap (λ (l : List ℕ). front ++ l) whole; form = subst (λ (l : List ℕ). HasForm p.kind p.slice l) rest c.2 })
      (subst (λ (l : List ℕ). All (IsPartOf HasForm l) (placed (front ++ p.slice) ps stop)) more (parts_of (front ++ p.slice) c.0 ps stop c.3))

  -- ---- one cutting

  -- what is owed of the forms: of two pieces that begin one text the one is the other
  abbrev pub OneBegins : Type 0
  OneBegins = (j k : K) (s t r q : List ℕ) → s ++ r ≡ t ++ q → HasForm j s r → HasForm k t q → (j ≡ k) × (s ≡ t)

  one_piece : OneBegins → (p q : Piece K) (r s : List ℕ) → p.slice ++ r ≡ q.slice ++ s → HasForm p.kind p.slice r → HasForm q.kind q.slice s → (p ≡ q) × (r ≡ s)
  one_piece one p q r s e f g =
      let same = one p.kind q.kind p.slice q.slice r s e f g in
      ((λ i. record { kind = same.0 i; slice = same.1 i }), append_cancel_left p.slice r s (e ∙ ap (λ (l : List ℕ). l ++ s) (sym same.1)))

  -- the second cutting goes on from where the first stops
  pub record GoesOn (ps : List (Piece K)) (stop : List ℕ) (qs : List (Piece K)) (end : List ℕ) : Type 0 where
    pub more : List (Piece K)
    pub cuts : Cuts HasForm stop more end
    pub pieces : qs ≡ ps ++ more

  goes_on_behind : (p q : Piece K) (ps : List (Piece K)) (stop : List ℕ) (qs : List (Piece K)) (end : List ℕ) → p ≡ q → GoesOn ps stop qs end → GoesOn (p ∷ ps) stop (q ∷ qs) end
  goes_on_behind p q ps stop qs end e h = record { more = h.more; cuts = h.cuts; pieces = λ i. (sym e) i ∷ h.pieces i }

  pub goes_on : OneBegins → (text : List ℕ) (ps qs : List (Piece K)) (stop end : List ℕ) → Cuts HasForm text ps stop → Cuts HasForm text qs end → GoesOn ps stop qs end ⊎ GoesOn qs end ps stop
  goes_on one text [] qs stop end c d = inl (record { more = qs; cuts = subst (λ (l : List ℕ). Cuts HasForm l qs end) c d; pieces = refl })
  goes_on one text (p ∷ ps) [] stop end c d = inr (record { more = p ∷ ps; cuts = subst (λ (l : List ℕ). Cuts HasForm l (p ∷ ps) stop) d c; pieces = refl })
  goes_on one text (p ∷ ps) (q ∷ qs) stop end c d =
      let same = one_piece one p q c.0 d.0 (sym c.1 ∙ d.1) c.2 d.2 in
      behind same.0 (goes_on one c.0 ps qs stop end c.3 (subst (λ (l : List ℕ). Cuts HasForm l qs end) (sym same.1) d.3))
    where
      behind : p ≡ q → GoesOn ps stop qs end ⊎ GoesOn qs end ps stop → GoesOn (p ∷ ps) stop (q ∷ qs) end ⊎ GoesOn (q ∷ qs) end (p ∷ ps) stop
      behind e (inl h) = inl (goes_on_behind p q ps stop qs end e h)
      behind e (inr h) = inr (goes_on_behind q p qs end ps stop (sym e) h)

  -- where no piece begins, there is nothing more
  no_more : (stop end : List ℕ) (more : List (Piece K)) → BeginsNone HasForm stop → Cuts HasForm stop more end → (more ≡ []) × (stop ≡ end)
  no_more stop end [] stuck c = (refl, c)
  no_more stop end (p ∷ ps) stuck c = absurd (stuck p.kind p.slice c.0 c.1 c.2)

  -- a text is cut in one way
  pub one_cutting : OneBegins → (text : List ℕ) (ps qs : List (Piece K)) (stop end : List ℕ) → IsCut HasForm text ps stop → IsCut HasForm text qs end → (ps ≡ qs) × (stop ≡ end)
  one_cutting one text ps qs stop end c d = either (goes_on one text ps qs stop end c.cuts d.cuts)
    where
      either : GoesOn ps stop qs end ⊎ GoesOn qs end ps stop → (ps ≡ qs) × (stop ≡ end)
      either (inl h) = let none = no_more stop end h.more c.stuck h.cuts in (sym (h.pieces ∙ ap (λ (l : List (Piece K)). ps ++ l) none.0 ∙ append-nil ps), none.1)
      either (inr h) = let none = no_more end stop h.more d.stuck h.cuts in (h.pieces ∙ ap (λ (l : List (Piece K)). qs ++ l) none.0 ∙ append-nil qs, sym none.1)

  -- ---- some cutting

  -- a piece that begins the text, with a character at least
  pub record FirstPiece (text : List ℕ) : Type 0 where
    pub kind : K
    pub slice : List ℕ
    pub rest : List ℕ
    pub whole : text ≡ slice ++ rest
    pub form : HasForm kind slice rest
    pub some : 0 < length slice

  -- what is owed of a search for the first piece: it finds one, or none begins
  abbrev pub Looks : Type 0
  Looks = (text : List ℕ) → FirstPiece text ⊎ BeginsNone HasForm text

  pub record Cutting (text : List ℕ) : Type 0 where
    pub pieces : List (Piece K)
    pub stop : List ℕ
    pub is_cut : IsCut HasForm text pieces stop

  put_first : (text : List ℕ) (b : FirstPiece text) → Cutting b.rest → Cutting text
  put_first text b more = record {
    pieces = (record { kind = b.kind; slice = b.slice }) ∷ more.pieces;
    stop = more.stop;
    is_cut = record { cuts = (b.rest, b.whole, b.form, more.is_cut.cuts); stuck = more.is_cut.stuck };
  }

  uncut : (text : List ℕ) → BeginsNone HasForm text → Cutting text
  uncut text none = record { pieces = []; stop = text; is_cut = record { cuts = refl; stuck = none } }

  shorter : (text : List ℕ) (b : FirstPiece text) → length b.rest < length text
  shorter text b = omega (arith, b.some, ap length b.whole, length-append b.slice b.rest)

  cut_within : Looks → (n : ℕ) (text : List ℕ) → length text < n → Cutting text
  cut_within look zero text h = absurd (omega arith)
  cut_within look (suc n) text h = either (look text) (cut_within look n)
    where
      either : FirstPiece text ⊎ BeginsNone HasForm text → ((rest : List ℕ) → length rest < n → Cutting rest) → Cutting text
      either (inl b) more = put_first text b (more b.rest (omega (arith, shorter text b)))
      either (inr none) more = uncut text none

  -- each text has a cutting
  pub some_cutting : Looks → (text : List ℕ) → Cutting text
  some_cutting look text = cut_within look (suc (length text)) text (omega arith)
