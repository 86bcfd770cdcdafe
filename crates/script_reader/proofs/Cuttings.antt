-- A text is cut in one way: of two cuttings of it, one goes on from where the other stops.
use Rattle.std.proofs.Common.{◌≡◌, ◌⊎◌, inl, inr, Some, List, [], ◌∷◌, ◌++◌, length, drop, refl, sym, ap, subst, ◌∙◌, append_assoc, ℕ}
use Rattle.std.proofs.lemmas.List.{append-nil, drop_at}
use Rattle.script_reader.specs.declared.lexing.lexeme.Lexeme.{Lexeme}
use Rattle.script_reader.specs.declared.lexing.cutting.Cut.{Cut}
use Rattle.script_reader.specs.declared.lexing.cutting.Cut.TheVariants as c
use Rattle.script_reader.specs.Lexemes.{Piece, Cuts, lexemes}
use Rattle.script_reader.specs.code.Front.{other_front, front}
use Rattle.script_reader.proofs.Found.{front_len, FrontGives, same_len, none_len, longest_cut}

gives_same : (o : Cut) (xs ys : List Lexeme) → FrontGives o xs → FrontGives o ys → xs ≡ ys
gives_same (c.Gap n) xs ys h j = h ∙ sym j
gives_same (c.Whole x n) xs ys h j = h ∙ sym j
gives_same c.End xs ys h j = absurd h
gives_same c.Stop xs ys h j = absurd h

front_none : front [] ≡ c.End
unfolding front other_front
front_none = refl

piece_front : (text : List ℕ) (p : Piece) (ps : List Piece) (stop : List ℕ) → Cuts text (p ∷ ps) stop → (front_len (front text) ≡ Some (length p.slice)) × FrontGives (front text) p.found
piece_front text p ps stop h =
    let d = longest_cut p.kind p.slice h.0 p.found h.2 h.3 in
    (ap (λ (ys : List ℕ). front_len (front ys)) h.1 ∙ d.0, subst (λ (ys : List ℕ). FrontGives (front ys) p.found) (sym h.1) d.1)

-- nothing is cut of an empty text
pub none_cut : (text : List ℕ) (p : Piece) (ps : List Piece) (stop : List ℕ) → text ≡ [] → Cuts text (p ∷ ps) stop → ⊥
none_cut text p ps stop e h = none_len (length p.slice) (sym (ap (λ (ys : List ℕ). front_len (front ys)) e ∙ ap front_len front_none) ∙ (piece_front text p ps stop h).0)

-- the first pieces of two cuttings are one
pub record OneFirst (p q : Piece) (after then : List ℕ) : Type 0 where
  pub found : p.found ≡ q.found
  pub rest : after ≡ then

pub one_first : (text : List ℕ) (p q : Piece) (ps qs : List Piece) (s t : List ℕ) (h : Cuts text (p ∷ ps) s) (j : Cuts text (q ∷ qs) t) → OneFirst p q h.0 j.0
one_first text p q ps qs s t h j =
    let f = piece_front text p ps s h in
    let e = piece_front text q qs t j in
    let len : length p.slice ≡ length q.slice = same_len (length p.slice) (length q.slice) (sym f.0 ∙ e.0) in
    record {
      found = gives_same (front text) p.found q.found f.1 e.1;
      rest = sym (drop_at p.slice h.0 (length p.slice) refl) ∙ ap (drop (length p.slice)) (sym h.1 ∙ j.1) ∙ drop_at q.slice j.0 (length p.slice) (sym len);
    }

-- the second cutting goes on from where the first stops
pub record GoesOn (ps : List Piece) (s : List ℕ) (qs : List Piece) (t : List ℕ) : Type 0 where
  pub more : List Piece
  pub cut : Cuts s more t
  pub found : lexemes qs ≡ lexemes ps ++ lexemes more

goes_on_behind : (p q : Piece) (ps qs : List Piece) (s t : List ℕ) → p.found ≡ q.found → GoesOn ps s qs t → GoesOn (p ∷ ps) s (q ∷ qs) t
goes_on_behind p q ps qs s t e h = record {
  more = h.more;
  cut = h.cut;
  found = ap (λ (xs : List Lexeme). xs ++ lexemes qs) (sym e) ∙ ap (λ (xs : List Lexeme). p.found ++ xs) h.found ∙ sym (append_assoc p.found (lexemes ps) (lexemes h.more));
}

either_behind : (p q : Piece) (ps qs : List Piece) (s t : List ℕ) → p.found ≡ q.found → GoesOn ps s qs t ⊎ GoesOn qs t ps s → GoesOn (p ∷ ps) s (q ∷ qs) t ⊎ GoesOn (q ∷ qs) t (p ∷ ps) s
either_behind p q ps qs s t e (inl h) = inl (goes_on_behind p q ps qs s t e h)
either_behind p q ps qs s t e (inr h) = inr (goes_on_behind q p qs ps t s (sym e) h)

pub one_goes_on : (text : List ℕ) (ps qs : List Piece) (s t : List ℕ) → Cuts text ps s → Cuts text qs t → GoesOn ps s qs t ⊎ GoesOn qs t ps s
one_goes_on text [] qs s t h j = inl (record { more = qs; cut = subst (λ (ys : List ℕ). Cuts ys qs t) h j; found = refl })
one_goes_on text (p ∷ ps) [] s t h j = inr (record { more = p ∷ ps; cut = subst (λ (ys : List ℕ). Cuts ys (p ∷ ps) s) j h; found = refl })
one_goes_on text (p ∷ ps) (q ∷ qs) s t h j =
    let first = one_first text p q ps qs s t h j in
    either_behind p q ps qs s t first.found (one_goes_on h.0 ps qs s t h.4 (subst (λ (ys : List ℕ). Cuts ys qs t) (sym first.rest) j.4))

-- two whole cuttings have the same lexemes
whole_goes_on : (ps qs : List Piece) → GoesOn ps [] qs [] → lexemes ps ≡ lexemes qs
whole_goes_on ps qs h = sym (append-nil (lexemes ps)) ∙ ap (λ (xs : List Lexeme). lexemes ps ++ xs) (no_more h.more h.cut) ∙ sym h.found
  where
    no_more : (more : List Piece) → Cuts [] more [] → [] ≡ lexemes more
    no_more [] c = refl
    no_more (p ∷ more) c = absurd (none_cut [] p more [] refl c)

pub one_cutting : (text : List ℕ) (ps qs : List Piece) → Cuts text ps [] → Cuts text qs [] → lexemes ps ≡ lexemes qs
one_cutting text ps qs h j = either (one_goes_on text ps qs [] [] h j)
  where
    either : GoesOn ps [] qs [] ⊎ GoesOn qs [] ps [] → lexemes ps ≡ lexemes qs
    either (inl k) = whole_goes_on ps qs k
    either (inr k) = sym (whole_goes_on qs ps k)
