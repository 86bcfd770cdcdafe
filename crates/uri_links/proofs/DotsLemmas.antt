-- A path without its dot segments.
use Rattle.std.proofs.Common.{◌≡◌, ◌≢◌, ℕ, zero, suc, ◌+◌, ◌<◌, ◌≤◌, true, false, ◌||◌, cond, eqb, List, [], ◌∷◌, ◌++◌, length, get_or, take, drop, refl, ap, sym, ◌∙◌, subst, ◌⊎◌, inl, inr, arith, codes}
use Rattle.std.proofs.lemmas.List.{length-append, length-drop, get_or_at, drop_at}
use Rattle.std.proofs.lemmas.Str.{IsUtf8-nil, IsUtf8-drop, IsCharBoundary-before_ascii}
use Rattle.std.proofs.lemmas.Bool.{cases_Bool, cond_both, cond-false, false_from_ne_true, or_from, ne_eqb}
use Rattle.std.proofs.lemmas.Bool.Decides.{Decides-eqb}
use Rattle.std.proofs.lemmas.Slice.Eq.{starts_is, bytes_eq-Decides}
use Rattle.std.specs.List.{starts_with}
use Rattle.std.specs.Str.{bytes_eq, IsUtf8}
use Rattle.uri_links.specs.Split.{has, before, from, before_last, slash}
use Rattle.uri_links.specs.code.Kinds.{IsPlain, or_slash, behind_slash}
use Rattle.uri_links.specs.Dots.{Buffers, first_segment, after_segment, step, steps}
use Rattle.uri_links.proofs.SplitLemmas.{before-none, from-none, before-found, from-found, parted, rooted-from}
use Rattle.uri_links.specs.Parts.{IsEmptyOrRooted}

-- the first segment, where the path begins with a slash and the next is found or not
pub segment_to : (path inner : List ℕ) (k : ℕ) → path ≡ slash ∷ inner → k < length inner → get_or inner k 0 ≡ slash → ((i : ℕ) → i < k → get_or inner i 0 ≢ slash)
    → (first_segment path ≡ take (k + 1) path) × (after_segment path ≡ drop (k + 1) path)
segment_to path inner k e l s h = rw e (
  ap (λ r. slash ∷ r) (before-found slash inner k l s h) ∙ one_more k,
  from-found slash inner k l s h ∙ one_past k,
)
  where
    one_more : (k : ℕ) → slash ∷ take k inner ≡ take (k + 1) (slash ∷ inner)
    one_more k = let n : k + 1 ≡ suc k = omega arith in rw n refl

    one_past : (k : ℕ) → drop k inner ≡ drop (k + 1) (slash ∷ inner)
    one_past k = let n : k + 1 ≡ suc k = omega arith in rw n refl

pub segment_all : (path inner : List ℕ) → path ≡ slash ∷ inner → has slash inner ≡ false
    → (first_segment path ≡ path) × (after_segment path ≡ [])
segment_all path inner e n = rw e (ap (λ r. slash ∷ r) (before-none slash inner n), from-none slash inner n)

-- where the path begins with no slash
pub segment_bare : (path : List ℕ) → ((rest : List ℕ) → path ≢ slash ∷ rest)
    → (first_segment path ≡ before slash path) × (after_segment path ≡ from slash path)
segment_bare [] h = (refl, refl)
segment_bare (c ∷ path) h =
    let n : eqb c slash ≡ false = ne_eqb c slash (λ e. h path (ap (λ x. x ∷ path) e)) in
    (sym (ap (λ b. cond b [] (c ∷ before slash path)) n), sym (ap (λ b. cond b (c ∷ path) (from slash path)) n))

pub segment_whole : (path : List ℕ) → path ≡ first_segment path ++ after_segment path
segment_whole [] = refl
segment_whole (c ∷ path) = ap (λ l. c ∷ l) (sym (parted slash path))

pub after_rooted : (path : List ℕ) → IsEmptyOrRooted (after_segment path)
after_rooted [] = tt
after_rooted (c ∷ path) = rooted-from path

from_begins : (i front : List ℕ) → starts_with eqb i front ≡ true → i ≡ front ++ drop (length front) i
from_begins i front = (starts_is Decides-eqb i front (starts_with eqb i front) refl).0

from_same : (i whole : List ℕ) → bytes_eq i whole ≡ true → i ≡ whole
from_same i whole = (bytes_eq-Decides i whole).0

length-from : (c : ℕ) (xs : List ℕ) → length (from c xs) ≤ length xs
length-from c xs = omega (arith, ap length (parted c xs), length-append (before c xs) (from c xs))

-- a step shortens the input
shorter : (c : ℕ) (i o : List ℕ) → length (step (record { input = c ∷ i; output = o })).input < suc (length i)
unfolding step
shorter c i o =
    cond_both (starts_with eqb (c ∷ i) (codes "../")) _ _ P (λ h. omega (arith, length-drop 2 i)) (λ h.
    cond_both (starts_with eqb (c ∷ i) (codes "./")) _ _ P (λ h. omega (arith, length-drop 1 i)) (λ h.
    cond_both (starts_with eqb (c ∷ i) (codes "/./")) _ _ P (λ h. omega (arith, length-drop 1 i)) (λ h.
    cond_both (bytes_eq (c ∷ i) (codes "/.")) _ _ P (λ h. omega (arith, ap length (from_same (c ∷ i) (codes "/.") h))) (λ h.
    cond_both (starts_with eqb (c ∷ i) (codes "/../")) _ _ P (λ h. omega (arith, length-drop 2 i)) (λ h.
    cond_both (bytes_eq (c ∷ i) (codes "/..")) _ _ P (λ h. omega (arith, ap length (from_same (c ∷ i) (codes "/..") h))) (λ h.
    cond_both (bytes_eq (c ∷ i) (codes ".") || bytes_eq (c ∷ i) (codes "..")) _ _ P (λ h. omega arith) (λ h. omega (arith, length-from slash i))))))))
  where
    P : Buffers → Type 0
    P b = length b.input < suc (length i)

-- more steps than the input has characters change nothing
enough : (n m : ℕ) (i o : List ℕ) → length i ≤ n → length i ≤ m → steps n (record { input = i; output = o }) ≡ steps m (record { input = i; output = o })
unfolding steps
enough zero zero i o h g = refl
enough zero (suc m) [] o h g = refl
enough zero (suc m) (c ∷ i) o h g = absurd (omega arith)
enough (suc n) zero [] o h g = refl
enough (suc n) zero (c ∷ i) o h g = absurd (omega arith)
enough (suc n) (suc m) [] o h g = refl
enough (suc n) (suc m) (c ∷ i) o h g =
    let next = step (record { input = c ∷ i; output = o }) in
    let less = shorter c i o in
    enough n m next.input next.output (omega (arith, less, h)) (omega (arith, less, g))

-- what the steps make of these buffers
abbrev pub removed : List ℕ → List ℕ → Buffers
removed i o = steps (length i) (record { input = i; output = o })

removed-step : (c : ℕ) (i o : List ℕ) → removed (c ∷ i) o ≡ (let b = step (record { input = c ∷ i; output = o }) in removed b.input b.output)
unfolding steps
removed-step c i o =
    let next = step (record { input = c ∷ i; output = o }) in
    enough (length i) (length next.input) next.input next.output (omega (arith, shorter c i o)) (omega arith)

ends : (n : ℕ) (i o : List ℕ) → length i ≤ n → (steps n (record { input = i; output = o })).input ≡ []
unfolding steps
ends zero [] o h = refl
ends zero (c ∷ i) o h = absurd (omega arith)
ends (suc n) [] o h = refl
ends (suc n) (c ∷ i) o h = let next = step (record { input = c ∷ i; output = o }) in ends n next.input next.output (omega (arith, shorter c i o, h))

pub removed-ended : (path : List ℕ) (o : List ℕ) → (removed path o).input ≡ []
removed-ended path o = ends (length path) path o (omega arith)

pub removed-empty : (rest o : List ℕ) → length rest ≡ 0 → (removed rest o).output ≡ o
unfolding steps
removed-empty [] o h = refl
removed-empty (c ∷ rest) o h = absurd (omega arith)

-- The steps, by the first segment of the input.
pub one_dot : (path o : List ℕ) → first_segment path ≡ codes "." → removed path o ≡ removed (behind_slash (after_segment path)) o
unfolding step
one_dot path o e = ap (λ p. removed p o) (segment_whole path ∙ ap (λ s. s ++ after_segment path) e) ∙ go (after_segment path) (after_rooted path)
  where
    go : (aft : List ℕ) → IsEmptyOrRooted aft → removed (46 ∷ aft) o ≡ removed (behind_slash aft) o
    go [] h = removed-step 46 [] o
    go (x ∷ t) h = subst (λ y. removed (46 ∷ y ∷ t) o ≡ removed (behind_slash (y ∷ t)) o) (sym h) (removed-step 46 (47 ∷ t) o)

pub two_dots : (path o : List ℕ) → first_segment path ≡ codes ".." → removed path o ≡ removed (behind_slash (after_segment path)) o
unfolding step
two_dots path o e = ap (λ p. removed p o) (segment_whole path ∙ ap (λ s. s ++ after_segment path) e) ∙ go (after_segment path) (after_rooted path)
  where
    go : (aft : List ℕ) → IsEmptyOrRooted aft → removed (46 ∷ 46 ∷ aft) o ≡ removed (behind_slash aft) o
    go [] h = removed-step 46 (46 ∷ []) o
    go (x ∷ t) h = subst (λ y. removed (46 ∷ 46 ∷ y ∷ t) o ≡ removed (behind_slash (y ∷ t)) o) (sym h) (removed-step 46 (46 ∷ 47 ∷ t) o)

pub slash_dot : (path o : List ℕ) → first_segment path ≡ codes "/." → removed path o ≡ removed (or_slash (after_segment path)) o
unfolding step
slash_dot path o e = ap (λ p. removed p o) (segment_whole path ∙ ap (λ s. s ++ after_segment path) e) ∙ go (after_segment path) (after_rooted path)
  where
    go : (aft : List ℕ) → IsEmptyOrRooted aft → removed (47 ∷ 46 ∷ aft) o ≡ removed (or_slash aft) o
    go [] h = removed-step 47 (46 ∷ []) o
    go (x ∷ t) h = subst (λ y. removed (47 ∷ 46 ∷ y ∷ t) o ≡ removed (y ∷ t) o) (sym h) (removed-step 47 (46 ∷ 47 ∷ t) o)

pub slash_dots : (path o : List ℕ) → first_segment path ≡ codes "/.." → removed path o ≡ removed (or_slash (after_segment path)) (before_last slash o)
unfolding step
slash_dots path o e = ap (λ p. removed p o) (segment_whole path ∙ ap (λ s. s ++ after_segment path) e) ∙ go (after_segment path) (after_rooted path)
  where
    go : (aft : List ℕ) → IsEmptyOrRooted aft → removed (47 ∷ 46 ∷ 46 ∷ aft) o ≡ removed (or_slash aft) (before_last slash o)
    go [] h = removed-step 47 (46 ∷ 46 ∷ []) o
    go (x ∷ t) h = subst (λ y. removed (47 ∷ 46 ∷ 46 ∷ y ∷ t) o ≡ removed (y ∷ t) (before_last slash o)) (sym h) (removed-step 47 (46 ∷ 46 ∷ 47 ∷ t) o)

step-plain : (path o : List ℕ) → IsPlain (first_segment path)
    → step (record { input = path; output = o }) ≡ record { input = after_segment path; output = o ++ first_segment path }
unfolding step
step-plain path o p =
    cond-false _ _ _ (false_from_ne_true _ (λ h. p.two (ap first_segment (from_begins path (codes "../") h))))
    ∙ (cond-false _ _ _ (false_from_ne_true _ (λ h. p.one (ap first_segment (from_begins path (codes "./") h))))
    ∙ (cond-false _ _ _ (false_from_ne_true _ (λ h. p.slash_one (ap first_segment (from_begins path (codes "/./") h))))
    ∙ (cond-false _ _ _ (false_from_ne_true _ (λ h. p.slash_one (ap first_segment (from_same path (codes "/.") h))))
    ∙ (cond-false _ _ _ (false_from_ne_true _ (λ h. p.slash_two (ap first_segment (from_begins path (codes "/../") h))))
    ∙ (cond-false _ _ _ (false_from_ne_true _ (λ h. p.slash_two (ap first_segment (from_same path (codes "/..") h))))
    ∙ cond-false _ _ _ (or_from (bytes_eq path (codes ".")) (bytes_eq path (codes ".."))
    (false_from_ne_true _ (λ h. p.one (ap first_segment (from_same path (codes ".") h))))
    (false_from_ne_true _ (λ h. p.two (ap first_segment (from_same path (codes "..") h))))))))))

pub plain : (path o : List ℕ) → 0 < length path → IsPlain (first_segment path) → removed path o ≡ removed (after_segment path) (o ++ first_segment path)
plain [] o h p = absurd (omega arith)
plain (c ∷ path) o h p = removed-step c path o ∙ ap (λ b. removed b.input b.output) (step-plain (c ∷ path) o p)

or_slash_length : (r : List ℕ) → length (or_slash r) ≤ length r + 1
or_slash_length [] = omega arith
or_slash_length (x ∷ r) = omega arith

-- The same, as the loop has it: what is left after a segment and the rest behind it.
abbrev pub SplitsOff : List ℕ → List ℕ → List ℕ → Type 0
SplitsOff path segment rest = (segment ≡ first_segment path) × (rest ≡ after_segment path)

module _ (path segment rest : List ℕ) (s : SplitsOff path segment rest) where
  together : path ≡ segment ++ rest
  together = segment_whole path ∙ (ap (λ a. a ++ after_segment path) (sym s.0) ∙ ap (λ b. segment ++ b) (sym s.1))

  rooted : IsEmptyOrRooted rest
  rooted = subst IsEmptyOrRooted (sym s.1) (after_rooted path)

  -- the rest is text where the path is
  pub rest_utf8 : IsUtf8 path → IsUtf8 rest
  rest_utf8 u = go rest together rooted
    where
      go : (r : List ℕ) → path ≡ segment ++ r → IsEmptyOrRooted r → IsUtf8 r
      go [] e h = IsUtf8-nil
      go (x ∷ r) e h =
          let here : get_or path (length segment) 0 ≡ slash = ap (λ p. get_or p (length segment) 0) e ∙ (get_or_at segment x r 0 (length segment) refl ∙ h) in
          let within : length segment < length path = omega (arith, ap length e, length-append segment (x ∷ r)) in
          subst IsUtf8 (ap (drop (length segment)) e ∙ drop_at segment (x ∷ r) (length segment) refl)
          (IsUtf8-drop path (length segment) u (IsCharBoundary-before_ascii path (length segment) within (omega (arith, here))))

  pub bare_goes : (o : List ℕ) → (segment ≡ codes ".") ⊎ (segment ≡ codes "..")
      → (removed path o ≡ removed (behind_slash rest) o) × (length (behind_slash rest) < length path)
  bare_goes o h = rw s.1 (
    elim h [ inl e ↦ one_dot path o (sym s.0 ∙ e) | inr e ↦ two_dots path o (sym s.0 ∙ e) ],
    omega (arith, ap length together, length-append segment rest, not_empty, skipped (after_segment path), ap length s.1),
  )
    where
      not_empty : 0 < length segment
      not_empty = elim h [ inl e ↦ omega (arith, ap length e) | inr e ↦ omega (arith, ap length e) ]

      skipped : (r : List ℕ) → length (behind_slash r) ≤ length r
      skipped [] = omega arith
      skipped (x ∷ r) = elim (cases_Bool (eqb x slash)) [
        | inl e ↦ omega (arith, ap (λ b. length (cond b r (x ∷ r))) e)
        | inr e ↦ omega (arith, ap (λ b. length (cond b r (x ∷ r))) e)
      ]

  pub here_goes : (o : List ℕ) → segment ≡ codes "/." → (removed path o ≡ removed (or_slash rest) o) × (length (or_slash rest) < length path)
  here_goes o e = rw s.1 (
    slash_dot path o (sym s.0 ∙ e),
    omega (arith, ap length together, length-append segment rest, ap length e, or_slash_length (after_segment path), ap length s.1),
  )

  pub up_goes : (o : List ℕ) → segment ≡ codes "/.." → (removed path o ≡ removed (or_slash rest) (before_last slash o)) × (length (or_slash rest) < length path)
  up_goes o e = rw s.1 (
    slash_dots path o (sym s.0 ∙ e),
    omega (arith, ap length together, length-append segment rest, ap length e, or_slash_length (after_segment path), ap length s.1),
  )

  pub plain_goes : (o : List ℕ) → 0 < length path → IsPlain segment → (removed path o ≡ removed rest (o ++ segment)) × (length rest < length path)
  plain_goes o h p = rw (s.0, s.1) (plain path o h (subst IsPlain s.0 p), go path h)
    where
      go : (p : List ℕ) → 0 < length p → length (after_segment p) < length p
      go [] h = absurd (omega arith)
      go (x ∷ p) h = omega (arith, length-from slash p)
