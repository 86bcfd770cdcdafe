-- A string decoded character by character: what is decoded so far, and what the rest decodes to.
use Rattle.std.proofs.Common.{◌≡◌, ℕ, zero, suc, ◌+◌, ◌-◌, ◌<◌, ◌≤◌, Bool, true, cond, [], ◌∷◌, ◌++◌, length, take, drop, Option, Some, None, refl, sym, ap, subst, ◌∙◌, append_assoc, length-append, arith, List}
use Rattle.std.proofs.lemmas.List.{take_rest, drop-drop, drop_at, length-drop}
use Rattle.std.specs.Prelude.{◌==◌}
use Rattle.script_reader.specs.declared.lexing.strings.Spelled.{Spelled}
use Rattle.script_reader.specs.code.Decoding.{first, decode, bump, bump_with, is_closed}
use Rattle.script_reader.proofs.StringForms.{Spells, SpellsIf, first_spells, bumps, bumps_some, decode_past}

-- what is decoded already, and how many characters spelled it, before what the rest decodes to
abbrev pub behind : List ℕ → ℕ → Option (List ℕ × ℕ) → Option (List ℕ × ℕ)
behind decoded len None = None
behind decoded len (Some found) = Some (decoded ++ found.0, len + found.1)

-- the slice of a text from a place on
abbrev pub from : ℕ → List ℕ → List ℕ
from at text = take (length text - at) (drop at text)

from_is : {A : Type 0} (f : List ℕ → A) (text : List ℕ) (at : ℕ) (x : A) → f (from at text) ≡ x → f (drop at text) ≡ x
from_is f text at x e = ap f (sym (take_rest text at)) ∙ e

-- the invariant of the loop
pub record SoFar (quote : ℕ) (text decoded : List ℕ) (at : ℕ) : Type 0 where
  pub same : behind decoded at (decode quote 0 (drop at text)) ≡ decode quote 0 text
  pub within : at ≤ length text

behind_behind : (a b : List ℕ) (n m : ℕ) (o : Option (List ℕ × ℕ)) → behind a n (behind b m o) ≡ behind (a ++ b) (n + m) o
behind_behind a b n m None = refl
behind_behind a b n m (Some found) =
    ap (λ (ys : List ℕ). Some (ys, n + (m + found.1))) (sym (append_assoc a b found.0)) ∙ ap (λ k. Some ((a ++ b) ++ found.0, k)) (omega arith)

bumps_none : (n : ℕ) → bumps n None ≡ None
bumps_none zero = refl
bumps_none (suc n) = ap bump (bumps_none n)

bumped : (c n : ℕ) (o : Option (List ℕ × ℕ)) → bump_with c (bumps n o) ≡ behind (c ∷ []) (suc n) o
bumped c n None = ap (bump_with c) (bumps_none n)
bumped c n (Some found) = ap (bump_with c) (bumps_some n found.0 found.1) ∙ ap (λ k. Some (c ∷ found.0, k)) (longer n found.1)
  where
    longer : (a b : ℕ) → suc (a + b) ≡ suc a + b
    longer a b = omega arith

decode_one : (quote : ℕ) (slice rest : List ℕ) (s : Spelled) → s.len ≡ length slice → 0 < length slice → first quote (slice ++ rest) ≡ Some s
    → decode quote 0 (slice ++ rest) ≡ behind (s.character ∷ []) s.len (decode quote 0 rest)
unfolding decode
decode_one quote [] rest s l lt f = absurd (omega arith)
decode_one quote (x ∷ slice) rest s l lt f =
    ap (λ (o : Option Spelled). elim o [ Some s ↦ bump_with s.character (decode quote (s.len - 1) (slice ++ rest)) | None ↦ cond (x == quote) (Some ([], 1)) None ]) f
    ∙ ap (λ k. bump_with s.character (decode quote k (slice ++ rest))) (less s.len (length slice) l)
    ∙ ap (bump_with s.character) (decode_past quote slice rest)
    ∙ bumped s.character (length slice) (decode quote 0 rest)
    ∙ ap (λ k. behind (s.character ∷ []) k (decode quote 0 rest)) (sym l)
  where
    less : (a b : ℕ) → a ≡ suc b → a - 1 ≡ b
    less a b e = omega arith

pub record Moves (quote : ℕ) (text decoded : List ℕ) (at : ℕ) (s : Spelled) : Type 0 where
  pub some : 0 < s.len
  pub fits : at + s.len ≤ length text
  pub next : SoFar quote text (decoded ++ s.character ∷ []) (at + s.len)

pub moves : (quote : ℕ) (text decoded : List ℕ) (at : ℕ) (s : Spelled) → SoFar quote text decoded at → first quote (from at text) ≡ Some s → Moves quote text decoded at s
moves quote text decoded at s h f =
    let q : Spells quote (drop at text) s = subst (SpellsIf quote (drop at text)) found (first_spells quote (drop at text)) in
    by_slice q.slice q.rest q.text_is q.len_is q.some
  where
    found : first quote (drop at text) ≡ Some s
    found = from_is (first quote) text at (Some s) f

    by_slice : (slice rest : List ℕ) → drop at text ≡ slice ++ rest → s.len ≡ length slice → 0 < length slice → Moves quote text decoded at s
    by_slice slice rest t l lt =
        let fits = in_text (length slice) (length rest) s.len (length text) h.within (sym (length-drop at text) ∙ ap length t ∙ length-append slice rest) l in
        let left : drop (at + s.len) text ≡ rest = sym (drop-drop s.len at text) ∙ ap (drop s.len) t ∙ ap (λ k. drop k (slice ++ rest)) l ∙ drop_at slice rest (length slice) refl in
        let one = decode_one quote slice rest s l lt (ap (first quote) (sym t) ∙ found) in
        record {
          some = subst (λ k. 0 < k) (sym l) lt;
          fits = fits;
          next = record {
            same = sym (behind_behind decoded (s.character ∷ []) at s.len (decode quote 0 (drop (at + s.len) text)))
                ∙ ap (λ (ys : List ℕ). behind decoded at (behind (s.character ∷ []) s.len (decode quote 0 ys))) left
                ∙ ap (behind decoded at) (sym one ∙ ap (decode quote 0) (sym t)) ∙ h.same;
            within = fits;
          };
        }
      where
        in_text : (a b n len : ℕ) → at ≤ len → len - at ≡ a + b → n ≡ a → at + n ≤ len
        in_text a b n len h e l = omega arith

decode_end : (quote : ℕ) (text : List ℕ) → first quote text ≡ None → decode quote 0 text ≡ cond (is_closed quote text) (Some ([], 1)) None
unfolding decode
decode_end quote [] f = refl
decode_end quote (c ∷ rest) f =
    ap (λ (o : Option Spelled). elim o [ Some s ↦ bump_with s.character (decode quote (s.len - 1) rest) | None ↦ cond (c == quote) (Some ([], 1)) None ]) f

pub ends : (quote : ℕ) (text decoded : List ℕ) (at : ℕ) → SoFar quote text decoded at → first quote (from at text) ≡ None → (b : Bool) → is_closed quote (from at text) ≡ b
    → behind decoded at (cond b (Some ([], 1)) None) ≡ decode quote 0 text
ends quote text decoded at h f b e =
    ap (behind decoded at) (sym (decode_end quote (drop at text) (from_is (first quote) text at None f) ∙ ap (λ t. cond t (Some ([], 1)) None) (from_is (is_closed quote) text at b e))) ∙ h.same

-- a closing quote stands within the text
pub closed_within : (quote : ℕ) (text : List ℕ) (at : ℕ) → is_closed quote (from at text) ≡ true → at + 1 ≤ length text
closed_within quote text at e = one_more (length (drop at text)) (length text) (some (drop at text) (from_is (is_closed quote) text at true e)) (length-drop at text)
  where
    some : (rest : List ℕ) → is_closed quote rest ≡ true → 0 < length rest
    some [] e = cc
    some (c ∷ rest) e = omega arith

    one_more : (n len : ℕ) → 0 < n → n ≡ len - at → at + 1 ≤ len
    one_more n len h e = omega arith
