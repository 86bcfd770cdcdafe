-- The place after one more character.
use Rattle.std.proofs.Common.{◌≡◌, ℕ, suc, ◌+◌, ◌≤◌, Bool, true, false, cond, not, ◌==◌, ◌||◌, ◌&&◌, List, [], ◌∷◌, ◌++◌, length, get_or, sub-one, refl, ap, ◌∙◌, sym, arith}
use Rattle.std.specs.Prelude.{count_by}
use Rattle.std.specs.List.{suffix_len, prefix_len, zip}
use Rattle.std.proofs.lemmas.List.{reverse-append}
use Rattle.std.proofs.lemmas.List.Sums.{sum_by_push, count_by-le-length, suffix_len-le-length}
use Rattle.std.proofs.lemmas.Slice.Zip.{length-zip}
use lib.Dec.{eqb-suc-zero}
use borrow.Author.Tests.{eqb-true}
use Rattle.vg_base.specs.Places.{ends_line, is_within_line, last_of, takes_column, without_mark, line_ends, place_after}

-- the last character, or the one before the first
last_from : ℕ → List ℕ → ℕ
last_from before [] = before
last_from before (c ∷ cs) = last_from c cs

last_from-is : (c : ℕ) (cs : List ℕ) → get_or (c ∷ cs) (length cs) 0 ≡ last_from c cs
unfolding last_from
last_from-is c [] = refl
last_from-is c (d ∷ cs) = last_from-is d cs

last_of-is : (front : List ℕ) → last_of front ≡ last_from 0 front
unfolding last_from
last_of-is [] = refl
last_of-is (c ∷ cs) = rw sub-one (last_from-is c cs)

zip-push : (before : ℕ) (cs : List ℕ) (c : ℕ) → zip (before ∷ (cs ++ c ∷ [])) (cs ++ c ∷ []) ≡ zip (before ∷ cs) cs ++ (last_from before cs, c) ∷ []
unfolding last_from
zip-push before [] c = refl
zip-push before (x ∷ cs) c = ap (λ l. (before, x) ∷ l) (zip-push x cs c)

pub line_ends-push : (front : List ℕ) (c : ℕ) → line_ends (front ++ c ∷ []) ≡ line_ends front + cond (ends_line (last_of front) c) 1 0
line_ends-push front c =
    ap (λ l. count_by (λ pair. ends_line pair.0 pair.1) l) (zip-push 0 front c)
    ∙ (sum_by_push (λ pair. cond (ends_line pair.0 pair.1) 1 0) (zip (0 ∷ front) front) (last_from 0 front, c)
    ∙ ap (λ d. line_ends front + cond (ends_line d c) 1 0) (sym (last_of-is front)))

suffix_len-push : (p : ℕ → Bool) (xs : List ℕ) (c : ℕ) → suffix_len p (xs ++ c ∷ []) ≡ cond (p c) (1 + suffix_len p xs) 0
suffix_len-push p xs c = ap (prefix_len p) (reverse-append xs (c ∷ []))

-- the mark is looked for at the start alone
without_mark-push : (x : ℕ) (xs : List ℕ) (c : ℕ) → without_mark ((x ∷ xs) ++ c ∷ []) ≡ without_mark (x ∷ xs) ++ c ∷ []
without_mark-push x xs c = either (x == 0xFEFF)
  where
    either : (b : Bool) → cond b (xs ++ c ∷ []) (x ∷ (xs ++ c ∷ [])) ≡ cond b xs (x ∷ xs) ++ c ∷ []
    either true = refl
    either false = refl

-- how many characters the open line has
pub open_line : List ℕ → ℕ
open_line front = suffix_len is_within_line (without_mark front)

open_line-first : (c : ℕ) → open_line (c ∷ []) ≡ cond (takes_column [] c) 1 0
unfolding open_line
open_line-first c = either (c == 0xFEFF) (is_within_line c) refl
  where
    either : (b w : Bool) → is_within_line c ≡ w → suffix_len is_within_line (cond b [] (c ∷ [])) ≡ cond (w && not (b && true)) 1 0
    either true true e = refl
    either true false e = refl
    either false true e = ap (λ v. cond v 1 0) e
    either false false e = ap (λ v. cond v 1 0) e

open_line-on : (x : ℕ) (xs : List ℕ) (c : ℕ) → open_line ((x ∷ xs) ++ c ∷ []) ≡ cond (is_within_line c) (1 + open_line (x ∷ xs)) 0
unfolding open_line
open_line-on x xs c = ap (suffix_len is_within_line) (without_mark-push x xs c) ∙ suffix_len-push is_within_line (without_mark (x ∷ xs)) c

-- the next character takes a column, or ends the line, or leaves the column
open_line-push : (front : List ℕ) (c : ℕ) → open_line (front ++ c ∷ []) ≡ cond (takes_column front c) (1 + open_line front) (cond (is_within_line c) (open_line front) 0)
unfolding open_line
open_line-push [] c = open_line-first c ∙ either (takes_column [] c) (is_within_line c)
  where
    either : (t w : Bool) → ◌≡◌ {A = ℕ} (cond t 1 0) (cond t 1 (cond w 0 0))
    either true w = refl
    either false true = refl
    either false false = refl
open_line-push (x ∷ xs) c = open_line-on x xs c ∙ either (is_within_line c) (c == 0xFEFF) (suc (length xs) == 0) (open_line (x ∷ xs)) (eqb-suc-zero (length xs))
  where
    either : (w b z : Bool) (n : ℕ) → z ≡ false → cond w (1 + n) 0 ≡ cond (w && not (b && z)) (1 + n) (cond w n 0)
    either true true true n e = absurd cc
    either true true false n e = refl
    either true false z n e = refl
    either false b z n e = refl

-- a character that is not within a line closes it
open_line-closed : (front : List ℕ) (c : ℕ) → is_within_line c ≡ false → open_line (front ++ c ∷ []) ≡ 0
open_line-closed front c h = open_line-push front c ∙ either (is_within_line c) (not (c == 0xFEFF && length front == 0)) (open_line front) h
  where
    either : (w b : Bool) (n : ℕ) → w ≡ false → cond (w && b) (1 + n) (cond w n 0) ≡ 0
    either true b n e = absurd cc
    either false b n e = refl

split_last : (x : ℕ) (xs : List ℕ) → (front : List ℕ) × (x ∷ xs ≡ front ++ last_from x xs ∷ [])
unfolding last_from
split_last x [] = ([], refl)
split_last x (y ∷ xs) = let rest = split_last y xs in (x ∷ rest.0, ap (λ l. x ∷ l) rest.1)

-- behind a carriage return no column is taken yet
open_line-after_return : (front : List ℕ) → last_of front ≡ 13 → open_line front ≡ 0
unfolding last_from
open_line-after_return [] e = absurd cc
open_line-after_return (x ∷ xs) e =
    let last : last_from x xs ≡ 13 = sym (last_of-is (x ∷ xs)) ∙ e in
    let split = split_last x xs in
    ap open_line split.1 ∙ open_line-closed split.0 (last_from x xs) (ap is_within_line last)

-- what ends a line is not within it
not_within : (a f m : Bool) → (a || (f && not m)) ≡ true → not (a || f) ≡ false
not_within true f m e = refl
not_within false true m e = refl
not_within false false m e = absurd cc

-- a line feed that ends no line follows a carriage return
follows_return : (a f m : Bool) → (a || (f && not m)) ≡ false → not (a || f) ≡ false → m ≡ true
follows_return true f m e h = absurd cc
follows_return false true true e h = refl
follows_return false true false e h = absurd cc
follows_return false false m e h = absurd cc

line_after : (front : List ℕ) (c : ℕ) (ends : Bool) → ends_line (last_of front) c ≡ ends → line_ends (front ++ c ∷ []) ≡ line_ends front + cond ends 1 0
line_after front c ends e = line_ends-push front c ∙ ap (λ b. line_ends front + cond b 1 0) e

-- the place after one more character: behind a line end, in the next column, or where it was
pub place_after-end : (front : List ℕ) (c : ℕ) → ends_line (last_of front) c ≡ true → place_after (front ++ c ∷ []) ≡ record { line = (place_after front).line + 1; column = 1 }
unfolding open_line
place_after-end front c e =
    let line : 1 + line_ends (front ++ c ∷ []) ≡ 1 + line_ends front + 1 = omega (arith, line_after front c true e) in
    let column : 1 + open_line (front ++ c ∷ []) ≡ 1 = ap (λ n. 1 + n) (open_line-closed front c (not_within (c == 13) (c == 10) (last_of front == 13) e)) in
    λ i. record { line = line i; column = column i }

pub place_after-column : (front : List ℕ) (c : ℕ) → ends_line (last_of front) c ≡ false → takes_column front c ≡ true
    → place_after (front ++ c ∷ []) ≡ record { line = (place_after front).line; column = (place_after front).column + 1 }
unfolding open_line
place_after-column front c e t =
    let line : 1 + line_ends (front ++ c ∷ []) ≡ 1 + line_ends front = omega (arith, line_after front c false e) in
    let taken : open_line (front ++ c ∷ []) ≡ 1 + open_line front = open_line-push front c ∙ ap (λ b. cond b (1 + open_line front) (cond (is_within_line c) (open_line front) 0)) t in
    let column : 1 + open_line (front ++ c ∷ []) ≡ 1 + open_line front + 1 = omega (arith, taken) in
    λ i. record { line = line i; column = column i }

pub place_after-same : (front : List ℕ) (c : ℕ) → ends_line (last_of front) c ≡ false → takes_column front c ≡ false → place_after (front ++ c ∷ []) ≡ place_after front
unfolding open_line
place_after-same front c e t =
    let line : 1 + line_ends (front ++ c ∷ []) ≡ 1 + line_ends front = omega (arith, line_after front c false e) in
    let kept : open_line (front ++ c ∷ []) ≡ cond (is_within_line c) (open_line front) 0 = open_line-push front c ∙ ap (λ b. cond b (1 + open_line front) (cond (is_within_line c) (open_line front) 0)) t in
    let column : 1 + open_line (front ++ c ∷ []) ≡ 1 + open_line front = ap (λ n. 1 + n) (kept ∙ either (is_within_line c) refl) in
    λ i. record { line = line i; column = column i }
  where
    either : (w : Bool) → is_within_line c ≡ w → cond w (open_line front) 0 ≡ open_line front
    either true h = refl
    either false h = sym (open_line-after_return front (eqb-true (last_of front) 13 (follows_return (c == 13) (c == 10) (last_of front == 13) e h)))

-- no place lies further than its front is long
pub line-le-length : (front : List ℕ) → (place_after front).line ≤ 1 + length front
line-le-length front = omega (arith, count_by-le-length (λ pair. ends_line pair.0 pair.1) (zip (0 ∷ front) front), length-zip (0 ∷ front) front)

pub column-le-length : (front : List ℕ) → (place_after front).column ≤ 1 + length front
column-le-length front = omega (arith, suffix_len-le-length is_within_line (without_mark front), shorter front)
  where
    shorter : (cs : List ℕ) → length (without_mark cs) ≤ length cs
    shorter [] = omega arith
    shorter (c ∷ cs) = either (c == 0xFEFF)
      where
        either : (b : Bool) → length (cond b cs (c ∷ cs)) ≤ length (c ∷ cs)
        either true = omega arith
        either false = omega arith
