-- How what stands between two places of a list is cut and joined.
use Rattle.std.proofs.Common.{ℕ, ◌+◌, ◌-◌, ◌≤◌, ◌≡◌, List, [], ◌++◌, length, take, drop, refl, sym, ap, ◌∙◌, arith, length-append, length-drop}
use Rattle.std.specs.Prelude.{slice_range}
use Rattle.std.proofs.Math.Seq.{take-add, take-append_seam}
use Rattle.std.proofs.lemmas.List.{drop-drop, append_cancel_left, length-take}
use Rattle.grammar_tree.specs.Derives.{Words}

pub span_length : {X : Type 0} (ws : List X) (i j : ℕ) → i ≤ j → j ≤ length ws → length (slice_range ws i j) ≡ j - i
span_length ws i j le within = omega (arith, length-take (j - i) (drop i ws), length-drop i ws)

pub span_empty : {X : Type 0} (ws : List X) (i : ℕ) → slice_range ws i i ≡ []
span_empty ws i = let e : i - i ≡ 0 = omega arith in ap (λ n. take n (drop i ws)) e

pub span_join : {X : Type 0} (ws : List X) (i m j : ℕ) → i ≤ m → m ≤ j → slice_range ws i j ≡ slice_range ws i m ++ slice_range ws m j
span_join ws i m j le le' =
    let e : j - i ≡ (m - i) + (j - m) = omega arith in
    let f : i + (m - i) ≡ m = omega arith in
    ap (λ n. take n (drop i ws)) e ∙ take-add (m - i) (j - m) (drop i ws)
    ∙ ap (λ l. slice_range ws i m ++ take (j - m) l) (drop-drop (m - i) i ws ∙ ap (λ n. drop n ws) f)

-- where the words from i to j are cut
pub record Cut (ws : Words) (i j : ℕ) (front rest : Words) : Type 0 where
  pub place : ℕ
  pub after : i ≤ place
  pub before : place ≤ j
  pub is_front : front ≡ slice_range ws i place
  pub is_rest : rest ≡ slice_range ws place j
  pub size : i + length front ≡ place

pub span_cut : (ws : Words) (i j : ℕ) (u v : Words) → i ≤ j → j ≤ length ws → slice_range ws i j ≡ u ++ v → Cut ws i j u v
span_cut ws i j u v le within e =
    let len : j - i ≡ length u + length v = sym (span_length ws i j le within) ∙ ap length e ∙ length-append u v in
    let m = i + length u in
    let both : slice_range ws i m ++ slice_range ws m j ≡ u ++ v = sym (span_join ws i m j (omega arith) (omega arith)) ∙ e in
    let short : length (slice_range ws i m) ≡ length u = omega (arith, span_length ws i m (omega arith) (omega arith)) in
    let front : u ≡ slice_range ws i m =
    sym (take-append_seam u v) ∙ ap (λ l. take (length u) l) (sym both) ∙ ap (λ n. take n (slice_range ws i m ++ slice_range ws m j)) (sym short)
    ∙ take-append_seam (slice_range ws i m) (slice_range ws m j) in
    let back : v ≡ slice_range ws m j = append_cancel_left u v _ (sym both ∙ ap (λ l. l ++ slice_range ws m j) (sym front)) in
    record { place = m; after = omega arith; before = omega arith; is_front = front; is_rest = back; size = refl }
