-- One more word, joined to those before it.
use Rattle.std.proofs.Common.{◌≡◌, ℕ, ◌+◌, ◌<◌, List, [], ◌∷◌, ◌++◌, take, length, get_or, ap, sym, ◌∙◌, arith, append_assoc, length-take}
use Rattle.std.specs.List.{join_with_byte}
use Rattle.std.proofs.lemmas.List.{take_more}

join-push : (c : ℕ) (xs : List (List ℕ)) (x : List ℕ) → 0 < length xs → join_with_byte c (xs ++ x ∷ []) ≡ (join_with_byte c xs ++ c ∷ []) ++ x
join-push c [] x h = absurd (omega arith)
join-push c (y ∷ []) x h = sym (append_assoc y (c ∷ []) x)
join-push c (y ∷ z ∷ xs) x h =
    let more : 0 < length (z ∷ xs) = omega arith in
    ap (λ l. y ++ (c ∷ l)) (join-push c (z ∷ xs) x more) ∙ simp append_assoc

-- the words up to i, and the one at i
join-next : (c : ℕ) (words : List (List ℕ)) (i : ℕ) (word : List ℕ) → i < length words → word ≡ get_or words i word
    → join_with_byte c (take i words ++ word ∷ []) ≡ join_with_byte c (take (i + 1) words)
join-next c words i word h w = ap (λ x. join_with_byte c (take i words ++ x ∷ [])) w ∙ ap (join_with_byte c) (sym (take_more words i word h))

pub join-first : (c : ℕ) (words : List (List ℕ)) (i : ℕ) (word so_far : List ℕ) → i ≡ 0 → i < length words → word ≡ get_or words i word → so_far ≡ join_with_byte c (take i words)
    → so_far ++ word ≡ join_with_byte c (take (i + 1) words)
join-first c words i word so_far z h w e =
    let start : so_far ≡ [] = e ∙ ap (λ n. join_with_byte c (take n words)) z in
    ap (λ l. l ++ word) start ∙ (sym (ap (λ n. join_with_byte c (take n words ++ word ∷ [])) z) ∙ join-next c words i word h w)

pub join-more : (c : ℕ) (words : List (List ℕ)) (i : ℕ) (word so_far : List ℕ) → 0 < i → i < length words → word ≡ get_or words i word → so_far ≡ join_with_byte c (take i words)
    → (so_far ++ c ∷ []) ++ word ≡ join_with_byte c (take (i + 1) words)
join-more c words i word so_far pos h w e =
    let some : 0 < length (take i words) = omega (arith, length-take i words) in
    ap (λ l. (l ++ c ∷ []) ++ word) e ∙ (sym (join-push c (take i words) word some) ∙ join-next c words i word h w)
