-- Lemmas on runs: one more batch, and the items of the lines of two texts.
use Rattle.std.proofs.Common.{◌≡◌, ℕ, ◌+◌, List, [], ◌∷◌, ◌++◌, length, refl, sym, ap, ◌∙◌, subst, append_assoc, append-nil, arith, add-zero, option_to_list}
use Rattle.server_shell.specs.Runs.{Runs}
use Rattle.server_shell.specs.Service.{Service, read_lines}

module _ {S B R : Type 0} (answers : S → B → List R → Type 0) (after : S → B → List R
    → S) (b : B) (now : List R) where
  -- one more batch
  pub Runs-more : (bs : List B) (s t : S) (replies : List R) → Runs answers after s bs replies t
      → answers t b now
      → Runs answers after s (bs ++ b ∷ []) (replies ++ now) (after t b now)
  Runs-more [] s t replies r a = (
    now,
    [],
    ap (λ l. l ++ now) r.0 ∙ sym (append-nil now),
    subst (λ v. answers v b now) r.1 a,
    (refl, ap (λ v. after v b now) r.1),
  )
  Runs-more (first ∷ bs) s t replies (fore, later, whole, answered, rest) a = (
    fore,
    later ++ now,
    ap (λ l. l ++ now) whole ∙ append_assoc fore later now,
    answered,
    Runs-more bs (after s first fore) t later rest a,
  )

module _ {S C L R : Type 0} (service : Service S C L R) where
  pub read_lines-append : (n : ℕ) (xs ys : List (List ℕ))
      → read_lines service n (xs ++ ys) ≡ read_lines service n xs ++ read_lines service
      (n + length xs) ys
  read_lines-append n [] ys = ap (λ k. read_lines service k ys) (sym (add-zero n))
  read_lines-append n (x ∷ xs) ys =
      let e : (n + 1) + length xs ≡ n + length (x ∷ xs) = omega arith in
      let first = option_to_list (service.read n x) in
      ap (λ l. first ++ l)
      (read_lines-append (n + 1) xs ys
      ∙ ap (λ k. read_lines service (n + 1) xs ++ read_lines service k ys) e)
      ∙ sym (append_assoc first (read_lines service (n + 1) xs) _)
