-- The search for the end of a comment.
use Rattle.std.proofs.Common.{◌≡◌, ℕ, ◌+◌, ◌<◌, ◌≤◌, Bool, true, false, cond, ◌&&◌, ◌==◌, Option, Some, None, List, [], ◌∷◌, length, get_or, drop, refl, sym, ap, ◌∙◌, arith, length-drop}
use Rattle.std.proofs.lemmas.List.{at_drop_more}
use Rattle.script_reader.specs.code.Front.{more, begins_slash, block_len}

abbrev pub further : ℕ → Option ℕ → Option ℕ
further n None = None
further n (Some m) = Some (n + m)

further_more : (n : ℕ) (o : Option ℕ) → further n (more o) ≡ further (n + 1) o
further_more n None = refl
further_more n (Some m) = ap Some (omega arith)

at_two : (cs : List ℕ) (n x y : ℕ) → n + 1 < length cs → x ≡ get_or cs n x → y ≡ get_or cs (n + 1) y → block_len (drop n cs) ≡ cond (x == 42 && y == 47) (Some 2) (more (block_len (drop (n + 1) cs)))
at_two cs n x y h p q =
    at_drop_more block_len cs n x (omega arith)
    ∙ ap (λ b. cond (get_or cs n x == 42 && b) (Some 2) (more (block_len (drop (n + 1) cs)))) (at_drop_more begins_slash cs (n + 1) y h)
    ∙ ap (λ z. cond (z == 42 && get_or cs (n + 1) y == 47) (Some 2) (more (block_len (drop (n + 1) cs)))) (sym p)
    ∙ ap (λ z. cond (x == 42 && z == 47) (Some 2) (more (block_len (drop (n + 1) cs)))) (sym q)

pub goes_on : (cs : List ℕ) (n x y : ℕ) (t : Option ℕ) → n + 1 < length cs → x ≡ get_or cs n x → y ≡ get_or cs (n + 1) y → (x == 42 && y == 47) ≡ false → further n (block_len (drop n cs)) ≡ t → further (n + 1) (block_len (drop (n + 1) cs)) ≡ t
goes_on cs n x y t h p q e so_far =
    sym (further_more n (block_len (drop (n + 1) cs))) ∙ ap (λ b. further n (cond b (Some 2) (more (block_len (drop (n + 1) cs))))) (sym e) ∙ ap (further n) (sym (at_two cs n x y h p q)) ∙ so_far

pub finds : (cs : List ℕ) (n x y : ℕ) (t : Option ℕ) → n + 1 < length cs → x ≡ get_or cs n x → y ≡ get_or cs (n + 1) y → (x == 42 && y == 47) ≡ true → further n (block_len (drop n cs)) ≡ t → Some (n + 2) ≡ t
finds cs n x y t h p q e so_far =
    ap (λ b. further n (cond b (Some 2) (more (block_len (drop (n + 1) cs))))) (sym e) ∙ ap (further n) (sym (at_two cs n x y h p q)) ∙ so_far

short : (s : List ℕ) → length s ≤ 1 → block_len s ≡ None
short [] h = refl
short (c ∷ []) h = one (c == 42)
  where
    one : (b : Bool) → cond (b && false) (Some 2) (more None) ≡ None
    one true = refl
    one false = refl
short (c ∷ d ∷ s) h = absurd (omega arith)

pub is_none : (cs : List ℕ) (n : ℕ) (t : Option ℕ) → length cs ≤ n + 1 → further n (block_len (drop n cs)) ≡ t → None ≡ t
is_none cs n t h so_far = ap (further n) (sym (short (drop n cs) (omega (arith, length-drop n cs)))) ∙ so_far
