-- Runs of a class: what is counted is a longest run (`run_of`), each longest run is counted (`run_len`), and a text begins with one (`one_run`).
use Rattle.std.proofs.Common.{◌≡◌, ℕ, ◌+◌, Bool, true, false, cond, ◌&&◌, List, [], ◌∷◌, ◌++◌, length, take, drop, refl, sym, ap, ◌∙◌, arith}
use Rattle.std.specs.List.{prefix_len, list_all}
use Rattle.std.proofs.lemmas.Bool.{and_parts, cond_both}
use Rattle.std.proofs.lemmas.List.{take_at, drop_at}
use Rattle.vg_base.specs.Runs.{begins, IsRun}

-- a text is a run of so many characters, and a rest
pub record Run (p : ℕ → Bool) (text : List ℕ) (n : ℕ) : Type 0 where
  pub run : List ℕ
  pub rest : List ℕ
  pub parts : text ≡ run ++ rest
  pub long : length run ≡ n
  pub is_run : IsRun p run rest

-- what is counted is a longest run
pub run_of : (p : ℕ → Bool) (text : List ℕ) → Run p text (prefix_len p text)
run_of p [] = record { run = []; rest = []; parts = refl; long = refl; is_run = record { each = refl; ends = refl } }
run_of p (c ∷ cs) = cond_both (p c) (1 + prefix_len p cs) 0 (Run p (c ∷ cs)) (λ e. longer e (run_of p cs)) (λ e. none e)
  where
    longer : p c ≡ true → Run p cs (prefix_len p cs) → Run p (c ∷ cs) (1 + prefix_len p cs)
    longer e r = record {
      run = c ∷ r.run;
      rest = r.rest;
      parts = ap (λ (xs : List ℕ). c ∷ xs) r.parts;
      long = let long = r.long in omega arith;
      is_run = record { each = ap (λ b. b && list_all p r.run) e ∙ r.is_run.each; ends = r.is_run.ends };
    }

    none : p c ≡ false → Run p (c ∷ cs) 0
    none e = record { run = []; rest = c ∷ cs; parts = refl; long = refl; is_run = record { each = refl; ends = e } }

-- a run is as long as is counted
pub run_len : (p : ℕ → Bool) (run rest : List ℕ) → IsRun p run rest → prefix_len p (run ++ rest) ≡ length run
run_len p [] [] h = refl
run_len p [] (c ∷ rest) h = ap (λ b. cond b (1 + prefix_len p rest) 0) h.ends
run_len p (c ∷ run) rest h =
    let both = and_parts (p c) (list_all p run) h.each in
    let more = run_len p run rest (record { each = both.1; ends = h.ends }) in
    ap (λ b. cond b (1 + prefix_len p (run ++ rest)) 0) both.0 ∙ omega arith

-- two fronts of one text that are equally long
pub fronts_same : (a b x y : List ℕ) → a ++ x ≡ b ++ y → length a ≡ length b → (a ≡ b) × (x ≡ y)
fronts_same a b x y e l =
    (sym (take_at a x (length a) refl) ∙ (ap (take (length a)) e ∙ take_at b y (length a) (sym l)), sym (drop_at a x (length a) refl) ∙ (ap (drop (length a)) e ∙ drop_at b y (length a) (sym l)))

-- a text begins with one longest run
pub one_run : (p : ℕ → Bool) (a b x y : List ℕ) → list_all p a ≡ true → begins p x ≡ false → list_all p b ≡ true → begins p y ≡ false → a ++ x ≡ b ++ y → (a ≡ b) × (x ≡ y)
one_run p a b x y e f g h q =
    fronts_same a b x y q (sym (run_len p a x (record { each = e; ends = f })) ∙ (ap (prefix_len p) q ∙ run_len p b y (record { each = g; ends = h })))

-- the text as it is counted
pub run_counted : (p : ℕ → Bool) (text : List ℕ) → IsRun p (take (prefix_len p text) text) (drop (prefix_len p text) text)
run_counted p text =
    let r = run_of p text in
    let run : take (prefix_len p text) text ≡ r.run = ap (take (prefix_len p text)) r.parts ∙ take_at r.run r.rest (prefix_len p text) r.long in
    let rest : drop (prefix_len p text) text ≡ r.rest = ap (drop (prefix_len p text)) r.parts ∙ drop_at r.run r.rest (prefix_len p text) r.long in
    record { each = ap (list_all p) run ∙ r.is_run.each; ends = ap (begins p) rest ∙ r.is_run.ends }
