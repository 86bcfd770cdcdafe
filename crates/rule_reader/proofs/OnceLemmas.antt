-- Keys each once are the same keys.
use Rattle.std.proofs.Common.{arith, ◌≡◌, ◌⊎◌, inl, inr, ⊎_elim, ℕ, zero, suc, ◌<◌, Bool, true, false, List, [], ◌∷◌, ◌++◌, length, get_or, refl, subst, sym, ap, nat_eq}
use Rattle.std.specs.Prelude.{Contains, ◌↔◌, if◌then◌else◌}
use Rattle.std.specs.List.{list_any}
use Rattle.std.specs.Cmp.Lexicographic.{pointwise, bytes_decides}
use Rattle.std.proofs.lemmas.List.Elements.{Contains-append_left, Contains-push_cases}
use Rattle.indexmap.specs.IndexSet.{insert_all, insert_key}
use Rattle.indexmap.proofs.CallerLemmas.{Contains-insert_key}
use Rattle.grammar_tree.specs.declared.document.Doc.{Doc}
use Rattle.rule_reader.specs.Imports.{imported, imported_once}

abbrev Keys : Type 0
Keys = List (List ℕ)

abbrev with : Keys → List ℕ → Keys
with = insert_key (pointwise nat_eq)

abbrev with_all : Keys → Keys → Keys
with_all = insert_all (pointwise nat_eq)

-- ---- one key more

stays : (keys : Keys) (key y : List ℕ) → Contains keys y → Contains (with keys key) y
stays keys key y c = by (list_any (pointwise nat_eq key) keys) refl
  where
    by : (b : Bool) → list_any (pointwise nat_eq key) keys ≡ b → Contains (with keys key) y
    by true e = subst (λ l. Contains l y) (sym (ap (λ b. if b then keys else keys ++ key ∷ []) e)) c
    by false e = subst (λ l. Contains l y) (sym (ap (λ b. if b then keys else keys ++ key ∷ []) e)) (Contains-append_left keys (key ∷ []) y c)

came : (keys : Keys) (key y : List ℕ) → Contains (with keys key) y → Contains keys y ⊎ (key ≡ y)
came keys key y c = by (list_any (pointwise nat_eq key) keys) refl
  where
    by : (b : Bool) → list_any (pointwise nat_eq key) keys ≡ b → Contains keys y ⊎ (key ≡ y)
    by true e = inl (subst (λ l. Contains l y) (ap (λ b. if b then keys else keys ++ key ∷ []) e) c)
    by false e = Contains-push_cases keys key y (subst (λ l. Contains l y) (ap (λ b. if b then keys else keys ++ key ∷ []) e) c)

-- ---- all of them

all_stay : (keys more : Keys) (y : List ℕ) → Contains keys y → Contains (with_all keys more) y
all_stay keys [] y c = c
all_stay keys (x ∷ more) y c = all_stay (with keys x) more y (stays keys x y c)

all_come : (keys more : Keys) (y : List ℕ) → Contains (with_all keys more) y → Contains keys y ⊎ Contains more y
all_come keys [] y c = inl c
all_come keys (x ∷ more) y c =
    ⊎_elim (λ d. ⊎_elim (λ k. inl k) (λ e. inr (0, omega arith, e)) (came keys x y d)) (λ d. inr (suc d.0, omega (arith, d.1), d.2)) (all_come (with keys x) more y c)

all_there : (keys more : Keys) (y : List ℕ) → Contains more y → Contains (with_all keys more) y
all_there keys [] y c = absurd (omega (arith, c.1))
all_there keys (x ∷ more) y c = at c.0 c.1 c.2 (λ d. all_there (with keys x) more y d)
  where
    at : (k : ℕ) → k < length (x ∷ more) → get_or (x ∷ more) k y ≡ y → (Contains more y → Contains (with_all (with keys x) more) y) → Contains (with_all keys (x ∷ more)) y
    at zero lt e rest = all_stay (with keys x) more y (subst (λ z. Contains (with keys x) z) e (Contains-insert_key (pointwise nat_eq) (λ a b t. (bytes_decides a b).0 t) keys x))
    at (suc k) lt e rest = rest (k, omega arith, e)

same_members : (more : Keys) (y : List ℕ) → Contains (with_all [] more) y ↔ Contains more y
same_members more y = (λ c. ⊎_elim (λ d. absurd (omega (arith, d.1))) (λ d. d) (all_come [] more y c), all_there [] more y)

pub of_once : (doc : Doc) (key : List ℕ) (keys : Keys) → keys ≡ imported_once doc key → (y : List ℕ) → Contains keys y ↔ Contains (imported doc key) y
of_once doc key keys is y = subst (λ l. Contains l y ↔ Contains (imported doc key) y) (sym is) (same_members (imported doc key) y)
