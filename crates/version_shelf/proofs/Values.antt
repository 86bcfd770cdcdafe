-- From what notes know, which is shared, to its values: each fact of rows of facts is one of the rows of their values.
use Rattle.std.proofs.Common.{◌≡◌, ◌↔◌, ℕ, zero, suc, ◌+◌, ◌<◌, ◌≤◌, List, [], ◌∷◌, ◌++◌, length, map, replicate, sym, ◌∙◌, subst, refl, ap, arith, Option, Some, None}
use Rattle.std.specs.Prelude.{slice_index_or, slice_set, option_map}
use Rattle.std.specs.List.{Contains}
use Rattle.std.specs.Arc.{arc_value}
use Rattle.std.specs.declared.sync.Arc.{Arc}
use Rattle.std.specs.declared.alloc.Global.{Global}
use Rattle.std.proofs.Math.ListN.{get_or-map, length-map}
use Rattle.std.proofs.lemmas.List.{map-set}
use Rattle.version_shelf.specs.Known.{Keeps, OneValue, pairs, values}
use Rattle.version_shelf.proofs.Knowing.{keeps_pairs, agree_pairs, each, known_pair}
use Rattle.version_shelf.proofs.Noted.{base_pairs, more_pairs}

module _ {V : Type 0} where
  -- the value at a place
  pub value_at : (fs : List (Option (Arc V Global))) (k : ℕ) → slice_index_or (values fs) k None ≡ option_map arc_value (slice_index_or fs k None)
  value_at fs k = get_or-map (option_map arc_value) fs k None

  pub value_known : (fs : List (Option (Arc V Global))) (k : ℕ) (a : Arc V Global) → slice_index_or fs k None ≡ Some a → slice_index_or (values fs) k None ≡ Some a.value
  value_known fs k a e = value_at fs k ∙ ap (option_map arc_value) e

  pub value_unknown : (fs : List (Option (Arc V Global))) (k : ℕ) → slice_index_or fs k None ≡ None → slice_index_or (values fs) k None ≡ None
  value_unknown fs k e = value_at fs k ∙ ap (option_map arc_value) e

  value_of : (o : Option (Arc V Global)) (x : V) → option_map arc_value o ≡ Some x → (a : Arc V Global) × (o ≡ Some a) × (a.value ≡ x)
  value_of None x e = cc
  value_of (Some a) x e = (a, refl, cc)

  -- a known value is that of what is known
  pub known_value : (fs : List (Option (Arc V Global))) (k : ℕ) (x : V) → slice_index_or (values fs) k None ≡ Some x → (a : Arc V Global) × (slice_index_or fs k None ≡ Some a) × (a.value ≡ x)
  known_value fs k x e = value_of (slice_index_or fs k None) x (sym (value_at fs k) ∙ e)

  pub values_set : (fs : List (Option (Arc V Global))) (k : ℕ) (a : Arc V Global) → values (slice_set fs k (Some a)) ≡ slice_set (values fs) k (Some a.value)
  values_set fs k a = map-set (option_map arc_value) fs k (Some a)

  pub keeps_values : (n : ℕ) (old new : List (Option (Arc V Global))) → ((k : ℕ) (a : Arc V Global) → slice_index_or old k None ≡ Some a → slice_index_or new k None ≡ Some a) → Keeps (pairs n (values old)) (pairs n (values new))
  keeps_values n old new keeps =
      keeps_pairs n (values old) (values new) (λ k x e. let (a, is, same) = known_value old k x e in value_known new k a (keeps k a is) ∙ ap (λ (v : V). Some v) same)

  pub agree_values : (n : ℕ) (fs gs : List (Option (Arc V Global))) → ((k : ℕ) (a b : Arc V Global) → slice_index_or fs k None ≡ Some a → slice_index_or gs k None ≡ Some b → a ≡ b) → OneValue (pairs n (values fs)) (pairs n (values gs))
  agree_values n fs gs agree =
      agree_pairs n (values fs) (values gs)
      (λ k x y h t.
      let (a, is_a, same_a) = known_value fs k x h in
      let (b, is_b, same_b) = known_value gs k y t in
      sym same_a ∙ (ap (λ (p : Arc V Global). p.value) (agree k a b is_a is_b) ∙ same_b))

  pub bound_values : (fs : List (Option (Arc V Global))) (c : ℕ) → ((k : ℕ) (a : Arc V Global) → slice_index_or fs k None ≡ Some a → k ≤ c) → (k : ℕ) (x : V) → slice_index_or (values fs) k None ≡ Some x → k ≤ c
  bound_values fs c bound k x h = let (a, is, same) = known_value fs k x h in bound k a is

  pub each_value : (n : ℕ) (fs : List (Option (Arc V Global))) (c : ℕ) → ((k : ℕ) → k ≤ c → (a : Arc V Global) × (slice_index_or fs k None ≡ Some a)) → ((k : ℕ) → c < k → slice_index_or fs k None ≡ None)
      → (m : ℕ) → ((x : V) × Contains (pairs n (values fs)) (m, x)) ↔ ((n ≤ m) × (m ≤ n + c))
  each_value n fs c full none =
      each n (values fs) c (λ k le. let (a, is) = full k le in (a.value, value_known fs k a is)) (λ k past. value_unknown fs k (none k past))

  -- the pair of what is known at a place
  pub pair_of_value : (n : ℕ) (fs : List (Option (Arc V Global))) (k : ℕ) (a : Arc V Global) → slice_index_or fs k None ≡ Some a → Contains (pairs n (values fs)) (n + k, a.value)
  pair_of_value n fs k a e = known_pair n (values fs) k a.value (value_known fs k a e)

  values_none : (n : ℕ) → values {V = V} (replicate n None) ≡ replicate n None
  values_none zero = refl
  values_none (suc n) = ap (λ (l : List (Option V)). None ∷ l) (values_none n)

  -- a publisher's pairs after one value more, and those of the base alone
  pub more_values : (n : ℕ) (old new : List (Option (Arc V Global))) (c : ℕ) (a : Arc V Global) → new ≡ slice_set old (c + 1) (Some a) → c + 1 < length old → ((k : ℕ) → c < k → slice_index_or old k None ≡ None)
      → pairs n (values new) ≡ pairs n (values old) ++ (n + (c + 1), a.value) ∷ []
  more_values n old new c a e room none =
      more_pairs n (values old) (values new) c a.value (ap (λ (l : List (Option (Arc V Global))). values l) e ∙ values_set old (c + 1) a)
      (let same = length-map old (option_map arc_value) in omega arith) (λ k past. value_unknown old k (none k past))

  pub base_values : (number : ℕ) (fs : List (Option (Arc V Global))) (n : ℕ) (a : Arc V Global) → fs ≡ slice_set (replicate (n + 1) None) 0 (Some a) → pairs number (values fs) ≡ (number, a.value) ∷ []
  base_values number fs n a e =
      base_pairs number (values fs) n a.value
      (ap (λ (l : List (Option (Arc V Global))). values l) e ∙ (values_set (replicate (n + 1) None) 0 a ∙ ap (λ (l : List (Option V)). slice_set l 0 (Some a.value)) (values_none (n + 1))))
