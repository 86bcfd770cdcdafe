-- One key more in a set of numbers, and the numbers of an ordered one.
use Rattle.std.proofs.Common.{Bool, true, false, cond, eqb, nat_cmp, ◌↔◌, BTreeSet, ℕ, ◌+◌, ◌<◌, ◌≤◌, ◌≡◌, ◌⊎◌, inl, inr, List, [], ◌∷◌, ◌++◌, if◌then◌else◌, length, get_or, Some, eqb-true, ◌∙◌, refl, sym, subst, ⊎_elim, arith}
use Rattle.std.specs.List.{Contains, list_any, IsDistinct}
use Rattle.std.specs.List.Sorted.{IsStrictlySortedBy}
use Rattle.std.specs.BTreeSet.{contains, Updates}
use Rattle.std.specs.Cmp.{unsigned_ties}
use Rattle.std.proofs.lemmas.Cmp.{nat_cmp_total}
use Rattle.std.proofs.lemmas.Map.Keys.{IsDistinct-from_sorted}
use Rattle.std.proofs.lemmas.Map.Lookups.{exact_unsigned}
use Rattle.std.proofs.lemmas.Map.Views.{btree_set_contains_iff, tells_apart}
use Rattle.std.proofs.lemmas.Option.{slice_get-get_or}
use Rattle.indexmap.proofs.CallerLemmas.{Contains-insert_key}
use Rattle.std.proofs.lemmas.List.Elements.{Contains-append_left, Contains-push_cases}

-- what the set of them has after one more
more : (b : Bool) (ks : List ℕ) (k other : ℕ) → Contains ks other → Contains (if b then ks else ks ++ k ∷ []) other
more true ks k other h = h
more false ks k other h = Contains-append_left ks (k ∷ []) other h

less : (b : Bool) (ks : List ℕ) (k other : ℕ) → Contains (if b then ks else ks ++ k ∷ []) other → Contains ks other ⊎ (k ≡ other)
less true ks k other h = inl h
less false ks k other h = Contains-push_cases ks k other h

pub insert_kept : (ks : List ℕ) (k other : ℕ) → Contains ks other → Contains (if list_any (eqb k) ks then ks else ks ++ k ∷ []) other
insert_kept ks k other h = more (list_any (eqb k) ks) ks k other h

pub insert_from : (ks : List ℕ) (k other : ℕ) → Contains (if list_any (eqb k) ks then ks else ks ++ k ∷ []) other → Contains ks other ⊎ (k ≡ other)
insert_from ks k other h = less (list_any (eqb k) ks) ks k other h

-- what the set says of a number after one more
pub record Inserted (ks now : List ℕ) (k : ℕ) : Type 0 where
  pub kept : (other : ℕ) → Contains ks other → Contains now other
  pub from : (other : ℕ) → Contains now other → Contains ks other ⊎ (k ≡ other)
  pub has : Contains now k

pub inserted : (ks now : List ℕ) (k : ℕ) → now ≡ (if list_any (eqb k) ks then ks else ks ++ k ∷ []) → Inserted ks now k
inserted ks now k e = record {
  kept = λ other h. subst (λ l. Contains l other) (sym e) (insert_kept ks k other h);
  from = λ other h. insert_from ks k other (subst (λ l. Contains l other) e h);
  has = subst (λ l. Contains l k) (sym e) (Contains-insert_key eqb eqb-true ks k);
}

-- the same of a set in order
seen : (s : BTreeSet ℕ) (k : ℕ) → (contains nat_cmp s k ≡ true) ↔ Contains s.keys k
seen s k = btree_set_contains_iff nat_cmp_total exact_unsigned s k

stays : (here now old : Bool) → now ≡ cond here true old → old ≡ true → now ≡ true
stays true now old e h = e
stays false now old e h = e ∙ h

came : (here now old : Bool) → now ≡ cond here true old → now ≡ true → (old ≡ true) ⊎ (here ≡ true)
came true now old e h = inr refl
came false now old e h = inl (sym e ∙ h)

pub inserted_in_order : (old now : BTreeSet ℕ) (k : ℕ) → Updates nat_cmp old now k true → Inserted old.keys now.keys k
inserted_in_order old now k u = record {
  kept = λ other h. (seen now other).0 (stays _ _ _ (u.0 other) ((seen old other).1 h));
  from = λ other h. ⊎_elim (λ was. inl ((seen old other).0 was)) (λ here. inr (tells_apart exact_unsigned k other here))
      (came _ _ _ (u.0 other) ((seen now other).1 h));
  has = (seen now k).0 u.1;
}

-- no two numbers of an ordered set are equal
pub ordered_distinct : (ks : List ℕ) → IsStrictlySortedBy nat_cmp ks → IsDistinct eqb ks
ordered_distinct ks s = subst (λ e. IsDistinct e ks) (λ i x y. sym (unsigned_ties x y) i) (IsDistinct-from_sorted nat_cmp ks s)

-- what is read below the length, whatever is read past it
pub read_one : (xs : List ℕ) (k d e : ℕ) → k < length xs → get_or xs k d ≡ get_or xs k e
read_one xs k d e lt = let both : Some (get_or xs k d) ≡ Some (get_or xs k e) = sym (slice_get-get_or xs k d lt) ∙ slice_get-get_or xs k e lt in cc
