-- A pair that is taken out and put again with another value, and one that is put twice.
use Rattle.std.proofs.Common.{◌≡◌, ℕ, List, [], ◌∷◌, refl, ap, ◌∙◌, sym, cond}
use Rattle.std.specs.declared.cmp.Ordering.{Ordering}
use Rattle.std.specs.declared.cmp.Ordering.TheVariants.{Less, Equal, Greater}
use Rattle.std.specs.Ordering.{nat_cmp, is_eq, match_ordering}
use Rattle.std.specs.Cmp.Lexicographic.{slice_cmp, nat_list_cmp_total}
use Rattle.std.specs.List.{AllByRecursion}
use Rattle.std.specs.List.Sorted.{IsStrictlySortedBy}
use Rattle.std.specs.Map.{keys_of}
use Rattle.std.proofs.lemmas.Map.Text.{is_eq-slice_cmp}
use Rattle.std.proofs.lemmas.Slice.Eq.{bytes_eq-Decides}
use Rattle.vg_base.specs.Pairs.{put, without, IsRising}

pub same_key : (k l : List ℕ) → slice_cmp nat_cmp k l ≡ Equal → k ≡ l
same_key k l e = (bytes_eq-Decides k l).0 (sym (is_eq-slice_cmp k l) ∙ ap is_eq e)

-- the key is below all of these
abbrev pub IsBelow : List ℕ → List (List ℕ) → Type 0
IsBelow key keys = AllByRecursion (λ k. slice_cmp nat_cmp key k ≡ Less) keys

pub below : (key k : List ℕ) (keys : List (List ℕ)) → slice_cmp nat_cmp key k ≡ Less → IsBelow k keys → IsBelow key keys
below key k [] e h = h
below key k (x ∷ keys) e h = (nat_list_cmp_total.trans key k x e h.0, below key k keys e h.1)

below_same : (key k : List ℕ) (keys : List (List ℕ)) → slice_cmp nat_cmp key k ≡ Equal → IsBelow k keys → IsBelow key keys
below_same key k [] e h = h
below_same key k (x ∷ keys) e h = (nat_list_cmp_total.congr key k x e ∙ h.0, below_same key k keys e h.1)

module _ {V : Type 0} where
  -- a key below all keys is none of them
  absent : (key : List ℕ) (pairs : List (List ℕ × V)) → IsBelow key (keys_of pairs) → without key pairs ≡ pairs
  absent key [] h = refl
  absent key (p ∷ ps) h = ap (λ o. cond (is_eq o) ps (p ∷ without key ps)) h.0 ∙ ap (λ l. p ∷ l) (absent key ps h.1)

  -- and its pair goes to the front
  front : (key : List ℕ) (v : V) (pairs : List (List ℕ × V)) → IsBelow key (keys_of pairs) → put key v pairs ≡ (key, v) ∷ pairs
  front key v [] h = refl
  front key v (p ∷ ps) h = ap (λ o. match_ordering o ((key, v) ∷ p ∷ ps) ((p.0, v) ∷ ps) (p ∷ put key v ps)) h.0

  at_head : (key : List ℕ) (v : V) (p : List ℕ × V) (ps : List (List ℕ × V)) (o : Ordering) → slice_cmp nat_cmp key p.0 ≡ o
      → IsBelow p.0 (keys_of ps) → put key v (without key ps) ≡ put key v ps → put key v (without key (p ∷ ps)) ≡ put key v (p ∷ ps)
  at_head key v p ps Less e h same = ap (put key v) (absent key (p ∷ ps) (e, below key p.0 (keys_of ps) e h))
  at_head key v p ps Equal e h same =
      ap (λ o. put key v (cond (is_eq o) ps (p ∷ without key ps))) e
      ∙ front key v ps (below_same key p.0 (keys_of ps) e h)
      ∙ ap (λ k. (k, v) ∷ ps) (same_key key p.0 e)
      ∙ sym (ap (λ o. match_ordering o ((key, v) ∷ p ∷ ps) ((p.0, v) ∷ ps) (p ∷ put key v ps)) e)
  at_head key v p ps Greater e h same =
      ap (λ o. put key v (cond (is_eq o) ps (p ∷ without key ps))) e
      ∙ ap (λ o. match_ordering o ((key, v) ∷ p ∷ without key ps) ((p.0, v) ∷ without key ps) (p ∷ put key v (without key ps))) e
      ∙ ap (λ l. p ∷ l) same
      ∙ sym (ap (λ o. match_ordering o ((key, v) ∷ p ∷ ps) ((p.0, v) ∷ ps) (p ∷ put key v ps)) e)

  pub put-without : (key : List ℕ) (v : V) (pairs : List (List ℕ × V)) → IsRising pairs → put key v (without key pairs) ≡ put key v pairs
  unfolding IsStrictlySortedBy
  put-without key v [] h = refl
  put-without key v (p ∷ ps) h = at_head key v p ps (slice_cmp nat_cmp key p.0) refl h.0 (put-without key v ps h.1)
