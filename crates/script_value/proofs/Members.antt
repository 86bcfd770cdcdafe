-- What the members of an object tell of the pairs that were put to it.
use Rattle.std.proofs.Common.{◌≡◌, ◌≢◌, ℕ, List, [], ◌∷◌, Bool, true, false, cond, ◌&&◌, T, Option, Some, None, Ordering, Less, Equal, Greater, nat_cmp, encode_utf8_all, refl, sym, ap, subst, ◌∙◌}
use Rattle.std.proofs.lemmas.Cmp.{nat_list_cmp_total, tied_itself}
use Rattle.std.proofs.lemmas.Map.Lookups.{exact_bytes}
use Rattle.std.proofs.lemmas.Str.{chars-encodes}
use Rattle.std.specs.Cmp.Lexicographic.{slice_cmp}
use Rattle.std.specs.FinMap.Entries.{find, is_sorted, below_all, same_entries}
use Rattle.std.specs.List.{AllByRecursion}
use Rattle.std.specs.List.Sorted.{IsStrictlySortedBy}
use Rattle.std.specs.Map.{keys_of}
use Rattle.std.specs.Ordering.{is_eq, is_lt}
use Rattle.std.specs.Str.{chars, all_scalars}
use Rattle.serde_json.specs.Data.{Data, Members, no_members, put}
use Rattle.serde_json.specs.Find.{get_member}
use Rattle.serde_json.proofs.Views.{get_member-put, get_member-put_other}
use Rattle.script_value.specs.Json.{put_all}

abbrev pub Pairs : Type 0
Pairs = List (List ℕ × Data)

abbrev order : List ℕ → List ℕ → Ordering
order = slice_cmp nat_cmp

abbrev pub IsText : List ℕ → Type 0
IsText key = all_scalars key ≡ true

-- the keys rise, and are texts
abbrev pub Rise : Pairs → Type 0
Rise ps = IsStrictlySortedBy (slice_cmp nat_cmp) (keys_of ps)

abbrev pub AreTexts : Pairs → Type 0
AreTexts ps = AllByRecursion IsText (keys_of ps)

-- texts with the same bytes are the same
pub same_texts : (these those : List ℕ) → IsText these → IsText those → encode_utf8_all these ≡ encode_utf8_all those → these ≡ those
same_texts these those p q e = sym (chars-encodes these p) ∙ ap chars e ∙ chars-encodes those q

both : (a b : Bool) → T a → T b → T (a && b)
both true b p q = q
both false b p q = p

above : (key : List ℕ) (ps : Pairs) → AllByRecursion (λ k. order key k ≡ Less) (keys_of ps) → T (below_all order key ps)
above key [] h = tt
above key (p ∷ ps) h = both _ _ (subst (λ o. T (is_lt o)) (sym h.0) tt) (above key ps h.1)

rising : (ps : Pairs) → Rise ps → T (is_sorted order ps)
unfolding IsStrictlySortedBy
rising [] h = tt
rising (p ∷ ps) h = both _ _ (above p.0 ps h.0) (rising ps h.1)

head_rises : (p : List ℕ × Data) (ps : Pairs) → Rise (p ∷ ps) → AllByRecursion (λ k. order p.0 k ≡ Less) (keys_of ps) × Rise ps
unfolding IsStrictlySortedBy
head_rises p ps h = h

-- a key that is below all others isn't among them
not_above : (key : List ℕ) (ps : Pairs) → AllByRecursion (λ k. order key k ≡ Less) (keys_of ps) → find order key ps ≡ None
not_above key [] h = refl
not_above key (p ∷ ps) h = ap (λ o. cond (is_eq o) (Some p.1) (find order key ps)) h.0 ∙ not_above key ps h.1

-- what isn't a text isn't among texts
no_text : (key : List ℕ) (ps : Pairs) → all_scalars key ≡ false → AreTexts ps → find order key ps ≡ None
no_text key [] f h = refl
no_text key (p ∷ ps) f h =
    elim (order key p.0) as (λ o. order key p.0 ≡ o → cond (is_eq o) (Some p.1) (find order key ps) ≡ None) [
      | Less ↦ λ e. no_text key ps f h.1
      | Equal ↦ λ e. let same = exact_bytes key p.0 e in absurd (cc (sym f ∙ ap all_scalars same ∙ h.0))
      | Greater ↦ λ e. no_text key ps f h.1
    ] refl

abbrev or_else : Option Data → Option Data → Option Data
or_else (Some d) other = Some d
or_else None other = other

-- an object has at a key what was put there, or else what it had
found : (key : List ℕ) → IsText key → (ps : Pairs) (all : Members) → Rise ps → AreTexts ps
    → get_member (encode_utf8_all key) (put_all all ps) ≡ or_else (find order key ps) (get_member (encode_utf8_all key) all)
found key text [] all s t = refl
found key text (p ∷ ps) all s t =
    let rises = head_rises p ps s in
    let more = found key text ps (put (encode_utf8_all p.0) p.1 all) rises.1 t.1 in
    let apart : (order key p.0 ≢ Equal) → get_member (encode_utf8_all key) (put (encode_utf8_all p.0) p.1 all) ≡ get_member (encode_utf8_all key) all =
    λ other. get_member-put_other (encode_utf8_all key) (encode_utf8_all p.0) p.1 all
    (λ e. other (ap (λ k. order k p.0) (same_texts key p.0 text t.0 e) ∙ tied_itself nat_list_cmp_total p.0)) in
    elim (order key p.0) as (λ o. order key p.0 ≡ o
    → get_member (encode_utf8_all key) (put_all (put (encode_utf8_all p.0) p.1 all) ps) ≡ or_else (cond (is_eq o) (Some p.1) (find order key ps)) (get_member (encode_utf8_all key) all)) [
      | Less ↦ λ e. more ∙ ap (or_else (find order key ps)) (apart (λ f. cc))
      | Equal ↦ λ e.
          let same = exact_bytes key p.0 e in
          more
          ∙ ap (λ o. or_else o (get_member (encode_utf8_all key) (put (encode_utf8_all p.0) p.1 all))) (ap (λ k. find order k ps) same ∙ not_above p.0 ps rises.0)
          ∙ ap (λ k. get_member (encode_utf8_all k) (put (encode_utf8_all p.0) p.1 all)) same
          ∙ get_member-put (encode_utf8_all p.0) p.1 all
      | Greater ↦ λ e. more ∙ ap (or_else (find order key ps)) (apart (λ f. cc))
    ] refl

or_none : (o : Option Data) → or_else o None ≡ o
or_none (Some d) = refl
or_none None = refl

-- pairs with the same object are the same
pub same_pairs : (ps qs : Pairs) → Rise ps → Rise qs → AreTexts ps → AreTexts qs → put_all no_members ps ≡ put_all no_members qs → ps ≡ qs
same_pairs ps qs p q s t e = same_entries order nat_list_cmp_total exact_bytes ps qs (rising ps p) (rising qs q) at
  where
    at_text : (key : List ℕ) → IsText key → find order key ps ≡ find order key qs
    at_text key text =
        sym (found key text ps no_members p s ∙ or_none (find order key ps))
        ∙ ap (get_member (encode_utf8_all key)) e
        ∙ found key text qs no_members q t ∙ or_none (find order key qs)

    at_other : (key : List ℕ) → all_scalars key ≡ false → find order key ps ≡ find order key qs
    at_other key other = no_text key ps other s ∙ sym (no_text key qs other t)

    at : (key : List ℕ) → find order key ps ≡ find order key qs
    at key = elim (all_scalars key) as (λ b. all_scalars key ≡ b → find order key ps ≡ find order key qs) [ true ↦ at_text key | false ↦ at_other key ] refl
