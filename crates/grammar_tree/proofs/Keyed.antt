-- Documents under distinct keys: what putting one in and taking one out keeps.
use Rattle.std.proofs.Common.{ℕ, zero, suc, ◌+◌, ◌<◌, ◌≤◌, ◌≡◌, ◌≢◌, Bool, true, false, cond, Some, None, List, [], ◌∷◌, ◌++◌, length, map, take, drop, get_or, set, refl, sym, ap, ◌∙◌, subst, arith}
use Rattle.std.specs.Prelude.{slice_get}
use Rattle.std.specs.List.{AllPairs, find, position_or_len, remove}
use Rattle.std.specs.Cmp.Lexicographic.{bytes_decides}
use Rattle.std.proofs.Math.Seq.{map-set_same}
use Rattle.std.proofs.lemmas.List.{map-append, take_all, drop_all, append-nil, get_or-map, length-map}
use Rattle.std.proofs.lemmas.List.Sums.{fails_before_first, passes_at_first}
use Rattle.std.proofs.lemmas.List.Quantifiers.{all_pairs_remove, all_pairs_push}
use Rattle.std.proofs.lemmas.List.Folds.{find_at}
use Rattle.std.proofs.lemmas.Option.{slice_get_past}
use Rattle.grammar_tree.specs.declared.doc_set.DocText.{DocText}
use Rattle.grammar_tree.specs.DocSets.{HasDistinctKeys, is_under, put, without}

-- a list with one element replaced is what stands before it, the new element, and what stands behind it
pub replaced : {X : Type 0} (xs : List X) (at : ℕ) (x : X) → at < length xs → set xs at x ≡ take at xs ++ x ∷ drop (at + 1) xs
replaced [] at x lt = absurd (omega arith)
replaced (y ∷ xs) zero x lt = refl
replaced (y ∷ xs) (suc at) x lt =
    let e : suc (at + 1) ≡ suc at + 1 = omega arith in
    ap (λ ys. y ∷ ys) (replaced xs at x (omega arith)) ∙ ap (λ k. y ∷ (take at xs ++ x ∷ drop k (y ∷ xs))) e

map-remove : {X Y : Type 0} (f : X → Y) (xs : List X) (at : ℕ) → map f (remove xs at) ≡ remove (map f xs) at
map-remove f [] zero = refl
map-remove f [] (suc at) = refl
map-remove f (x ∷ xs) zero = refl
map-remove f (x ∷ xs) (suc at) = ap (λ ys. f x ∷ ys) (map-remove f xs at)

abbrev key_of : DocText → List ℕ
key_of doc = doc.key

abbrev pub place : List ℕ → List DocText → ℕ
place key docs = position_or_len (is_under key) docs

pub put-replaces : (doc : DocText) (docs : List DocText) → place doc.key docs < length docs → set docs (place doc.key docs) doc ≡ put doc docs
put-replaces doc docs lt = replaced docs (place doc.key docs) doc lt

pub put-pushes : (doc : DocText) (docs : List DocText) → length docs ≤ place doc.key docs → docs ++ doc ∷ [] ≡ put doc docs
put-pushes doc docs le =
    ap (λ front. front ++ doc ∷ []) (sym (take_all (place doc.key docs) docs le))
    ∙ ap (λ rest. take (place doc.key docs) docs ++ doc ∷ rest) (sym (drop_all (place doc.key docs + 1) docs (omega arith)))

pub without-nothing : (key : List ℕ) (docs : List DocText) → length docs ≤ place key docs → docs ≡ without key docs
without-nothing key docs le =
    sym (take_all (place key docs) docs le) ∙ sym (append-nil (take (place key docs) docs))
    ∙ ap (λ rest. take (place key docs) docs ++ rest) (sym (drop_all (place key docs + 1) docs (omega arith)))

pub keys_after_replace : (doc : DocText) (docs : List DocText) → place doc.key docs < length docs → HasDistinctKeys docs → HasDistinctKeys (set docs (place doc.key docs) doc)
keys_after_replace doc docs lt h =
    let at = place doc.key docs in
    let same : (get_or docs at doc).key ≡ doc.key = (bytes_decides (get_or docs at doc).key doc.key).0 (passes_at_first (is_under doc.key) docs doc lt) in
    subst (AllPairs (λ one later. one ≢ later)) (sym (map-set_same key_of docs at doc doc (sym same))) h

pub keys_after_push : (doc : DocText) (docs : List DocText) → length docs ≤ place doc.key docs → HasDistinctKeys docs → HasDistinctKeys (docs ++ doc ∷ [])
keys_after_push doc docs le h =
    subst (AllPairs (λ one later. one ≢ later)) (sym (map-append key_of docs (doc ∷ [])))
    (all_pairs_push (λ one later. one ≢ later) (map key_of docs) doc.key h
    (λ k d lt same.
    let lt' : k < length docs = omega (arith, lt, length-map docs key_of) in
    let none = fails_before_first (is_under doc.key) docs k doc (omega arith) in
    let found = (bytes_decides (get_or docs k doc).key doc.key).1 (sym (get_or-map key_of docs k doc d lt') ∙ same) in
    let clash : true ≡ false = sym found ∙ none in cc))

pub keys_after_remove : (docs : List DocText) (at : ℕ) → at < length docs → HasDistinctKeys docs → HasDistinctKeys (remove docs at)
keys_after_remove docs at lt h =
    subst (AllPairs (λ one later. one ≢ later)) (sym (map-remove key_of docs at))
    (all_pairs_remove (λ one later. one ≢ later) (map key_of docs) at (omega (arith, length-map docs key_of)) h)

-- what stands at the place of a key is what is found under it
pub found_there : (key : List ℕ) (docs : List DocText) (at : ℕ) (doc : DocText) → at ≡ place key docs → slice_get docs at ≡ Some doc → Some doc ≡ find (is_under key) docs
found_there key docs at doc e h = sym (find_at (is_under key) docs ∙ ap (slice_get docs) (sym e) ∙ h)

pub found_nowhere : (key : List ℕ) (docs : List DocText) (at : ℕ) → at ≡ place key docs → length docs ≤ at → find (is_under key) docs ≡ None
found_nowhere key docs at e le = find_at (is_under key) docs ∙ ap (slice_get docs) (sym e) ∙ slice_get_past docs at le

-- what holds of both outcomes holds of the one that came
pub either : {X : Type 0} (P : X → Type 0) (b : Bool) (x y z : X) → z ≡ cond b x y → P x → P y → P z
either P true x y z e p q = subst P (sym e) p
either P false x y z e p q = subst P (sym e) q
