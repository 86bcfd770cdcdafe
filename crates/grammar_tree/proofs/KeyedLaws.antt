-- Putting into a set and taking out, document by document.
use Rattle.std.proofs.Common.{ℕ, zero, suc, ◌+◌, ◌<◌, ◌≡◌, ◌≢◌, Bool, true, false, cond, not, Some, None, List, [], ◌∷◌, ◌++◌, length, map, take, drop, get_or, refl, sym, ap, ◌∙◌, arith}
use Rattle.std.specs.Prelude.{slice_get}
use Rattle.std.specs.List.{find}
use Rattle.std.specs.Cmp.Lexicographic.{bytes_decides}
use Rattle.std.proofs.lemmas.List.{get_or-map, length-map}
use Rattle.std.proofs.lemmas.Option.{get_or_from_slice_get, slice_get_within}
use Rattle.grammar_tree.specs.declared.doc_set.DocText.{DocText}
use Rattle.grammar_tree.specs.DocSets.{HasDistinctKeys, is_under, put, without}
use Rattle.grammar_tree.specs.SetLaws.{PutIsFound, PutKeepsPlaces, NewGoesLast, RemovedIsGone, OthersAreFound}
use Rattle.grammar_tree.proofs.Keyed.{place}

-- ---- one document at the front

here_or_further : (key : List ℕ) (doc : DocText) (docs : List DocText) (b : Bool) → is_under key doc ≡ b → place key (doc ∷ docs) ≡ cond b 0 (suc (place key docs))
here_or_further key doc docs true e = ap (λ b. cond (not b) (1 + place key docs) 0) e
here_or_further key doc docs false e = let more : 1 + place key docs ≡ suc (place key docs) = omega arith in ap (λ b. cond (not b) (1 + place key docs) 0) e ∙ more

put-cons : (doc front : DocText) (docs : List DocText) (b : Bool) → is_under doc.key front ≡ b → put doc (front ∷ docs) ≡ cond b (doc ∷ docs) (front ∷ put doc docs)
put-cons doc front docs true e = ap (λ k. take k (front ∷ docs) ++ doc ∷ drop (k + 1) (front ∷ docs)) (here_or_further doc.key front docs true e)
put-cons doc front docs false e =
    let at = place doc.key docs in
    let more : suc at + 1 ≡ suc (at + 1) = omega arith in
    ap (λ k. take k (front ∷ docs) ++ doc ∷ drop (k + 1) (front ∷ docs)) (here_or_further doc.key front docs false e)
    ∙ ap (λ k. front ∷ (take at docs ++ doc ∷ drop k (front ∷ docs))) more

without-cons : (key : List ℕ) (front : DocText) (docs : List DocText) (b : Bool) → is_under key front ≡ b → without key (front ∷ docs) ≡ cond b docs (front ∷ without key docs)
without-cons key front docs true e = ap (λ k. take k (front ∷ docs) ++ drop (k + 1) (front ∷ docs)) (here_or_further key front docs true e)
without-cons key front docs false e =
    let at = place key docs in
    let more : suc at + 1 ≡ suc (at + 1) = omega arith in
    ap (λ k. take k (front ∷ docs) ++ drop (k + 1) (front ∷ docs)) (here_or_further key front docs false e)
    ∙ ap (λ k. front ∷ (take at docs ++ drop k (front ∷ docs))) more

find-cons : (key : List ℕ) (front : DocText) (docs : List DocText) (b : Bool) → is_under key front ≡ b → find (is_under key) (front ∷ docs) ≡ cond b (Some front) (find (is_under key) docs)
find-cons key front docs b e = ap (λ t. cond t (Some front) (find (is_under key) docs)) e

itself : (doc : DocText) → is_under doc.key doc ≡ true
itself doc = (bytes_decides doc.key doc.key).1 refl

under : (key : List ℕ) (doc : DocText) → is_under key doc ≡ true → doc.key ≡ key
under key doc e = (bytes_decides doc.key key).0 e

not_under : (key : List ℕ) (doc : DocText) → doc.key ≢ key → is_under key doc ≡ false
not_under key doc other = at (is_under key doc) refl
  where
    at : (b : Bool) → is_under key doc ≡ b → is_under key doc ≡ false
    at true e = absurd (other (under key doc e))
    at false e = e

-- ---- sets without their first document

later : (front : DocText) (docs : List DocText) → HasDistinctKeys (front ∷ docs) → HasDistinctKeys docs
later front docs h i j d lt lt' = h (suc i) (suc j) d (omega arith) (omega arith)

none_like_front : (front : DocText) (docs : List DocText) → HasDistinctKeys (front ∷ docs) → (k : ℕ) (other : DocText) → slice_get docs k ≡ Some other → front.key ≢ other.key
none_like_front front docs h k other g same =
    let lt : k < length docs = slice_get_within docs k other g in
    let lt' : suc k < length (map (λ (d : DocText). d.key) (front ∷ docs)) = omega (arith, lt, length-map docs (λ (d : DocText). d.key)) in
    let there : get_or (map (λ (d : DocText). d.key) docs) k other.key ≡ other.key =
    get_or-map (λ d. d.key) docs k other other.key lt ∙ ap (λ (d : DocText). d.key) (get_or_from_slice_get docs k other other g) in
    h 0 (suc k) other.key (omega arith) lt' (same ∙ sym there)

none_found : (key : List ℕ) (docs : List DocText) → ((k : ℕ) (other : DocText) → slice_get docs k ≡ Some other → key ≢ other.key) → find (is_under key) docs ≡ None
none_found key [] none = refl
none_found key (doc ∷ docs) none =
    find-cons key doc docs false (not_under key doc (λ e. none 0 doc refl (sym e))) ∙ none_found key docs (λ k other g. none (suc k) other g)

-- ---- the laws

pub put_is_found : PutIsFound
put_is_found doc [] = find-cons doc.key doc [] true (itself doc)
put_is_found doc (front ∷ docs) = at (is_under doc.key front) refl (put_is_found doc docs)
  where
    at : (b : Bool) → is_under doc.key front ≡ b → find (is_under doc.key) (put doc docs) ≡ Some doc → find (is_under doc.key) (put doc (front ∷ docs)) ≡ Some doc
    at true e more = ap (find (is_under doc.key)) (put-cons doc front docs true e) ∙ find-cons doc.key doc docs true (itself doc)
    at false e more = ap (find (is_under doc.key)) (put-cons doc front docs false e) ∙ find-cons doc.key front (put doc docs) false e ∙ more

pub put_keeps_places : PutKeepsPlaces
put_keeps_places doc other [] k h g = absurd (cc)
put_keeps_places doc other (front ∷ docs) k h g = at (is_under doc.key front) refl k g (λ i. put_keeps_places doc other docs i (later front docs h))
  where
    at : (b : Bool) → is_under doc.key front ≡ b → (k : ℕ) → slice_get (front ∷ docs) k ≡ Some other →
        ((i : ℕ) → slice_get docs i ≡ Some other → slice_get (put doc docs) i ≡ Some (cond (is_under doc.key other) doc other)) →
        slice_get (put doc (front ∷ docs)) k ≡ Some (cond (is_under doc.key other) doc other)
    at b e zero g more =
        let same : front ≡ other = cc in
        ap (λ xs. slice_get xs 0) (put-cons doc front docs b e) ∙ first b ∙ ap (λ t. Some (cond t doc other)) (sym e ∙ ap (is_under doc.key) same)
      where
        first : (b : Bool) → slice_get (cond b (doc ∷ docs) (front ∷ put doc docs)) 0 ≡ Some (cond b doc other)
        first true = refl
        first false = cc
    at true e (suc i) g more =
        let differs = none_like_front front docs h i other g in
        let no : is_under doc.key other ≡ false = not_under doc.key other (λ same. differs (under doc.key front e ∙ sym same)) in
        ap (λ xs. slice_get xs (suc i)) (put-cons doc front docs true e) ∙ g ∙ ap (λ t. Some (cond t doc other)) (sym no)
    at false e (suc i) g more = ap (λ xs. slice_get xs (suc i)) (put-cons doc front docs false e) ∙ more i g

pub new_goes_last : NewGoesLast
new_goes_last doc [] none = refl
new_goes_last doc (front ∷ docs) none = at (is_under doc.key front) refl (new_goes_last doc docs)
  where
    at : (b : Bool) → is_under doc.key front ≡ b → (find (is_under doc.key) docs ≡ None → put doc docs ≡ docs ++ doc ∷ []) → put doc (front ∷ docs) ≡ (front ∷ docs) ++ doc ∷ []
    at true e more = let clash : Some front ≡ None = sym (find-cons doc.key front docs true e) ∙ none in cc
    at false e more = put-cons doc front docs false e ∙ ap (λ xs. front ∷ xs) (more (sym (find-cons doc.key front docs false e) ∙ none))

pub removed_is_gone : RemovedIsGone
removed_is_gone key [] h = refl
removed_is_gone key (front ∷ docs) h = at (is_under key front) refl (removed_is_gone key docs (later front docs h))
  where
    at : (b : Bool) → is_under key front ≡ b → find (is_under key) (without key docs) ≡ None → find (is_under key) (without key (front ∷ docs)) ≡ None
    at true e more =
        ap (find (is_under key)) (without-cons key front docs true e)
        ∙ none_found key docs (λ k other g same. none_like_front front docs h k other g (under key front e ∙ same))
    at false e more = ap (find (is_under key)) (without-cons key front docs false e) ∙ find-cons key front (without key docs) false e ∙ more

pub others_are_found : OthersAreFound
others_are_found key other [] ne = refl
others_are_found key other (front ∷ docs) ne = at (is_under key front) refl (others_are_found key other docs ne)
  where
    at : (b : Bool) → is_under key front ≡ b → find (is_under other) (without key docs) ≡ find (is_under other) docs → find (is_under other) (without key (front ∷ docs)) ≡ find (is_under other) (front ∷ docs)
    at true e more =
        ap (find (is_under other)) (without-cons key front docs true e)
        ∙ sym (find-cons other front docs false (not_under other front (λ same. ne (sym (under key front e) ∙ same))))
    at false e more =
        ap (find (is_under other)) (without-cons key front docs false e)
        ∙ ap (λ found. cond (is_under other front) (Some front) found) more
