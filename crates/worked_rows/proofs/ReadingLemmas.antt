-- The readings that a publish is given: where its entries stand, and what the documents that are reached read as.
use Rattle.std.proofs.Common.{arith, ◌≡◌, ◌⊎◌, inl, inr, ⊎_elim, refl, sym, ap, subst, ◌∙◌, ℕ, zero, suc, ◌+◌, ◌<◌, ◌≤◌, Bool, true, false, List, [], ◌∷◌, ◌++◌, length, get_or, take, length-append, Option, Some, None}
use Rattle.std.specs.Prelude.{Contains, slice_get, ◌==◌, MatchOption}
use Rattle.std.specs.List.{position, list_any}
use Rattle.std.specs.Option.{option_map_or}
use Rattle.std.proofs.lemmas.Bool.{cases_lt, eqb-true, eq-eqb, or_cases}
use Rattle.std.proofs.lemmas.List.Folds.{list_any_at}
use Rattle.std.proofs.lemmas.List.Quantifiers.{position-Some}
use Rattle.std.proofs.lemmas.List.{append-nil, get_or_append_left, get_or_push}
use Rattle.std.proofs.lemmas.Option.{slice_get_within, slice_get-get_or, get_or_from_slice_get}
use Rattle.vg_base.specs.declared.numbers.DocIx.{DocIx}
use Rattle.grammar_tree.specs.declared.doc_set.DocText.{DocText}
use Rattle.grammar_tree.specs.declared.document.ReadDoc.{ReadDoc}
use Rattle.grammar_tree.specs.DocSets.{is_under}
use Rattle.rule_reader.proofs.Rests.{front_next}
use Rattle.rule_reader.specs.Sets.{ArePlaces, HasImport, IsClosure, IsReached, IsWalk, ix, last_of}
use Rattle.linker.specs.Readings.{HaveReadings, HasReading, IsReadAs, Readings, place_of, staged}

-- ---- where the entries stand

-- the place of one more entry follows those of the entries before it
pub staged_more : (set : List DocText) (front : List (List ℕ)) (entry : List ℕ) → staged set (front ++ entry ∷ []) ≡ staged set front ++ staged set (entry ∷ [])
staged_more set [] entry = refl
staged_more set (e ∷ front) entry = at (place_of set e) (staged_more set front entry)
  where
    at : (p : Option ℕ) → staged set (front ++ entry ∷ []) ≡ staged set front ++ staged set (entry ∷ [])
        → option_map_or (λ x. ix x ∷ staged set (front ++ entry ∷ [])) p (staged set (front ++ entry ∷ []))
        ≡ option_map_or (λ x. ix x ∷ staged set front) p (staged set front) ++ staged set (entry ∷ [])
    at None more = more
    at (Some x) more = ap (λ places. ix x ∷ places) more

-- an entry that isn't staged adds none
pub place_none : (set : List DocText) (entries : List (List ℕ)) (i : ℕ) (entry : List ℕ) → i < length entries → entry ≡ get_or entries i entry → place_of set entry ≡ None
    → staged set (take i entries) ≡ staged set (take (i + 1) entries)
place_none set entries i entry below e is =
    sym (ap (staged set) (front_next entries i entry below e) ∙ staged_more set (take i entries) entry
    ∙ ap (λ p. staged set (take i entries) ++ option_map_or (λ x. ix x ∷ []) p []) is ∙ append-nil (staged set (take i entries)))

-- a staged one adds its place
pub place_some : (set : List DocText) (entries : List (List ℕ)) (i : ℕ) (entry : List ℕ) (x : ℕ) → i < length entries → entry ≡ get_or entries i entry → place_of set entry ≡ Some x
    → staged set (take i entries) ++ ix x ∷ [] ≡ staged set (take (i + 1) entries)
place_some set entries i entry x below e is =
    sym (ap (staged set) (front_next entries i entry below e) ∙ staged_more set (take i entries) entry
    ∙ ap (λ p. staged set (take i entries) ++ option_map_or (λ y. ix y ∷ []) p []) is)

-- a document that is found stands in the set
pub place_within : (set : List DocText) (entry : List ℕ) (x : ℕ) → place_of set entry ≡ Some x → x < length set
place_within set entry x is = (position-Some (is_under entry) set x (record { key = []; text = [] }) is).0

-- staged entries stand in the set
pub staged_within : (set : List DocText) (entries : List (List ℕ)) → ArePlaces set (staged set entries)
staged_within set [] = λ k d lt. absurd (omega (arith, lt))
staged_within set (entry ∷ entries) = at (place_of set entry) refl (staged_within set entries)
  where
    first : (x : ℕ) → x < length set → ArePlaces set (staged set entries) → ArePlaces set (ix x ∷ staged set entries)
    first x within more zero d lt = within
    first x within more (suc k) d lt = more k d (omega (arith, lt))

    at : (p : Option ℕ) → place_of set entry ≡ p → ArePlaces set (staged set entries) → ArePlaces set (option_map_or (λ x. ix x ∷ staged set entries) p (staged set entries))
    at None is more = more
    at (Some x) is more = first x (place_within set entry x is) more

-- what is reached from places stands in the set
reached_within : (set : List DocText) (entries : List DocIx) (x : ℕ) → ArePlaces set entries → IsReached set entries x → x < length set
reached_within set entries x places r = subst (λ y. y < length set) r.ends (walked r.entry r.walk entry_within r.is_walk)
  where
    entry_within : r.entry < length set
    entry_within = let c = r.is_entry in subst (λ (d : DocIx). d.0 < length set) c.2 (places c.0 (ix r.entry) c.1)

    walked : (y : ℕ) (walk : List ℕ) → y < length set → IsWalk set y walk → last_of y walk < length set
    walked y [] within w = within
    walked y (z ∷ walk) within w = walked z walk (slice_get_within set z w.0.other w.0.is_other) w.1

-- ---- what is read

-- whether document x is among these
abbrev pub has : List DocIx → ℕ → Bool
has docs x = list_any (λ doc. doc.0 == x) docs

has_listed : (docs : List DocIx) (x : ℕ) → Contains docs (ix x) → has docs x ≡ true
has_listed docs x c = list_any_at (λ doc. doc.0 == x) docs c.0 (ix x) c.1 (eq-eqb _ x (ap (λ d. d.0) c.2))

listed : (docs : List DocIx) (x : ℕ) → has docs x ≡ true → Contains docs (ix x)
listed [] x h = absurd (cc)
listed (d ∷ docs) x h = ⊎_elim
    (λ is. (0, omega arith, ap ix (eqb-true d.0 x is)))
    (λ later. let c = listed docs x later in (suc c.0, omega (arith, c.1), c.2))
    (or_cases (d.0 == x) (has docs x) h)

-- a reading where one is needed
abbrev pub IsRead : Bool → List ℕ → Option ReadDoc → Type 0
IsRead needed text reading = MatchOption reading (needed ≡ false) (λ read. (needed ≡ true) × IsReadAs text read)

-- the first n documents of the set are read
pub record AreRead (set : List DocText) (needed : List DocIx) (n : ℕ) (docs : Readings) : Type 0 where
  pub sized : length docs ≡ n
  pub each : (x : ℕ) (doc : DocText) (reading : Option ReadDoc) → slice_get set x ≡ Some doc → slice_get docs x ≡ Some reading → IsRead (has needed x) doc.text reading

pub none_read : (set : List DocText) (needed : List DocIx) → AreRead set needed 0 []
none_read set needed = record { sized = refl; each = λ x doc reading at is. absurd (omega (arith, slice_get_within [] x reading is)) }

-- one more document is read
pub read_more : {set : List DocText} {needed : List DocIx} {n : ℕ} {docs : Readings} (doc : DocText) (reading : Option ReadDoc) → AreRead set needed n docs
    → slice_get set n ≡ Some doc → IsRead (has needed n) doc.text reading → AreRead set needed (n + 1) (docs ++ reading ∷ [])
read_more {set} {needed} {n} {docs} doc reading are at is = record {
  sized = omega (arith, length-append docs (reading ∷ []), are.sized);
  each = λ x other r here there. one x other r here there (slice_get_within (docs ++ reading ∷ []) x r there);
}
  where
    one : (x : ℕ) (other : DocText) (r : Option ReadDoc) → slice_get set x ≡ Some other → slice_get (docs ++ reading ∷ []) x ≡ Some r → x < length (docs ++ reading ∷ [])
        → IsRead (has needed x) other.text r
    one x other r here there below = ⊎_elim earlier last (cases_lt x (length docs))
      where
        found : get_or (docs ++ reading ∷ []) x r ≡ r
        found = get_or_from_slice_get (docs ++ reading ∷ []) x r r there

        earlier : x < length docs → IsRead (has needed x) other.text r
        earlier lt = are.each x other r here
            (slice_get-get_or docs x r lt ∙ ap Some (sym (get_or_append_left docs (reading ∷ []) r x lt) ∙ found))

        last : length docs ≤ x → IsRead (has needed x) other.text r
        last ge =
            let end : length docs ≡ x = omega (arith, below, ge, length-append docs (reading ∷ [])) in
            let same : n ≡ x = sym are.sized ∙ end in
            let now : slice_get set x ≡ Some doc = subst (λ m. slice_get set m ≡ Some doc) same at in
            let doc_same : doc ≡ other = sym (get_or_from_slice_get set x doc doc now) ∙ get_or_from_slice_get set x other doc here in
            let reading_same : reading ≡ r = sym (get_or_push docs reading r x end) ∙ found in
            subst (λ (d : DocText). IsRead (has needed x) d.text r) doc_same
            (subst (λ q. IsRead (has needed x) doc.text q) reading_same (subst (λ m. IsRead (has needed m) doc.text reading) same is))

-- all of the set are read: where these are the documents that are reached, that is what a publish is given
pub have_readings : {set : List DocText} {needed : List DocIx} {docs : Readings} (entries : List DocIx) → ArePlaces set entries → IsClosure set entries needed
    → AreRead set needed (length set) docs → HaveReadings set entries docs
have_readings {set} {needed} {docs} entries places closure are = record {
  sized = are.sized;
  each = λ x reached. there x reached (reached_within set entries x places reached);
  others = λ x reading e.
      let below : x < length set = omega (arith, slice_get_within docs x (Some reading) e, are.sized) in
      (closure.exact x).0 (listed needed x (are.each x (doc_at x) (Some reading) (slice_get-get_or set x nothing below) e).0);
}
  where
    nothing : DocText
    nothing = record { key = []; text = [] }

    doc_at : ℕ → DocText
    doc_at x = get_or set x nothing

    there : (x : ℕ) → IsReached set entries x → x < length set → HasReading set docs x
    there x reached below = of (get_or docs x None) in_docs (are.each x (doc_at x) (get_or docs x None) in_set in_docs)
      where
        in_set : slice_get set x ≡ Some (doc_at x)
        in_set = slice_get-get_or set x nothing below

        in_docs : slice_get docs x ≡ Some (get_or docs x None)
        in_docs = slice_get-get_or docs x None (omega (arith, below, are.sized))

        of : (q : Option ReadDoc) → slice_get docs x ≡ Some q → IsRead (has needed x) (doc_at x).text q → HasReading set docs x
        of None e is = let yet : has needed x ≡ true = has_listed needed x ((closure.exact x).1 reached) in absurd (cc)
        of (Some reading) e is = record { doc = doc_at x; reading = reading; is_staged = in_set; is_there = e; reads = is.1 }
