-- What is put together from good parts is a reference.
use Rattle.std.proofs.Common.{◌≡◌, ℕ, zero, suc, Bool, true, false, ◌&&◌, ◌||◌, cond, eqb, List, [], ◌∷◌, ◌++◌, length, drop, Option, None, Some, IfSome, IsSome, is_some, is_none, refl, ap, sym, ◌∙◌, inl, inr, codes}
use Rattle.std.specs.List.{list_all, starts_with}
use Rattle.std.specs.Str.{IsAscii, bytes_eq, chars, encode_utf8_all}
use Rattle.std.proofs.lemmas.Str.{encodes-IsAscii, chars-IsAscii}
use Rattle.std.proofs.lemmas.List.{append-nil}
use Rattle.std.proofs.lemmas.Bool.{false≢true, and_parts, and_from, cases_Bool, cond_both}
use Rattle.vg_base.proofs.Ascii.{is_small, small_ascii}
use Rattle.uri_links.specs.Split.{has, before, from, after, before_last, up_to_last, slash, question, hash}
use Rattle.uri_links.specs.Parts.{Parts, parts, recompose, HasNone, IsEmptyOrRooted, scheme_text, authority_text, query_text, fragment_text, has_authority, authority_of, path_of}
use Rattle.uri_links.specs.Allowed.{is_scheme, is_allowed, are_allowed, is_absent_or, are_good, is_reference}
use Rattle.uri_links.specs.Dots.{Buffers, first_segment, step, steps, remove_dot_segments}
use Rattle.uri_links.specs.Resolution.{merge, target_path, target, is_absolute, key}
use Rattle.uri_links.proofs.SplitLemmas.{before-past, from-past, has-before, last-whole, before_last-none, up_to_last-is, up_to_last-none, parted, rooted-from}
use Rattle.uri_links.proofs.PartsLemmas.{parts-apart, no-authority_text, recompose-parts, parts-front, fragment-parts}
use Rattle.uri_links.proofs.AllowedLemmas.{allowed-append, allowed-front, allowed-back, allowed-drop, allowed-from, allowed-before, allowed-none, allowed-narrow, allowed_small, scheme_small, scheme_has_none}

pub record IsGood (p : Parts) : Type 0 where
  pub scheme : is_absent_or is_scheme p.scheme ≡ true
  pub authority : is_absent_or (are_allowed (codes "[]")) p.authority ≡ true
  pub path : are_allowed (codes "/") p.path ≡ true
  pub query : is_absent_or (are_allowed (codes "/?")) p.query ≡ true
  pub fragment : is_absent_or (are_allowed (codes "/?")) p.fragment ≡ true

five : (a b c d e : Bool) → (a && b && c && d && e) ≡ true → (a ≡ true) × (b ≡ true) × (c ≡ true) × (d ≡ true) × (e ≡ true)
five true true true true true h = (refl, refl, refl, refl, refl)
five true true true true false h = absurd (false≢true h)
five true true true false e h = absurd (false≢true h)
five true true false d e h = absurd (false≢true h)
five true false c d e h = absurd (false≢true h)
five false b c d e h = absurd (false≢true h)

pub good_from : (p : Parts) → are_good p ≡ true → IsGood p
good_from p h =
    let f = five (is_absent_or is_scheme p.scheme) (is_absent_or (are_allowed (codes "[]")) p.authority) (are_allowed (codes "/") p.path)
    (is_absent_or (are_allowed (codes "/?")) p.query) (is_absent_or (are_allowed (codes "/?")) p.fragment) h in
    record { scheme = f.0; authority = f.1; path = f.2; query = f.3; fragment = f.4 }

pub good_to : (p : Parts) → IsGood p → are_good p ≡ true
good_to p g = rw (g.scheme, g.authority, g.path, g.query, g.fragment) refl

pub reference_good : (text : List ℕ) → is_reference text ≡ true → IsGood (parts text)
unfolding is_reference
reference_good text h = good_from (parts text) h

-- An authority and the path behind it, read anew.
split_good : (hier : List ℕ) → are_allowed (codes "/") hier ≡ true
    → (is_absent_or (are_allowed (codes "[]")) (authority_of hier) ≡ true) × (are_allowed (codes "/") (path_of hier) ≡ true)
split_good hier h = go (has_authority hier) refl
  where
    go : (b : Bool) → has_authority hier ≡ b
        → (is_absent_or (are_allowed (codes "[]")) (cond (has_authority hier) (Some (before slash (drop 2 hier))) None) ≡ true)
        × (are_allowed (codes "/") (cond (has_authority hier) (from slash (drop 2 hier)) hier) ≡ true)
    go true e =
        let inner = allowed-drop (codes "/") 2 hier h in
        rw e (
          allowed-narrow (before slash (drop 2 hier)) (allowed-before (codes "/") (drop 2 hier) inner) (has-before slash (drop 2 hier)),
          allowed-from (codes "/") slash (drop 2 hier) inner,
        )
    go false e = rw e (refl, h)

hier_good : (authority : Option (List ℕ)) (path : List ℕ) → is_absent_or (are_allowed (codes "[]")) authority ≡ true → are_allowed (codes "/") path ≡ true
    → (is_absent_or (are_allowed (codes "[]")) (authority_of (authority_text authority ++ path)) ≡ true) × (are_allowed (codes "/") (path_of (authority_text authority ++ path)) ≡ true)
hier_good None path a p = split_good path p
hier_good (Some authority) path a p =
    let none : has slash authority ≡ false = allowed-none (codes "[]") slash authority refl refl a in (
      ap (are_allowed (codes "[]")) (before-past slash authority path none)
          ∙ allowed-append (codes "[]") authority (before slash path) a (allowed-narrow (before slash path) (allowed-before (codes "/") path p) (has-before slash path)),
      ap (are_allowed (codes "/")) (from-past slash authority path none) ∙ allowed-from (codes "/") slash path p,
    )

-- the parts of what is put together from good parts, the first of which is a scheme
module _ (p : Parts) (g : IsGood p) (s : IsSome p.scheme) where
  abbrev pub hier : List ℕ
  hier = authority_text p.authority ++ p.path

  scheme_none : (o : Option (List ℕ)) → is_absent_or is_scheme o ≡ true → IfSome o (HasNone (codes ":/?#"))
  scheme_none None h = tt
  scheme_none (Some t) h = scheme_has_none t h

  none_in : (c : ℕ) (also : List ℕ) (o : Option (List ℕ)) → is_allowed also c ≡ false → eqb c 37 ≡ false → is_absent_or (are_allowed also) o ≡ true → IfSome o (λ t. has c t ≡ false)
  none_in c also None n e h = tt
  none_in c also (Some t) n e h = allowed-none also c t n e h

  there : (o : Option (List ℕ)) → IsSome o → o ≡ None → ⊥
  there None h e = false≢true h
  there (Some t) h e = cc

  pub parts-recompose : parts (recompose p) ≡ (let q : Parts = record { scheme = p.scheme; authority = authority_of hier; path = path_of hier; query = p.query; fragment = p.fragment } in q)
  parts-recompose = parts-apart p.scheme hier p.query p.fragment (scheme_none p.scheme g.scheme) (λ none. absurd (there p.scheme s none))
      (no-authority_text question p.authority p.path refl (none_in question (codes "[]") p.authority refl refl g.authority) (allowed-none (codes "/") question p.path refl refl g.path))
      (no-authority_text hash p.authority p.path refl (none_in hash (codes "[]") p.authority refl refl g.authority) (allowed-none (codes "/") hash p.path refl refl g.path))
      (none_in hash (codes "/?") p.query refl refl g.query)

  pub recompose_reference : is_reference (recompose p) ≡ true
  unfolding is_reference
  recompose_reference =
      let h = hier_good p.authority p.path g.authority g.path in
      ap are_good parts-recompose ∙ rw (g.scheme, h.0, h.1, g.query, g.fragment) refl

  pub recompose_scheme : (parts (recompose p)).scheme ≡ p.scheme
  recompose_scheme = ap (λ (q : Parts). q.scheme) parts-recompose

  pub recompose_fragment : (parts (recompose p)).fragment ≡ p.fragment
  recompose_fragment = ap (λ (q : Parts). q.fragment) parts-recompose

-- A path without its dot segments has allowed characters.
before_last_allowed : (xs : List ℕ) → are_allowed (codes "/") xs ≡ true → are_allowed (codes "/") (before_last slash xs) ≡ true
before_last_allowed xs h = elim (cases_Bool (has slash xs)) [
  | inl e ↦ let w = last-whole slash xs e in allowed-front (codes "/") (before_last slash xs) slash w.0 refl (ap (are_allowed (codes "/")) (sym w.1) ∙ h)
  | inr e ↦ ap (are_allowed (codes "/")) (before_last-none slash xs e)
]

up_to_last_allowed : (xs : List ℕ) → are_allowed (codes "/") xs ≡ true → are_allowed (codes "/") (up_to_last slash xs) ≡ true
up_to_last_allowed xs h = elim (cases_Bool (has slash xs)) [
  | inl e ↦ ap (are_allowed (codes "/")) (up_to_last-is slash xs e) ∙ allowed-append (codes "/") (before_last slash xs) (slash ∷ []) (before_last_allowed xs h) refl
  | inr e ↦ ap (are_allowed (codes "/")) (up_to_last-none slash xs e)
]

abbrev AreAllowed : Buffers → Type 0
AreAllowed b = (are_allowed (codes "/") b.input ≡ true) × (are_allowed (codes "/") b.output ≡ true)

segment_allowed : (c : ℕ) (i : List ℕ) → are_allowed (codes "/") (c ∷ i) ≡ true → are_allowed (codes "/") (first_segment (c ∷ i)) ≡ true
segment_allowed c i h = go (from slash i) (rooted-from i) (ap (λ l. are_allowed (codes "/") (c ∷ l)) (parted slash i) ∙ h)
  where
    go : (r : List ℕ) → IsEmptyOrRooted r → are_allowed (codes "/") ((c ∷ before slash i) ++ r) ≡ true → are_allowed (codes "/") (c ∷ before slash i) ≡ true
    go [] e g = ap (are_allowed (codes "/")) (sym (append-nil (c ∷ before slash i))) ∙ g
    go (x ∷ r) e g = allowed-front (codes "/") (c ∷ before slash i) slash r refl (ap (λ y. are_allowed (codes "/") ((c ∷ before slash i) ++ y ∷ r)) (sym e) ∙ g)

step_allowed : (c : ℕ) (i o : List ℕ) → are_allowed (codes "/") (c ∷ i) ≡ true → are_allowed (codes "/") o ≡ true
    → AreAllowed (step (record { input = c ∷ i; output = o }))
unfolding step
step_allowed c i o h g =
    cond_both (starts_with eqb (c ∷ i) (codes "../")) _ _ AreAllowed (λ _. (allowed-drop (codes "/") 3 (c ∷ i) h, g)) (λ _.
    cond_both (starts_with eqb (c ∷ i) (codes "./")) _ _ AreAllowed (λ _. (allowed-drop (codes "/") 2 (c ∷ i) h, g)) (λ _.
    cond_both (starts_with eqb (c ∷ i) (codes "/./")) _ _ AreAllowed (λ _. (allowed-drop (codes "/") 2 (c ∷ i) h, g)) (λ _.
    cond_both (bytes_eq (c ∷ i) (codes "/.")) _ _ AreAllowed (λ _. (refl, g)) (λ _.
    cond_both (starts_with eqb (c ∷ i) (codes "/../")) _ _ AreAllowed (λ _. (allowed-drop (codes "/") 3 (c ∷ i) h, before_last_allowed o g)) (λ _.
    cond_both (bytes_eq (c ∷ i) (codes "/..")) _ _ AreAllowed (λ _. (refl, before_last_allowed o g)) (λ _.
    cond_both (bytes_eq (c ∷ i) (codes ".") || bytes_eq (c ∷ i) (codes "..")) _ _ AreAllowed (λ _. (refl, g)) (λ _.
    (allowed-from (codes "/") slash i (allowed-back (codes "/") (c ∷ []) i h), allowed-append (codes "/") o (first_segment (c ∷ i)) g (segment_allowed c i h)))))))))

steps_allowed : (n : ℕ) (i o : List ℕ) → are_allowed (codes "/") i ≡ true → are_allowed (codes "/") o ≡ true
    → are_allowed (codes "/") (steps n (record { input = i; output = o })).output ≡ true
unfolding steps
steps_allowed zero i o h g = g
steps_allowed (suc n) [] o h g = g
steps_allowed (suc n) (c ∷ i) o h g =
    let next = step (record { input = c ∷ i; output = o }) in
    let a = step_allowed c i o h g in
    steps_allowed n next.input next.output a.0 a.1

pub removed_allowed : (path : List ℕ) → are_allowed (codes "/") path ≡ true → are_allowed (codes "/") (remove_dot_segments path) ≡ true
unfolding remove_dot_segments
removed_allowed path h = steps_allowed (length path) path [] h refl

pub without_dots_good : (p : Parts) → IsGood p → IsGood (record p { path = remove_dot_segments p.path })
without_dots_good p g = record { scheme = g.scheme; authority = g.authority; path = removed_allowed p.path g.path; query = g.query; fragment = g.fragment }

pub merge_allowed : (base : Parts) (path : List ℕ) → are_allowed (codes "/") base.path ≡ true → are_allowed (codes "/") path ≡ true → are_allowed (codes "/") (merge base path) ≡ true
merge_allowed base path b p = cond_both (is_some base.authority && bytes_eq base.path []) _ _ (λ l. are_allowed (codes "/") l ≡ true)
    (λ _. p) (λ _. allowed-append (codes "/") (up_to_last slash base.path) path (up_to_last_allowed base.path b) p)

-- References are of ASCII.
small_append : (xs ys : List ℕ) → list_all is_small xs ≡ true → list_all is_small ys ≡ true → list_all is_small (xs ++ ys) ≡ true
small_append [] ys h g = g
small_append (x ∷ xs) ys h g =
    let p = and_parts (is_small x) (list_all is_small xs) h in and_from (is_small x) (list_all is_small (xs ++ ys)) p.0 (small_append xs ys p.1 g)

recompose_small : (p : Parts) → IsGood p → list_all is_small (recompose p) ≡ true
recompose_small p g =
    small_append (scheme_text p.scheme) (authority_text p.authority ++ p.path ++ (query_text p.query ++ fragment_text p.fragment)) (scheme_part p.scheme g.scheme)
    (small_append (authority_text p.authority ++ p.path) (query_text p.query ++ fragment_text p.fragment)
    (small_append (authority_text p.authority) p.path (authority_part p.authority g.authority) (allowed_small (codes "/") p.path refl g.path))
    (small_append (query_text p.query) (fragment_text p.fragment) (query_part p.query g.query) (fragment_part p.fragment g.fragment)))
  where
    scheme_part : (o : Option (List ℕ)) → is_absent_or is_scheme o ≡ true → list_all is_small (scheme_text o) ≡ true
    scheme_part None h = refl
    scheme_part (Some s) h = small_append s (codes ":") (scheme_small s h) refl

    authority_part : (o : Option (List ℕ)) → is_absent_or (are_allowed (codes "[]")) o ≡ true → list_all is_small (authority_text o) ≡ true
    authority_part None h = refl
    authority_part (Some a) h = allowed_small (codes "[]") a refl h

    query_part : (o : Option (List ℕ)) → is_absent_or (are_allowed (codes "/?")) o ≡ true → list_all is_small (query_text o) ≡ true
    query_part None h = refl
    query_part (Some q) h = allowed_small (codes "/?") q refl h

    fragment_part : (o : Option (List ℕ)) → is_absent_or (are_allowed (codes "/?")) o ≡ true → list_all is_small (fragment_text o) ≡ true
    fragment_part None h = refl
    fragment_part (Some f) h = allowed_small (codes "/?") f refl h

pub reference_ascii : (text : List ℕ) → is_reference text ≡ true → IsAscii text
reference_ascii text h = small_ascii text (ap (list_all is_small) (sym (recompose-parts text)) ∙ recompose_small (parts text) (reference_good text h))

-- The bytes of a reference are its characters, and bytes that are none are the characters of none.
pub bytes_same : (cs bs : List ℕ) → bs ≡ encode_utf8_all cs → is_reference cs ≡ true → bs ≡ cs
bytes_same cs bs e r = e ∙ encodes-IsAscii cs (reference_ascii cs r)

pub chars_same : (bs : List ℕ) → is_reference bs ≡ true → chars bs ≡ bs
chars_same bs r = chars-IsAscii bs (reference_ascii bs r)

pub reference_bytes : (cs bs : List ℕ) → bs ≡ encode_utf8_all cs → chars bs ≡ cs → is_reference bs ≡ is_reference cs
reference_bytes cs bs e f = elim (cases_Bool (is_reference bs)) [
  | inl r ↦ ap is_reference (sym (chars_same bs r) ∙ f)
  | inr r ↦ elim (cases_Bool (is_reference cs)) [
    | inl s ↦ ap is_reference (bytes_same cs bs e s)
    | inr s ↦ r ∙ sym s
  ]
]

pub front_reference : (text : List ℕ) → is_reference text ≡ true → is_reference (before hash text) ≡ true
unfolding is_reference
front_reference text r =
    let g = reference_good text r in
    ap are_good (parts-front text) ∙ rw (g.scheme, g.authority, g.path, g.query) refl

pub fragment_chars : (text fragment : List ℕ) → is_reference text ≡ true → after hash text ≡ Some fragment → chars fragment ≡ fragment
fragment_chars text fragment r e =
    let g = reference_good text r in
    let f : are_allowed (codes "/?") fragment ≡ true = ap (is_absent_or (are_allowed (codes "/?"))) (sym (fragment-parts text ∙ e)) ∙ g.fragment in
    chars-IsAscii fragment (small_ascii fragment (allowed_small (codes "/?") fragment refl f))

-- the target of good parts
abbrev IsTarget : Parts → Type 0
IsTarget p = IsGood p × IsSome p.scheme

pub target_path_allowed : (base : Parts) (path : List ℕ) → are_allowed (codes "/") base.path ≡ true → are_allowed (codes "/") path ≡ true → are_allowed (codes "/") (target_path base path) ≡ true
target_path_allowed base path b p = cond_both (starts_with eqb path (codes "/")) _ _ (λ l. are_allowed (codes "/") l ≡ true) (λ _. p) (λ _. merge_allowed base path b p)

pub target_good : (base r : Parts) → IsGood base → IsGood r → IsSome base.scheme → IsTarget (target base r)
target_good base r b g s =
    cond_both (is_some r.scheme) _ _ IsTarget (λ h. (without_dots_good r g, h)) (λ _.
    cond_both (is_some r.authority) _ _ IsTarget
    (λ _. (record { scheme = b.scheme; authority = g.authority; path = removed_allowed r.path g.path; query = g.query; fragment = g.fragment }, s)) (λ _.
    cond_both (bytes_eq r.path []) _ _ IsTarget
    (λ _. (
      record {
        scheme = b.scheme;
        authority = b.authority;
        path = b.path;
        fragment = g.fragment;
        query = cond_both (is_some r.query) r.query base.query (λ q. is_absent_or (are_allowed (codes "/?")) q ≡ true) (λ _. g.query) (λ _. b.query);
      },
      s,
    )) (λ _.
    (record { scheme = b.scheme; authority = b.authority; path = removed_allowed (target_path base r.path) (target_path_allowed base r.path b.path g.path); query = g.query; fragment = g.fragment }, s))))

-- the key of a reference that is absolute is absolute
pub key_absolute : (text : List ℕ) → is_reference text ≡ true → is_absolute text ≡ true → is_absolute (key text) ≡ true
unfolding is_absolute key
key_absolute text r a =
    let p : Parts = record (parts text) { path = remove_dot_segments (parts text).path } in
    let g : IsGood p = without_dots_good (parts text) (reference_good text r) in
    let h = and_parts (is_some (parts text).scheme) (is_none (parts text).fragment) a in
    and_from (is_some (parts (recompose p)).scheme) (is_none (parts (recompose p)).fragment)
    (ap is_some (recompose_scheme p g h.0) ∙ h.0) (ap is_none (recompose_fragment p g h.0) ∙ h.1)

pub absolute_scheme : (text : List ℕ) → is_absolute text ≡ true → IsSome (parts text).scheme
unfolding is_absolute
absolute_scheme text a = (and_parts (is_some (parts text).scheme) (is_none (parts text).fragment) a).0
