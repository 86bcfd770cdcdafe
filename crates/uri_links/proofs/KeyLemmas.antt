-- A path without its dot segments is no longer than before, so a key can be read; and a key is its own key.
use Rattle.std.proofs.Common.{◌≡◌, ℕ, zero, suc, ◌+◌, ◌<◌, ◌≤◌, true, false, cond, eqb, List, [], ◌∷◌, ◌++◌, length, drop, Option, None, Some, IfSome, refl, ap, sym, ◌∙◌, subst, ◌⊎◌, inl, inr, arith, codes}
use Rattle.std.specs.Str.{encode_utf8_all}
use Rattle.std.proofs.lemmas.List.{length-append, append_assoc, append-nil}
use Rattle.std.proofs.lemmas.Str.{encodes-IsAscii}
use Rattle.std.proofs.lemmas.Bool.{cond_both}
use Rattle.std.proofs.lemmas.Bool.Decides.{Decides-eqb}
use Rattle.std.proofs.lemmas.Slice.Eq.{starts_is}
use Rattle.vg_base.proofs.Bytes.{length-le-byte_len}
use Rattle.uri_links.specs.declared.fault.UriFault.TheVariants.{NotAbsolute}
use Rattle.uri_links.specs.Split.{has, from, before_last, slash}
use Rattle.uri_links.specs.Parts.{Parts, parts, recompose, scheme_text, authority_text, query_text, fragment_text, has_authority, path_of}
use Rattle.uri_links.specs.Allowed.{are_allowed, is_absent_or, is_reference}
use Rattle.uri_links.specs.code.Kinds.{IsPlain, or_slash, behind_slash}
use Rattle.uri_links.specs.Dots.{Buffers, first_segment, after_segment, remove_dot_segments}
use Rattle.uri_links.specs.Faults.{reading_fault, key_fault}
use Rattle.uri_links.specs.Resolution.{key}
use Rattle.uri_links.proofs.SplitLemmas.{from-past}
use Rattle.uri_links.proofs.DotsLemmas.{removed, removed-empty, segment_whole, bare_goes, here_goes, up_goes, plain_goes}
use Rattle.uri_links.proofs.PlainLemmas.{kinds, remove-twice}
use Rattle.uri_links.proofs.PartsLemmas.{recompose-parts}
use Rattle.uri_links.proofs.AllowedLemmas.{allowed-none}
use Rattle.uri_links.proofs.FaultLemmas.{reading_none, reading_short, reading_by, key_from_none, key_none}
use Rattle.uri_links.proofs.ReferenceLemmas.{reference_good, reference_ascii, without_dots_good, parts-recompose, recompose_reference, key_absolute, absolute_scheme}

before_last-length : (c : ℕ) (xs : List ℕ) → length (before_last c xs) ≤ length xs
before_last-length c [] = omega arith
before_last-length c (x ∷ xs) =
    let inner = before_last-length c xs in
    cond_both (has c xs) (x ∷ before_last c xs) [] (λ l. length l ≤ suc (length xs)) (λ _. omega (arith, inner)) (λ _. omega arith)

-- the steps go on from less than they had
record Shortens (path o : List ℕ) : Type 0 where
  input : List ℕ
  output : List ℕ
  same : removed path o ≡ removed input output
  shorter : length input < length path
  no_longer : length output ≤ length o

-- the first segment is moved, or is lost
first_goes : (c : ℕ) (path o : List ℕ) → Shortens (c ∷ path) o ⊎ IsPlain (first_segment (c ∷ path))
first_goes c path o =
    let all : List ℕ = c ∷ path in
    let segment : List ℕ = first_segment all in
    let rest : List ℕ = after_segment all in
    elim (kinds segment) [
      | inl bare ↦
          let goes = bare_goes all segment rest (refl, refl) o bare in
          inl (record { input = behind_slash rest; output = o; same = goes.0; shorter = goes.1; no_longer = omega arith })
      | inr others ↦ elim others [
        | inl here ↦
            let goes = here_goes all segment rest (refl, refl) o here in
            inl (record { input = or_slash rest; output = o; same = goes.0; shorter = goes.1; no_longer = omega arith })
        | inr more ↦ elim more [
          | inl up ↦
              let goes = up_goes all segment rest (refl, refl) o up in
              inl (record { input = or_slash rest; output = before_last slash o; same = goes.0; shorter = goes.1; no_longer = before_last-length slash o })
          | inr p ↦ inr p
        ]
      ]
    ]

removed_length : (n : ℕ) (path o : List ℕ) → length path ≤ n → length (removed path o).output ≤ length path + length o
removed_length n [] o h = omega (arith, ap length (removed-empty [] o refl))
removed_length zero (c ∷ path) o h = absurd (omega arith)
removed_length (suc n) (c ∷ path) o h =
    let all : List ℕ = c ∷ path in
    let segment : List ℕ = first_segment all in
    let rest : List ℕ = after_segment all in
    elim (first_goes c path o) [
      | inl s ↦
          let inner = removed_length n s.input s.output (omega (arith, s.shorter, h)) in
          omega (arith, ap (λ (b : Buffers). length b.output) s.same, inner, s.shorter, s.no_longer)
      | inr p ↦
          let goes = plain_goes all segment rest (refl, refl) o (omega arith) p in
          let inner = removed_length n rest (o ++ segment) (omega (arith, goes.1, h)) in
          omega (arith, ap (λ (b : Buffers). length b.output) goes.0, inner, ap length (segment_whole all), length-append segment rest, length-append o segment)
    ]

pub remove-shorter : (path : List ℕ) → length (remove_dot_segments path) ≤ length path
unfolding remove_dot_segments
remove-shorter path = omega (arith, removed_length (length path) path [] (omega arith))

length-recompose : (p : Parts) → length (recompose p) ≡ length (scheme_text p.scheme) + length (authority_text p.authority) + length p.path + length (query_text p.query ++ fragment_text p.fragment)
length-recompose p =
    let back : List ℕ = query_text p.query ++ fragment_text p.fragment in
    let hier : List ℕ = authority_text p.authority ++ p.path in
    omega (arith, length-append (scheme_text p.scheme) (hier ++ back), length-append hier back, length-append (authority_text p.authority) p.path)

key-shorter : (text : List ℕ) → length (key text) ≤ length text
unfolding key
key-shorter text =
    let p : Parts = record (parts text) { path = remove_dot_segments (parts text).path } in
    omega (arith, length-recompose p, length-recompose (parts text), remove-shorter (parts text).path, ap length (recompose-parts text))

key_reference : (text : List ℕ) → key_fault text ≡ None → is_reference (key text) ≡ true
unfolding key
key_reference text e =
    let none = key_none text e in
    let p : Parts = record (parts text) { path = remove_dot_segments (parts text).path } in
    recompose_reference p (without_dots_good (parts text) (reference_good text (reading_none text none.0))) (absolute_scheme text none.1)

-- a key can be read
pub key_reads : (text : List ℕ) → key_fault text ≡ None → reading_fault (key text) ≡ None
key_reads text e =
    let reference = key_reference text e in
    let bytes : encode_utf8_all (key text) ≡ key text = encodes-IsAscii (key text) (reference_ascii (key text) reference) in
    reading_by (key text) (key text) true (sym bytes)
    (omega (arith, key-shorter text, length-le-byte_len text, reading_short text (key_none text e).0)) reference

-- every segment is moved: what is left is as long as what there was
abbrev IsWhole : List ℕ → List ℕ → Type 0
IsWhole path o = length (removed path o).output ≡ length path + length o

whole_plain : (c : ℕ) (path o : List ℕ) → IsWhole (c ∷ path) o → IsPlain (first_segment (c ∷ path))
whole_plain c path o w = elim (first_goes c path o) [
  | inl s ↦
      let most = removed_length (length s.input) s.input s.output (omega arith) in
      absurd (omega (arith, w, ap (λ (b : Buffers). length b.output) s.same, most, s.shorter, s.no_longer))
  | inr p ↦ p
]

whole_after : (c : ℕ) (path o : List ℕ) → IsWhole (c ∷ path) o → IsWhole (after_segment (c ∷ path)) (o ++ first_segment (c ∷ path))
whole_after c path o w =
    let all : List ℕ = c ∷ path in
    let segment : List ℕ = first_segment all in
    let rest : List ℕ = after_segment all in
    let goes = plain_goes all segment rest (refl, refl) o (omega arith) (whole_plain c path o w) in
    omega (arith, w, ap (λ (b : Buffers). length b.output) goes.0, ap length (segment_whole all), length-append segment rest, length-append o segment)

-- behind any output, then, all is moved
all_moved : (n : ℕ) (path o : List ℕ) → length path ≤ n → IsWhole path o → (output : List ℕ) → (removed path output).output ≡ output ++ path
all_moved n [] o h w output = removed-empty [] output refl ∙ sym (append-nil output)
all_moved zero (c ∷ path) o h w output = absurd (omega arith)
all_moved (suc n) (c ∷ path) o h w output =
    let all : List ℕ = c ∷ path in
    let segment : List ℕ = first_segment all in
    let rest : List ℕ = after_segment all in
    let goes = plain_goes all segment rest (refl, refl) output (omega arith) (whole_plain c path o w) in
    ap (λ (b : Buffers). b.output) goes.0
    ∙ (all_moved n rest (o ++ segment) (omega (arith, goes.1, h)) (whole_after c path o w) (output ++ segment)
    ∙ (append_assoc output segment rest ∙ ap (λ l. output ++ l) (sym (segment_whole all))))

abbrev Stays : List ℕ → Type 0
Stays path = remove_dot_segments path ≡ path

whole_stays : (path o : List ℕ) → IsWhole path o → Stays path
unfolding remove_dot_segments
whole_stays path o w = all_moved (length path) path o (omega arith) w []

-- also from its first slash on, and from the first behind two
from_stays : (path : List ℕ) → IsWhole path [] → Stays (from slash path)
from_stays [] w = whole_stays [] [] w
from_stays (c ∷ path) w = cond_both (eqb c slash) (c ∷ path) (from slash path) Stays
    (λ _. whole_stays (c ∷ path) [] w)
    (λ _. whole_stays (from slash path) (first_segment (c ∷ path)) (whole_after c path [] w))

behind_stays : (path rest : List ℕ) → path ≡ slash ∷ slash ∷ rest → IsWhole path [] → Stays (from slash rest)
behind_stays path rest e w =
    let next : IsWhole (slash ∷ rest) (slash ∷ []) = whole_after slash (slash ∷ rest) [] (subst (λ l. IsWhole l []) e w) in
    whole_stays (from slash rest) ((slash ∷ []) ++ first_segment (slash ∷ rest)) (whole_after slash rest (slash ∷ []) next)

-- so the path of what is put together stays
path_stays : (authority : Option (List ℕ)) (path : List ℕ) → IfSome authority (λ a. has slash a ≡ false) → IsWhole path []
    → Stays (path_of (authority_text authority ++ path))
path_stays None path n w = cond_both (has_authority path) (from slash (drop 2 path)) path Stays
    (λ h. behind_stays path (drop 2 path) ((starts_is Decides-eqb path (codes "//") (has_authority path) refl).0 h) w)
    (λ _. whole_stays path [] w)
path_stays (Some a) path n w = subst Stays (sym (from-past slash a path n)) (from_stays path w)

removed_whole : (path : List ℕ) → IsWhole (remove_dot_segments path) []
unfolding remove_dot_segments
removed_whole path = omega (arith, ap length (remove-twice path))

-- a key is its own key
pub key-twice : (text : List ℕ) → key_fault text ≡ None → key (key text) ≡ key text
unfolding key
key-twice text e =
    let none = key_none text e in
    let p : Parts = record (parts text) { path = remove_dot_segments (parts text).path } in
    let g = without_dots_good (parts text) (reference_good text (reading_none text none.0)) in
    let again : Parts = parts (recompose p) in
    let stays : Stays again.path = subst (λ (q : Parts). Stays q.path) (sym (parts-recompose p g (absolute_scheme text none.1)))
    (path_stays p.authority p.path (no_slash p.authority g.authority) (removed_whole (parts text).path)) in
    ap (λ (path : List ℕ). let q : Parts = record again { path = path } in recompose q) stays ∙ recompose-parts (recompose p)
  where
    no_slash : (o : Option (List ℕ)) → is_absent_or (are_allowed (codes "[]")) o ≡ true → IfSome o (λ a. has slash a ≡ false)
    no_slash None h = tt
    no_slash (Some a) h = allowed-none (codes "[]") slash a refl refl h

pub key_key : (text : List ℕ) → key_fault text ≡ None → key_fault (key text) ≡ None
key_key text e =
    let none = key_none text e in
    key_from_none (key text) (key_reads text e)
    ∙ ap (λ b. cond b None (Some NotAbsolute)) (key_absolute text (reading_none text none.0) none.1)
