-- Objects of fields: what is found in one by a name, and that its text is read back as it.
use Rattle.std.proofs.Common.{◌≡◌, ℕ, ◌≤◌, ◌&&◌, List, [], ◌∷◌, Bool, true, false, Option, Some, None, option_map, option_and_then, unwrap_or, Ordering, Less, Equal, Greater, IfSome, IsUtf8, refl, sym, ap, ◌∙◌, arith}
use Rattle.std.proofs.lemmas.Bool.{and_parts}
use Rattle.std.specs.Cmp.Lexicographic.{slice_cmp}
use Rattle.std.specs.List.{list_any, list_all, AllByRecursion}
use Rattle.std.specs.Ordering.{nat_cmp, match_ordering}
use Rattle.std.specs.Str.{bytes_eq}
use Rattle.json.specs.Tree as tree
use Rattle.json.proofs.Printed.Utf8.{are_ascii, IsUtf8-are_ascii}
use Rattle.serde_json.specs.Data.{Data, object, Members, no_members, member, put}
use Rattle.serde_json.specs.Find.{get_member}
use Rattle.serde_json.specs.Read.{of_json, of_members, read}
use Rattle.serde_json.specs.Written.{outline, members_outline, compact_text}
use Rattle.command_reader.specs.Members.{named_within}
use Rattle.command_reader.specs.Written.{Field, with_field, members_of}
use Rattle.command_reader.proofs.Printing.{read-compact_text, IsEncoded, MembersAreEncoded, IsUtf8-compact_text}

-- ---- what is found

-- the value of a field, before what comes of the fields behind it
abbrev or_behind : Option Data → Option Data → Option Data
or_behind here None = here
or_behind here (Some d) = Some (unwrap_or here d)

abbrev pub value_at : List ℕ → List Field → Option Data
value_at name [] = None
value_at name (f ∷ fs) = match_ordering (slice_cmp nat_cmp name f.0) (value_at name fs) (or_behind f.1 (value_at name fs)) (value_at name fs)

one_of_same : (o : Ordering) (found : Option Data) → found ≡ match_ordering o found (or_behind None found) found
one_of_same Less found = refl
one_of_same Equal None = refl
one_of_same Equal (Some d) = refl
one_of_same Greater found = refl

first_of : (o : Ordering) (d : Data) (found : Option Data) → match_ordering o found (Some d) found ≡ match_ordering o found (or_behind (Some d) found) found
first_of Less d found = refl
first_of Equal d None = refl
first_of Equal d (Some e) = refl
first_of Greater d found = refl

get_with_field : (name key : List ℕ) (value : Option Data) (ms : Members) (found : Option Data) → get_member name ms ≡ found
    → get_member name (with_field key value ms) ≡ match_ordering (slice_cmp nat_cmp name key) found (or_behind value found) found
get_with_field name key None ms found e = e ∙ one_of_same (slice_cmp nat_cmp name key) found
get_with_field name key (Some d) ms found e = ap (λ o. match_ordering (slice_cmp nat_cmp name key) o (Some d) o) e ∙ first_of (slice_cmp nat_cmp name key) d found

pub get-members_of : (name : List ℕ) (fs : List Field) → get_member name (members_of fs) ≡ value_at name fs
get-members_of name [] = refl
get-members_of name (f ∷ fs) = get_with_field name f.0 f.1 (members_of fs) (value_at name fs) (get-members_of name fs)

-- the names of the fields are among these
abbrev pub names_within : List (List ℕ) → List Field → Bool
names_within names fs = list_all (λ f. list_any (bytes_eq f.0) names) fs

within_with_field : (names : List (List ℕ)) (key : List ℕ) (value : Option Data) (ms : Members) → list_any (bytes_eq key) names ≡ true
    → named_within names ms ≡ true → named_within names (with_field key value ms) ≡ true
within_with_field names key None ms h k = k
within_with_field names key (Some d) ms h k = ap (λ b. b && named_within names ms) h ∙ k

pub named_within-members_of : (names : List (List ℕ)) (fs : List Field) → names_within names fs ≡ true → named_within names (members_of fs) ≡ true
named_within-members_of names [] h = refl
named_within-members_of names (f ∷ fs) h =
    let parts = and_parts (list_any (bytes_eq f.0) names) (names_within names fs) h in
    within_with_field names f.0 f.1 (members_of fs) parts.0 (named_within-members_of names fs parts.1)

-- ---- the members in order

abbrev joined : Members → Members → Members
joined no_members ns = ns
joined (member k d ms) ns = member k d (joined ms ns)

joined-nil : (ms : Members) → joined ms no_members ≡ ms
joined-nil no_members = refl
joined-nil (member k d ms) = ap (member k d) (joined-nil ms)

joined-assoc : (ls ms ns : Members) → joined (joined ls ms) ns ≡ joined ls (joined ms ns)
joined-assoc no_members ms ns = refl
joined-assoc (member k d ls) ms ns = ap (member k d) (joined-assoc ls ms ns)

abbrev is_greater : Ordering → Bool
is_greater Less = false
is_greater Equal = false
is_greater Greater = true

-- the name is above each of these
abbrev above : List ℕ → List (List ℕ) → Bool
above name names = list_all (λ other. is_greater (slice_cmp nat_cmp name other)) names

-- each name is above those before it
abbrev pub rise : List (List ℕ) → List Field → Bool
rise seen [] = true
rise seen (f ∷ fs) = above f.0 seen && rise (f.0 ∷ seen) fs

abbrev IsAbove : List ℕ → Members → Type 0
IsAbove name no_members = Unit {0}
IsAbove name (member k d ms) = (is_greater (slice_cmp nat_cmp name k) ≡ true) × IsAbove name ms

at_greater : (o : Ordering) (a b c : Members) → is_greater o ≡ true → match_ordering o a b c ≡ c
at_greater Less a b c h = cc
at_greater Equal a b c h = cc
at_greater Greater a b c h = refl

put-above : (name : List ℕ) (d : Data) (ms : Members) → IsAbove name ms → put name d ms ≡ joined ms (member name d no_members)
put-above name d no_members h = refl
put-above name d (member k e ms) h = at_greater (slice_cmp nat_cmp name k) _ _ _ h.0 ∙ ap (member k e) (put-above name d ms h.1)

above-joined : (name key : List ℕ) (d : Data) (ms : Members) → IsAbove name ms → is_greater (slice_cmp nat_cmp name key) ≡ true → IsAbove name (joined ms (member key d no_members))
above-joined name key d no_members h g = (g, tt)
above-joined name key d (member k e ms) h g = (h.0, above-joined name key d ms h.1 g)

-- what a value owes, so that its text is read back as it
pub record IsWritable (d : Data) : Type 0 where
  pub same : of_json (outline d) ≡ Some d
  pub numbers : tree.HasNumbers (outline d)
  pub flat : tree.depth (outline d) ≤ 1
  pub encoded : IsEncoded d

abbrev pub AreWritable : List Field → Type 0
AreWritable fs = AllByRecursion (λ f. IfSome f.1 IsWritable) fs

-- the names seen cover what has been found
abbrev Covers : List (List ℕ) → Members → Type 0
Covers seen found = (name : List ℕ) → above name seen ≡ true → IsAbove name found

-- the fields are read behind what has been found
abbrev AreBack : List Field → Type 0
AreBack fs = (seen : List (List ℕ)) (found : Members) → rise seen fs ≡ true → Covers seen found → of_members (members_outline (members_of fs)) found ≡ Some (joined found (members_of fs))

back_field : (key : List ℕ) (value : Option Data) (fs : List Field) → IfSome value IsWritable → AreBack fs → AreBack ((key, value) ∷ fs)
back_field key None fs w behind seen found r covers =
    let p = and_parts (above key seen) (rise (key ∷ seen) fs) r in
    behind (key ∷ seen) found p.1 (λ name h. covers name (and_parts (is_greater (slice_cmp nat_cmp name key)) (above name seen) h).1)
back_field key (Some d) fs w behind seen found r covers =
    let p = and_parts (above key seen) (rise (key ∷ seen) fs) r in
    ap (λ o. option_and_then (λ e. of_members (members_outline (members_of fs)) (put key e found)) o) w.same
    ∙ (ap (λ ms. of_members (members_outline (members_of fs)) ms) (put-above key d found (covers key p.0))
    ∙ (behind (key ∷ seen) (joined found (member key d no_members)) p.1
    (λ name h. let q = and_parts (is_greater (slice_cmp nat_cmp name key)) (above name seen) h in above-joined name key d found (covers name q.1) q.0)
    ∙ ap Some (joined-assoc found (member key d no_members) (members_of fs))))

back : (fs : List Field) → AreWritable fs → AreBack fs
back [] ws = λ seen found r covers. ap Some (sym (joined-nil found))
back (f ∷ fs) ws = back_field f.0 f.1 fs ws.0 (back fs ws.1)

-- ---- the object

numbers_field : (key : List ℕ) (value : Option Data) (ms : Members) → IfSome value IsWritable → tree.MembersHaveNumbers (members_outline ms)
    → tree.MembersHaveNumbers (members_outline (with_field key value ms))
numbers_field key None ms w h = h
numbers_field key (Some d) ms w h = (w.numbers, h)

have_numbers : (fs : List Field) → AreWritable fs → tree.MembersHaveNumbers (members_outline (members_of fs))
have_numbers [] ws = tt
have_numbers (f ∷ fs) ws = numbers_field f.0 f.1 (members_of fs) ws.0 (have_numbers fs ws.1)

flat_field : (key : List ℕ) (value : Option Data) (ms : Members) → IfSome value IsWritable → tree.members_depth (members_outline ms) ≤ 1
    → tree.members_depth (members_outline (with_field key value ms)) ≤ 1
flat_field key None ms w h = h
flat_field key (Some d) ms w h = let here = w.flat in omega arith

are_flat : (fs : List Field) → AreWritable fs → tree.members_depth (members_outline (members_of fs)) ≤ 1
are_flat [] ws = omega arith
are_flat (f ∷ fs) ws = flat_field f.0 f.1 (members_of fs) ws.0 (are_flat fs ws.1)

-- names are of ASCII
abbrev pub ascii_names : List Field → Bool
ascii_names fs = list_all (λ f. are_ascii f.0) fs

encoded_field : (key : List ℕ) (value : Option Data) (ms : Members) → are_ascii key ≡ true → IfSome value IsWritable → MembersAreEncoded ms
    → MembersAreEncoded (with_field key value ms)
encoded_field key None ms a w h = h
encoded_field key (Some d) ms a w h = (IsUtf8-are_ascii key a, w.encoded, h)

are_encoded : (fs : List Field) → ascii_names fs ≡ true → AreWritable fs → MembersAreEncoded (members_of fs)
are_encoded [] a ws = tt
are_encoded (f ∷ fs) a ws =
    let p = and_parts (are_ascii f.0) (ascii_names fs) a in
    encoded_field f.0 f.1 (members_of fs) p.0 ws.0 (are_encoded fs p.1 ws.1)

-- an object of writable fields, by rising names of ASCII, is read back from its text
pub read-fields : (fs : List Field) → rise [] fs ≡ true → AreWritable fs → read (compact_text (object (members_of fs))) ≡ Some (object (members_of fs))
read-fields fs r ws =
    read-compact_text (object (members_of fs)) (ap (option_map object) (back fs ws [] no_members r (λ name h. tt))) (have_numbers fs ws)
    (let flat = are_flat fs ws in omega arith)

pub IsUtf8-fields : (fs : List Field) → ascii_names fs ≡ true → AreWritable fs → IsUtf8 (compact_text (object (members_of fs)))
IsUtf8-fields fs a ws = IsUtf8-compact_text (object (members_of fs)) (are_encoded fs a ws)
