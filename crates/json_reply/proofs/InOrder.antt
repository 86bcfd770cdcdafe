-- Fields that are put one after another, by rising names, stand in this order.
use Rattle.std.proofs.Common.{◌≡◌, ℕ, List, [], ◌∷◌, ◌++◌, Bool, true, ◌&&◌, Some, None, Ordering, Less, Equal, Greater, refl, sym, ap, ◌∙◌, append_assoc, append-nil}
use Rattle.std.proofs.lemmas.Bool.{and_parts}
use Rattle.std.specs.Cmp.Lexicographic.{slice_cmp}
use Rattle.std.specs.List.{list_all}
use Rattle.std.specs.Ordering.{nat_cmp, is_gt, match_ordering}
use Rattle.serde_json.specs.Data.{Data, Members, no_members, member, put}
use Rattle.command_reader.specs.Written.{Field, members_of, area_field}
use Rattle.json_reply.specs.Rows.{fields_of}
use Rattle.json_reply.specs.code.Putting.{put_each}
use Rattle.json_reply.specs.declared.reply.Body.{Body}
use Rattle.json_reply.specs.declared.reply.Body.TheVariants.{Staged}

-- the name is above those of the fields
abbrev above : List ℕ → List Field → Bool
above name fields = list_all (λ f. is_gt (slice_cmp nat_cmp name f.0)) fields

-- each name is above those before it
abbrev pub rise : List Field → List Field → Bool
rise before [] = true
rise before (f ∷ fs) = above f.0 before && rise (before ++ f ∷ []) fs

at_greater : (o : Ordering) (a b c : Members) → is_gt o ≡ true → match_ordering o a b c ≡ c
at_greater Less a b c h = absurd (cc)
at_greater Equal a b c h = absurd (cc)
at_greater Greater a b c h = refl

put-behind : (name : List ℕ) (value : Data) (fs : List Field) → above name fs ≡ true
    → put name value (members_of fs) ≡ members_of (fs ++ (name, Some value) ∷ [])
put-behind name value [] h = refl
put-behind name value ((key, None) ∷ fs) h = put-behind name value fs (and_parts (is_gt (slice_cmp nat_cmp name key)) (above name fs) h).1
put-behind name value ((key, Some other) ∷ fs) h =
    let parts = and_parts (is_gt (slice_cmp nat_cmp name key)) (above name fs) h in
    at_greater (slice_cmp nat_cmp name key) _ _ _ parts.0 ∙ ap (member key other) (put-behind name value fs parts.1)

-- a field that is left out adds nothing
left_out : (name : List ℕ) (fs : List Field) → members_of (fs ++ (name, None) ∷ []) ≡ members_of fs
left_out name [] = refl
left_out name ((key, None) ∷ fs) = left_out name fs
left_out name ((key, Some other) ∷ fs) = ap (member key other) (left_out name fs)

put_each-behind : (before fs : List Field) → rise before fs ≡ true → put_each (members_of before) fs ≡ members_of (before ++ fs)
put_each-behind before [] h = ap members_of (sym (append-nil before))
put_each-behind before ((name, None) ∷ fs) h =
    let parts = and_parts (above name before) (rise (before ++ (name, None) ∷ []) fs) h in
    ap (λ ms. put_each ms fs) (sym (left_out name before))
    ∙ put_each-behind (before ++ (name, None) ∷ []) fs parts.1
    ∙ ap members_of (append_assoc before ((name, None) ∷ []) fs)
put_each-behind before ((name, Some value) ∷ fs) h =
    let parts = and_parts (above name before) (rise (before ++ (name, Some value) ∷ []) fs) h in
    ap (λ ms. put_each ms fs) (put-behind name value before parts.0)
    ∙ put_each-behind (before ++ (name, Some value) ∷ []) fs parts.1
    ∙ ap members_of (append_assoc before ((name, Some value) ∷ []) fs)

pub in_order : (fs : List Field) → rise [] fs ≡ true → put_each no_members fs ≡ members_of fs
in_order fs h = put_each-behind [] fs h

-- so stand the members of each reply
pub rows_rise : (area line : ℕ) (body : Body) → rise [] (area_field area ∷ fields_of line body) ≡ true
rows_rise area line Staged = refl
rows_rise area line _ = refl
