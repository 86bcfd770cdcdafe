-- JSON without floats: its text tells it.
use Rattle.std.proofs.Common.{◌≡◌, suc, max, ◌<◌, ◌≤◌, ◌^◌, pos, negsuc, Some, unwrap_or, refl, sym, ap, ap₂, subst, ◌∙◌}
use Rattle.std.specs.Prelude.{⊤}
use Rattle.json.specs.Json as json
use Rattle.json.specs.Json.{document, max_depth}
use Rattle.json.specs.Tree as tree
use Rattle.json.specs.Tree.{HasNumbers, ItemsHaveNumbers, MembersHaveNumbers}
use Rattle.json.proofs.Printed.Decimals.{IsNumber-decimal, IsNumber-signed_decimal}
use Rattle.json.proofs.Printed.Trees.{document-print}
use Rattle.serde_json.specs.Data.{Num, unsigned, negative, float, Data, null, boolean, number, string, array, object, Items, no_items, item, Members, no_members, member, depth, items_depth, members_depth}
use Rattle.serde_json.specs.Read.{number_of}
use Rattle.serde_json.specs.Written.{compact_text, number_text, outline, items_outline, members_outline}
use Rattle.serde_json.proofs.Numbers.{number_of-decimal, number_of-negative}
use Rattle.serde_json.proofs.Texts.{print-outline}

abbrev pub IsWholeNumber : Num → Type 0
IsWholeNumber (unsigned n) = n < 2 ^ 64
IsWholeNumber (negative (pos n)) = ⊥
IsWholeNumber (negative (negsuc n)) = n < 2 ^ 63
IsWholeNumber (float x) = ⊥

-- each number is whole and has 64 bits
abbrev mutual
  pub IsWhole : Data → Type 0
  IsWhole null = ⊤
  IsWhole (boolean b) = ⊤
  IsWhole (number n) = IsWholeNumber n
  IsWhole (string s) = ⊤
  IsWhole (array ds) = ItemsAreWhole ds
  IsWhole (object ms) = MembersAreWhole ms

  pub ItemsAreWhole : Items → Type 0
  ItemsAreWhole no_items = ⊤
  ItemsAreWhole (item d ds) = IsWhole d × ItemsAreWhole ds

  pub MembersAreWhole : Members → Type 0
  MembersAreWhole no_members = ⊤
  MembersAreWhole (member k d ms) = IsWhole d × MembersAreWhole ms

-- ---- what was outlined is read back

abbrev mutual
  filled : json.Json → Data
  filled json.null = null
  filled (json.boolean b) = boolean b
  filled (json.number s) = number (unwrap_or (number_of s) (unsigned 0))
  filled (json.string s) = string s
  filled (json.array js) = array (items_filled js)
  filled (json.object ms) = object (members_filled ms)

  items_filled : json.Items → Items
  items_filled json.no_items = no_items
  items_filled (json.item j js) = item (filled j) (items_filled js)

  members_filled : json.Members → Members
  members_filled json.no_members = no_members
  members_filled (json.member k j ms) = member k (filled j) (members_filled ms)

number_back : (n : Num) → IsWholeNumber n → number_of (number_text n) ≡ Some n
number_back (unsigned n) h = number_of-decimal n h
number_back (negative (pos n)) h = absurd h
number_back (negative (negsuc n)) h = number_of-negative n h
number_back (float x) h = absurd h

mutual
  back : (d : Data) → IsWhole d → filled (outline d) ≡ d
  back null h = refl
  back (boolean b) h = refl
  back (number n) h = ap (λ o. number (unwrap_or o (unsigned 0))) (number_back n h)
  back (string s) h = refl
  back (array ds) h = ap array (items_back ds h)
  back (object ms) h = ap object (members_back ms h)

  items_back : (ds : Items) → ItemsAreWhole ds → items_filled (items_outline ds) ≡ ds
  items_back no_items h = refl
  items_back (item d ds) h = ap₂ item (back d h.0) (items_back ds h.1)

  members_back : (ms : Members) → MembersAreWhole ms → members_filled (members_outline ms) ≡ ms
  members_back no_members h = refl
  members_back (member k d ms) h = ap₂ (member k) (back d h.0) (members_back ms h.1)

-- ---- the text is read as the outline

number_prints : (n : Num) → IsWholeNumber n → HasNumbers (json.number (number_text n))
number_prints (unsigned n) h = IsNumber-decimal n h
number_prints (negative (pos n)) h = absurd h
number_prints (negative (negsuc n)) h = IsNumber-signed_decimal (negsuc n) h
number_prints (float x) h = absurd h

mutual
  prints : (d : Data) → IsWhole d → HasNumbers (outline d)
  prints null h = tt
  prints (boolean b) h = tt
  prints (number n) h = number_prints n h
  prints (string s) h = tt
  prints (array ds) h = items_print ds h
  prints (object ms) h = members_print ms h

  items_print : (ds : Items) → ItemsAreWhole ds → ItemsHaveNumbers (items_outline ds)
  items_print no_items h = tt
  items_print (item d ds) h = (prints d h.0, items_print ds h.1)

  members_print : (ms : Members) → MembersAreWhole ms → MembersHaveNumbers (members_outline ms)
  members_print no_members h = tt
  members_print (member k d ms) h = (prints d h.0, members_print ms h.1)

mutual
  outline_depth : (d : Data) → tree.depth (outline d) ≡ depth d
  outline_depth null = refl
  outline_depth (boolean b) = refl
  outline_depth (number n) = refl
  outline_depth (string s) = refl
  outline_depth (array ds) = ap suc (items_outline_depth ds)
  outline_depth (object ms) = ap suc (members_outline_depth ms)

  items_outline_depth : (ds : Items) → tree.items_depth (items_outline ds) ≡ items_depth ds
  items_outline_depth no_items = refl
  items_outline_depth (item d ds) = ap₂ max (outline_depth d) (items_outline_depth ds)

  members_outline_depth : (ms : Members) → tree.members_depth (members_outline ms) ≡ members_depth ms
  members_outline_depth no_members = refl
  members_outline_depth (member k d ms) = ap₂ max (outline_depth d) (members_outline_depth ms)

read_again : (d : Data) → IsWhole d → depth d ≤ max_depth → document (compact_text d) ≡ Some (outline d)
read_again d h shallow = ap document (sym (print-outline d)) ∙ document-print (outline d) (prints d h) (subst (λ n. n ≤ max_depth) (sym (outline_depth d)) shallow)

some_same : (a b : json.Json) → Some a ≡ Some b → a ≡ b
some_same a b e = cc

pub text_tells : (d e : Data) → IsWhole d → IsWhole e → depth d ≤ max_depth → depth e ≤ max_depth → compact_text d ≡ compact_text e → d ≡ e
text_tells d e p q shallow flat same =
    let outlines = some_same (outline d) (outline e) (sym (read_again d p shallow) ∙ ap document same ∙ read_again e q flat) in
    sym (back d p) ∙ ap filled outlines ∙ back e q
