-- What is printed without floats is read back, in UTF-8.
use Rattle.std.proofs.Common.{◌≡◌, ℕ, ◌≤◌, List, [], ◌∷◌, Bool, true, false, Option, Some, option_and_then, IsUtf8, refl, sym, ap, ◌∙◌, append-nil}
use Rattle.std.proofs.lemmas.Str.{IsUtf8-append, IsUtf8-nil}
use Rattle.std.specs.Bool.{⊤}
use Rattle.json.specs.Token.{Token}
use Rattle.json.specs.Json as json
use Rattle.json.specs.Lex.{tokens}
use Rattle.json.specs.Print.{quoted}
use Rattle.json.specs.Tree as tree
use Rattle.json.proofs.Printed.Tokens.{tokens-print}
use Rattle.json.proofs.Printed.Trees.{ArePrintable-json_tokens, value-json_tokens}
use Rattle.json.proofs.Printed.Utf8.{IsUtf8-are_ascii, IsUtf8-boolean, IsUtf8-quoted}
use Rattle.serde_json.specs.Data.{Data, null, boolean, number, string, array, object, Items, no_items, item, Members, no_members, member}
use Rattle.serde_json.specs.Read.{of_json, read, max_depth}
use Rattle.serde_json.specs.Written.{outline, number_text, comma_if, compact_text, items_text, members_text}
use Rattle.serde_json.proofs.Texts.{print-outline}

abbrev whole : Option (json.Json × List Token) → Option Data
whole parsed = option_and_then of_json (option_and_then (λ p. json.if_last p.0 p.1) parsed)

pub read-compact_text : (d : Data) → of_json (outline d) ≡ Some d → tree.HasNumbers (outline d) → tree.depth (outline d) ≤ max_depth → read (compact_text d) ≡ Some d
read-compact_text d same numbers shallow =
    let written = tree.json_tokens (outline d) in
    let lexed : tokens (compact_text d) ≡ written = ap tokens (sym (print-outline d)) ∙ tokens-print written (ArePrintable-json_tokens (outline d) numbers) in
    ap whole (ap (json.value max_depth) (lexed ∙ sym (append-nil written)) ∙ value-json_tokens (outline d) max_depth [] shallow) ∙ same

-- each key, string and number of the value is in UTF-8
abbrev mutual
  pub IsEncoded : Data → Type 0
  IsEncoded null = ⊤
  IsEncoded (boolean b) = ⊤
  IsEncoded (number n) = IsUtf8 (number_text n)
  IsEncoded (string s) = IsUtf8 s
  IsEncoded (array ds) = ItemsAreEncoded ds
  IsEncoded (object ms) = MembersAreEncoded ms

  pub ItemsAreEncoded : Items → Type 0
  ItemsAreEncoded no_items = ⊤
  ItemsAreEncoded (item d ds) = IsEncoded d × ItemsAreEncoded ds

  pub MembersAreEncoded : Members → Type 0
  MembersAreEncoded no_members = ⊤
  MembersAreEncoded (member k d ms) = IsUtf8 k × IsEncoded d × MembersAreEncoded ms

ascii_before : (x : ℕ) (xs : List ℕ) → IsUtf8 (x ∷ []) → IsUtf8 xs → IsUtf8 (x ∷ xs)
ascii_before x xs h k = IsUtf8-append (x ∷ []) xs h k

comma : (later : Bool) → IsUtf8 (comma_if later)
comma true = IsUtf8-are_ascii (44 ∷ []) refl
comma false = IsUtf8-nil

-- then so is its text
mutual
  pub IsUtf8-compact_text : (d : Data) → IsEncoded d → IsUtf8 (compact_text d)
  IsUtf8-compact_text null h = IsUtf8-are_ascii _ refl
  IsUtf8-compact_text (boolean b) h = IsUtf8-boolean b
  IsUtf8-compact_text (number n) h = h
  IsUtf8-compact_text (string s) h = IsUtf8-quoted s h
  IsUtf8-compact_text (array ds) h = ascii_before 91 (items_text false ds) (IsUtf8-are_ascii (91 ∷ []) refl) (IsUtf8-items_text false ds h)
  IsUtf8-compact_text (object ms) h = ascii_before 123 (members_text false ms) (IsUtf8-are_ascii (123 ∷ []) refl) (IsUtf8-members_text false ms h)

  IsUtf8-items_text : (later : Bool) (ds : Items) → ItemsAreEncoded ds → IsUtf8 (items_text later ds)
  IsUtf8-items_text later no_items h = IsUtf8-are_ascii (93 ∷ []) refl
  IsUtf8-items_text later (item d ds) h =
      IsUtf8-append (comma_if later) _ (comma later) (IsUtf8-append (compact_text d) (items_text true ds) (IsUtf8-compact_text d h.0) (IsUtf8-items_text true ds h.1))

  IsUtf8-members_text : (later : Bool) (ms : Members) → MembersAreEncoded ms → IsUtf8 (members_text later ms)
  IsUtf8-members_text later no_members h = IsUtf8-are_ascii (125 ∷ []) refl
  IsUtf8-members_text later (member k d ms) h =
      IsUtf8-append (comma_if later) _ (comma later) (IsUtf8-append (quoted k) _ (IsUtf8-quoted k h.0)
      (ascii_before 58 _ (IsUtf8-are_ascii (58 ∷ []) refl) (IsUtf8-append (compact_text d) (members_text true ms) (IsUtf8-compact_text d h.1) (IsUtf8-members_text true ms h.2))))
