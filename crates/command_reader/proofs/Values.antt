-- The values that commands hold: each is writable, and gives back what was written.
use Rattle.std.proofs.Common.{◌≡◌, ℕ, ◌<◌, ◌≤◌, ◌^◌, ◌==◌, List, [], ◌∷◌, Bool, true, false, if◌then◌else◌, Option, Some, None, option_map, IfSome, option_to_list, encode_utf8_all, refl, sym, ap, arith}
use Rattle.std.proofs.lemmas.Bool.{and_parts, le-leb, eqb-true}
use Rattle.std.proofs.lemmas.Fmt.{IsAscii-decimal}
use Rattle.std.proofs.lemmas.Str.{IsUtf8-from_ascii, chars-encodes}
use Rattle.std.specs.List.{list_all}
use Rattle.std.specs.Str.{all_scalars, IsUtf8}
use Rattle.json.specs.Tree as tree
use Rattle.json.proofs.Printed.Decimals.{IsNumber-decimal}
use Rattle.serde_json.specs.Data.{number}
use Rattle.serde_json.specs.Read.{of_items}
use Rattle.serde_json.specs.Written.{items_outline}
use Rattle.serde_json.proofs.Numbers.{number_of-decimal}
use Rattle.vg_base.specs.Limits as limits
use Rattle.command_reader.specs.Facts.{IsName, texts_in_line}
use Rattle.command_reader.specs.Members as members
use Rattle.command_reader.specs.Written.{text_data, texts_items, texts_data, number_data, area_field, rule_field, best_field, keys_field, tokens_field}
use Rattle.command_reader.specs.declared.command.MatchLine.{MatchLine}
use Rattle.command_reader.specs.declared.command.MatchLine.TheVariants.{Tokens, Keys}
use Rattle.command_reader.proofs.Printing.{ItemsAreEncoded}
use Rattle.command_reader.proofs.Fields.{IsWritable}

abbrev pub IsText : List ℕ → Type 0
IsText text = all_scalars text ≡ true

abbrev pub AreTexts : List (List ℕ) → Type 0
AreTexts texts = list_all all_scalars texts ≡ true

-- ---- texts

utf8_text : (text : List ℕ) → IsText text → IsUtf8 (encode_utf8_all text)
utf8_text text h = (text, (h, refl))

pub text_writable : (text : List ℕ) → IsText text → IsWritable (text_data text)
text_writable text h = record { same = refl; numbers = tt; flat = omega arith; encoded = utf8_text text h }

pub text_back : (text : List ℕ) → IsText text → members.text_of (text_data text) ≡ Some text
text_back text h = ap Some (chars-encodes text h)

-- ---- lists of texts

texts_same : (texts : List (List ℕ)) → of_items (items_outline (texts_items texts)) ≡ Some (texts_items texts)
texts_same [] = refl
texts_same (text ∷ texts) = rw (texts_same texts) refl

texts_have_numbers : (texts : List (List ℕ)) → tree.ItemsHaveNumbers (items_outline (texts_items texts))
texts_have_numbers [] = tt
texts_have_numbers (text ∷ texts) = (tt, texts_have_numbers texts)

texts_flat : (texts : List (List ℕ)) → tree.items_depth (items_outline (texts_items texts)) ≡ 0
texts_flat [] = refl
texts_flat (text ∷ texts) = rw (texts_flat texts) refl

texts_encoded : (texts : List (List ℕ)) → AreTexts texts → ItemsAreEncoded (texts_items texts)
texts_encoded [] h = tt
texts_encoded (text ∷ texts) h = let parts = and_parts (all_scalars text) (list_all all_scalars texts) h in (utf8_text text parts.0, texts_encoded texts parts.1)

pub texts_writable : (texts : List (List ℕ)) → AreTexts texts → IsWritable (texts_data texts)
texts_writable texts h = record {
  same = rw (texts_same texts) refl;
  numbers = texts_have_numbers texts;
  flat = omega (arith, texts_flat texts);
  encoded = texts_encoded texts h;
}

pub texts_back : (texts : List (List ℕ)) → AreTexts texts → members.list_of (texts_data texts) ≡ Some texts
texts_back [] h = refl
texts_back (text ∷ texts) h =
    let parts = and_parts (all_scalars text) (list_all all_scalars texts) h in
    rw (chars-encodes text parts.0, texts_back texts parts.1) refl

-- ---- numbers

pub number_writable : (n : ℕ) → n < 2 ^ 64 → IsWritable (number_data n)
number_writable n h = record {
  same = ap (option_map number) (number_of-decimal n h);
  numbers = IsNumber-decimal n h;
  flat = omega arith;
  encoded = IsUtf8-from_ascii _ (IsAscii-decimal n h);
}

pub number_back : (low high n : ℕ) → low ≤ n → n ≤ high → members.number_of low high (number_data n) ≡ Some n
number_back low high n h k = rw (le-leb low n h, le-leb n high k) refl

-- ---- members that may be left out

unless_first : (first : Bool) (n : ℕ) → n ≤ limits.last_area → IfSome (if first then None else Some (number_data n)) IsWritable
unless_first true n h = tt
unless_first false n h = number_writable n (omega arith)

pub area_writable : (n : ℕ) → n ≤ limits.last_area → IfSome (area_field n).1 IsWritable
area_writable n h = unless_first (n == 0) n h

first_back : (first : Bool) (n : ℕ) → (first ≡ true → n ≡ 0) → n ≤ limits.last_area → members.area_number (if first then None else Some (number_data n)) ≡ Some n
first_back true n zero h = ap Some (sym (zero refl))
first_back false n zero h = number_back 0 limits.last_area n (omega arith) h

pub area_back : (n : ℕ) → n ≤ limits.last_area → members.area_number (area_field n).1 ≡ Some n
area_back n h = first_back (n == 0) n (eqb-true n 0) h

pub rule_writable : (rule : Option (List ℕ)) → AreTexts (option_to_list rule) → IfSome (rule_field rule).1 IsWritable
rule_writable None h = tt
rule_writable (Some text) h = text_writable text (and_parts (all_scalars text) true h).0

pub rule_back : (rule : Option (List ℕ)) → AreTexts (option_to_list rule) → members.optional members.text_of (rule_field rule).1 ≡ Some rule
rule_back None h = refl
rule_back (Some text) h = ap Some (ap Some (chars-encodes text (and_parts (all_scalars text) true h).0))

abbrev pub IsBest : Option ℕ → Type 0
IsBest best = IfSome best (λ n. (1 ≤ n) × (n ≤ limits.parses))

pub best_writable : (best : Option ℕ) → IsBest best → IfSome (best_field best).1 IsWritable
best_writable None h = tt
best_writable (Some n) h = number_writable n (let most = h.1 in omega arith)

pub best_back : (best : Option ℕ) → IsBest best → members.optional (members.number_of 1 limits.parses) (best_field best).1 ≡ Some best
best_back None h = refl
best_back (Some n) h = ap (option_map Some) (number_back 1 limits.parses n h.0 h.1)

-- ---- tokens or keys

pub keys_writable : (line : MatchLine) → AreTexts (texts_in_line line) → IfSome (keys_field line).1 IsWritable
keys_writable (Tokens texts) h = tt
keys_writable (Keys text) h = text_writable text (and_parts (all_scalars text) true h).0

pub tokens_writable : (line : MatchLine) → AreTexts (texts_in_line line) → IfSome (tokens_field line).1 IsWritable
tokens_writable (Tokens texts) h = texts_writable texts h
tokens_writable (Keys text) h = tt

pub line_back : (line : MatchLine) → AreTexts (texts_in_line line) → members.one_of (tokens_field line).1 (keys_field line).1 ≡ Some line
line_back (Tokens texts) h = ap (option_map Tokens) (texts_back texts h)
line_back (Keys text) h = ap (option_map Keys) (text_back text (and_parts (all_scalars text) true h).0)

-- ---- the name of a session

pub name_back : (name : List ℕ) → IsName name → members.session_name name ≡ Some name
name_back name h = rw (le-leb 1 _ h.0, le-leb _ limits.session_name_bytes h.1) refl
