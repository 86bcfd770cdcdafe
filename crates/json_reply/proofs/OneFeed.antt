-- No byte of compact JSON without floats is a line feed: in strings it is escaped.
use Rattle.std.proofs.Common.{◌≡◌, ℕ, zero, suc, ◌<◌, ◌≤◌, ◌^◌, ◌==◌, List, [], ◌∷◌, ◌++◌, Bool, true, false, not, ◌&&◌, pos, negsuc, decimal, refl, ap₂, ◌∙◌, arith, inl, inr}
use Rattle.std.proofs.lemmas.Bool.{and_parts, cases_eq, cases_lt, ne_eqb}
use Rattle.std.proofs.lemmas.Fmt.{decimal_is_IsNumeral}
use Rattle.std.proofs.lemmas.List.Elements.{All-contains}
use Rattle.std.proofs.lemmas.List.Folds.{list_all-append}
use Rattle.std.proofs.lemmas.List.Sums.{AllPass-from_list_all}
use Rattle.std.proofs.lemmas.Str.Parse.{digit_from_value}
use Rattle.std.specs.List.{list_all, Contains}
use Rattle.std.specs.Str.Parse.{AllDigits}
use Rattle.json.proofs.Printed.Strings.{escape_byte_plain}
use Rattle.json.specs.Print.{escape_byte, escape, quoted}
use Rattle.serde_json.specs.Data.{Num, unsigned, negative, float, Data, null, boolean, number, string, array, object, Items, no_items, item, Members, no_members, member}
use Rattle.serde_json.specs.Written.{number_text, comma_if, compact_text, items_text, members_text}
use Rattle.script_value.proofs.Whole.{IsWholeNumber, IsWhole, ItemsAreWhole, MembersAreWhole}

abbrev pub not_feed : ℕ → Bool
not_feed b = not (b == 10)

abbrev pub NoFeed : List ℕ → Type 0
NoFeed bytes = list_all not_feed bytes ≡ true

both : (xs ys : List ℕ) → NoFeed xs → NoFeed ys → NoFeed (xs ++ ys)
both xs ys p q = list_all-append not_feed xs ys ∙ ap₂ (λ a b. a && b) p q

-- ---- numbers

digits_no_feed : (ds : List ℕ) → AllDigits 10 ds → NoFeed ds
digits_no_feed [] h = refl
digits_no_feed (x ∷ xs) h =
    let other : (x == 10) ≡ false = ne_eqb x 10 (λ e. omega (arith, digit_from_value x h.0)) in
    ap₂ (λ a b. not a && b) other (digits_no_feed xs h.1)

decimal_no_feed : (n : ℕ) → n < 2 ^ 64 → NoFeed (decimal n)
decimal_no_feed n h = digits_no_feed (decimal n) (decimal_is_IsNumeral n h).0.1

number_no_feed : (n : Num) → IsWholeNumber n → NoFeed (number_text n)
number_no_feed (unsigned n) h = decimal_no_feed n h
number_no_feed (negative (pos n)) h = absurd h
number_no_feed (negative (negsuc n)) h = decimal_no_feed (suc n) (omega arith)
number_no_feed (float x) h = absurd h

-- ---- strings

-- what is written for the bytes below n has no line feed
abbrev escapes_below : ℕ → Bool
escapes_below zero = true
escapes_below (suc n) = list_all not_feed (escape_byte n) && escapes_below n

escape_below : (n : ℕ) → escapes_below n ≡ true → (x : ℕ) → x < n → NoFeed (escape_byte x)
escape_below zero e x h = absurd (omega arith)
escape_below (suc n) e x h =
    let p = and_parts (list_all not_feed (escape_byte n)) (escapes_below n) e in
    elim (cases_eq x n) [ inl same ↦ rw same p.0 | inr other ↦ escape_below n p.1 x (omega arith) ]

low_escapes : escapes_below 93 ≡ true
unfolding escape_byte
low_escapes = refl

high_no_feed : (x : ℕ) → 93 ≤ x → NoFeed (x ∷ [])
high_no_feed x h = rw (ne_eqb x 10 (λ e. omega arith)) refl

escape_no_feed : (x : ℕ) → NoFeed (escape_byte x)
escape_no_feed x = elim (cases_lt x 93) [
  | inl low ↦ escape_below 93 low_escapes x low
  | inr high ↦ rw (escape_byte_plain x (λ e. omega arith) (λ e. omega arith) (omega arith)) (high_no_feed x high)
]

escaped_no_feed : (s : List ℕ) → NoFeed (escape s)
escaped_no_feed [] = refl
escaped_no_feed (x ∷ xs) = both (escape_byte x) (escape xs) (escape_no_feed x) (escaped_no_feed xs)

quoted_no_feed : (s : List ℕ) → NoFeed (quoted s)
quoted_no_feed s = both (escape s) (34 ∷ []) (escaped_no_feed s) refl

-- ---- texts

comma_no_feed : (later : Bool) → NoFeed (comma_if later)
comma_no_feed true = refl
comma_no_feed false = refl

mutual
  pub no_feed : (d : Data) → IsWhole d → NoFeed (compact_text d)
  no_feed null h = refl
  no_feed (boolean true) h = refl
  no_feed (boolean false) h = refl
  no_feed (number n) h = number_no_feed n h
  no_feed (string s) h = quoted_no_feed s
  no_feed (array ds) h = items_no_feed false ds h
  no_feed (object ms) h = members_no_feed false ms h

  items_no_feed : (later : Bool) (ds : Items) → ItemsAreWhole ds → NoFeed (items_text later ds)
  items_no_feed later no_items h = refl
  items_no_feed later (item d ds) h =
      both (comma_if later) (compact_text d ++ items_text true ds) (comma_no_feed later)
      (both (compact_text d) (items_text true ds) (no_feed d h.0) (items_no_feed true ds h.1))

  members_no_feed : (later : Bool) (ms : Members) → MembersAreWhole ms → NoFeed (members_text later ms)
  members_no_feed later no_members h = refl
  members_no_feed later (member k d ms) h =
      both (comma_if later) (quoted k ++ 58 ∷ (compact_text d ++ members_text true ms)) (comma_no_feed later)
      (both (quoted k) (58 ∷ (compact_text d ++ members_text true ms)) (quoted_no_feed k)
      (both (compact_text d) (members_text true ms) (no_feed d h.0) (members_no_feed true ms h.1)))

-- then it contains none
pub no_feed_in : (bytes : List ℕ) → NoFeed bytes → ¬ Contains bytes 10
no_feed_in bytes h = λ there.
    let at_it : not_feed 10 ≡ true = All-contains (λ b. not_feed b ≡ true) bytes 10 (AllPass-from_list_all not_feed bytes h) there in
    absurd (cc)
