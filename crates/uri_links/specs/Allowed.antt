-- Which characters the parts of a reference may have (RFC 3986 section 2 and appendix A).
use Rattle.std.specs.Prelude.{ℕ, Bool, true, false, ◌==◌, ◌&&◌, ◌||◌, List, [], ◌∷◌, Option, None, Some, slice_index, codes}
use Rattle.std.specs.List.{list_all}
use Rattle.std.specs.Char.{is_ascii_alphabetic, is_ascii_alphanumeric, is_ascii_hexdigit}
use Rattle.uri_links.specs.Split.{has}
use Rattle.uri_links.specs.Parts.{Parts, parts}

abbrev pub is_scheme_character : ℕ → Bool
is_scheme_character c = is_ascii_alphanumeric c || has c (codes "+-.")

-- a letter, then letters, digits, `+`, `-` and `.` (section 3.1)
abbrev pub is_scheme : List ℕ → Bool
is_scheme [] = false
is_scheme (c ∷ text) = is_ascii_alphabetic c && list_all is_scheme_character text

-- a letter, a digit, or a character of one of the tables: unreserved characters, sub-delimiters, `:` and `@`, and
-- those that the part allows besides
abbrev pub is_allowed : List ℕ → ℕ → Bool
is_allowed also c = is_ascii_alphanumeric c || has c (codes "-._~!$&'()*+,;=:@") || has c also

-- two hexadecimal digits stand at the front: past the end `slice_index` is 0, which is no hexadecimal digit
abbrev pub begins_hexadecimal : List ℕ → Bool
begins_hexadecimal text = is_ascii_hexdigit (slice_index text 0) && is_ascii_hexdigit (slice_index text 1)

-- each character is allowed, or is a `%` with two hexadecimal digits behind it
abbrev pub are_allowed : List ℕ → List ℕ → Bool
are_allowed also [] = true
are_allowed also (c ∷ text) = (is_allowed also c || (c == 37 && begins_hexadecimal text)) && are_allowed also text

-- a part that is absent passes each test
abbrev pub is_absent_or : (List ℕ → Bool) → Option (List ℕ) → Bool
is_absent_or test None = true
is_absent_or test (Some part) = test part

abbrev pub are_good : Parts → Bool
are_good p = is_absent_or is_scheme p.scheme && is_absent_or (are_allowed (codes "[]")) p.authority
    && are_allowed (codes "/") p.path && is_absent_or (are_allowed (codes "/?")) p.query
    && is_absent_or (are_allowed (codes "/?")) p.fragment

-- the text is a reference: its parts have allowed characters alone
unfoldable pub is_reference : List ℕ → Bool
is_reference text = are_good (parts text)
