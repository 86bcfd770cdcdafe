-- The header of a grammar in ABNF form (this project's profile of SRGS 1.0 section 4.1): `#ABNF`, blanks, the version, then blanks and the name
-- of an encoding or nothing, blanks or nothing, and `;`.
use Rattle.std.specs.Prelude.{◌≡◌, ◌≢◌, ◌⊎◌, ℕ, Bool, true, false, ◌&&◌, ◌||◌, ◌==◌, not, nat_eq, if◌then◌else◌, List, [], ◌∷◌, ◌++◌, take, drop, codes}
use Rattle.std.specs.List.{prefix_len, take_while, starts_with, list_all}
use Rattle.std.specs.Cmp.Lexicographic.{pointwise}
use Rattle.vg_base.specs.declared.doc_fault.DocKind.TheVariants.{NoHeader, Version, Encoding, Unexpected}
use Rattle.vg_base.specs.declared.doc_fault.DocFault.{DocFault}
use Rattle.vg_base.specs.Places.{Walked}
use Rattle.vg_base.specs.Runs.{begins}
use Rattle.abnf_lexer.specs.Classes.{is_empty, is_one_of, is_blank, is_field}
use Rattle.abnf_lexer.specs.Faults.{told}

abbrev pub past : ℕ → Walked → Walked
past n walk = record { passed = walk.passed ++ take n walk.rest; rest = drop n walk.rest }

-- past all characters of a class that come next
abbrev pub past_run : (ℕ → Bool) → Walked → Walked
past_run p walk = past (prefix_len p walk.rest) walk

abbrev pub is_mark : ℕ → Bool
is_mark c = c == 0xFEFF

abbrev pub is_semicolon : ℕ → Bool
is_semicolon c = c == 59

-- before the first character, past a byte order mark
abbrev pub at_header : List ℕ → Walked
at_header text = past_mark (record { passed = []; rest = text })
  where
    past_mark : Walked → Walked
    past_mark walk = if begins is_mark walk.rest then past 1 walk else walk

-- past a version or a name, and the blanks behind it
abbrev pub past_field : Walked → Walked
past_field walk = past_run is_blank (past_run is_field walk)

abbrev pub at_version : List ℕ → Walked
at_version text = past_run is_blank (past 5 (at_header text))

abbrev pub at_encoding : List ℕ → Walked
at_encoding text = past_field (at_version text)

abbrev pub at_end : List ℕ → Walked
at_end text = past_field (at_encoding text)

abbrev pub behind_header : List ℕ → Walked
behind_header text = past 1 (at_end text)

-- the characters up to a white space or a `;`
abbrev pub field : Walked → List ℕ
field walk = take_while is_field walk.rest

-- `#ABNF` and a blank
abbrev pub begins_header : List ℕ → Bool
begins_header text = starts_with nat_eq text (codes "#ABNF") && begins is_blank (drop 5 text)

abbrev pub is_version : List ℕ → Bool
is_version name = pointwise nat_eq name (codes "1.0")

-- `UTF-8`, in any case of letters
abbrev pub is_utf_8 : List ℕ → Bool
is_utf_8 (u ∷ t ∷ f ∷ hyphen ∷ eight ∷ []) = is_one_of (codes "Uu") u && is_one_of (codes "Tt") t && is_one_of (codes "Ff") f && hyphen == 45 && eight == 56
is_utf_8 _ = false

abbrev pub is_encoding : List ℕ → Bool
is_encoding name = is_empty name || is_utf_8 name

abbrev pub version_faults : Walked → List DocFault
version_faults walk = told (not (is_version (field walk))) walk.passed Version

abbrev pub encoding_faults : Walked → List DocFault
encoding_faults walk = told (not (is_encoding (field walk))) walk.passed Encoding

abbrev pub end_faults : Walked → List DocFault
end_faults walk = told (not (begins is_semicolon walk.rest)) walk.passed Unexpected

-- all faults of the header; where it does not begin as one, that alone, at the start of the text
abbrev pub header_faults : List ℕ → List DocFault
header_faults text =
    if begins_header (at_header text).rest
    then version_faults (at_version text) ++ (encoding_faults (at_encoding text) ++ end_faults (at_end text))
    else told true [] NoHeader

-- ---- the header as a whole

abbrev pub IsMarkOrNone : List ℕ → Type 0
IsMarkOrNone mark = (mark ≡ []) ⊎ (mark ≡ 0xFEFF ∷ [])

-- blanks and the name of the encoding
pub record IsNamed (encoding : List ℕ) : Type 0 where
  pub gap : List ℕ
  pub name : List ℕ
  pub whole : encoding ≡ gap ++ name
  pub some : gap ≢ []
  pub blank : list_all is_blank gap ≡ true
  pub utf_8 : is_utf_8 name ≡ true

abbrev pub IsEncoding : List ℕ → Type 0
IsEncoding encoding = (encoding ≡ []) ⊎ IsNamed encoding

-- the text begins with a header, and this rest follows it
pub record HasHeader (text rest : List ℕ) : Type 0 where
  pub mark : List ℕ
  pub blanks : List ℕ
  pub encoding : List ℕ
  pub tail : List ℕ
  pub whole : text ≡ mark ++ (codes "#ABNF" ++ (blanks ++ (codes "1.0" ++ (encoding ++ (tail ++ 59 ∷ rest)))))
  pub marked : IsMarkOrNone mark
  pub some : blanks ≢ []
  pub blank : list_all is_blank blanks ≡ true
  pub encoded : IsEncoding encoding
  pub blank_tail : list_all is_blank tail ≡ true
