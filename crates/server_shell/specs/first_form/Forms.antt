-- The small form of grammar texts that is answered today: one rule, which is the root, over
-- alternatives of plain words.
use Rattle.std.specs.Prelude.{◌≡◌, ℕ, ◌≤◌, ◌==◌, ◌&&◌, ◌||◌, nat_le, Bool, List, ◌++◌, length, map, codes, IsTrue}
use Rattle.std.specs.List.{list_all, list_any, slice_split}
use Rattle.vg_base.specs.Characters.{byte_len}
use Rattle.server_shell.specs.first_form.Words.{words_in}

-- a to z
abbrev pub is_letter : ℕ → Bool
is_letter c = nat_le 97 c && nat_le c 122

abbrev pub is_letter_or : ℕ → ℕ → Bool
is_letter_or other c = is_letter c || c == other

abbrev pub is_plain_space : ℕ → Bool
is_plain_space c = c == 32

-- a name of 1 to 64 letters
pub record IsFormName (name : List ℕ) : Type 0 where
  pub letters : IsTrue (list_all is_letter name)
  pub some : 1 ≤ length name
  pub few : length name ≤ 64

-- One or more words of letters, with spaces between and around them. The parts between bars are
-- such.
abbrev pub is_alternative : List ℕ → Bool
is_alternative part = list_all (is_letter_or 32) part && list_any is_letter part

-- the parts between the bars
abbrev pub parts_of : List ℕ → List (List ℕ)
parts_of alternatives = slice_split (λ c. c == 124) alternatives

-- the alternatives, each as its words
abbrev pub alternatives_of : List ℕ → List (List (List ℕ))
alternatives_of alternatives = map words_in (parts_of alternatives)

-- behind the rule's name: any number of spaces, `=`, the alternatives and `;`
pub record SpellsRest (rest alternatives : List ℕ) : Type 0 where
  pub spaces : List ℕ
  pub blank : IsTrue (list_all is_plain_space spaces)
  pub cut : rest ≡ spaces ++ (codes "=" ++ (alternatives ++ codes ";"))
  pub each : IsTrue (list_all is_alternative (parts_of alternatives))

-- behind the first `$`: the root's name, `;$`, the same name, and the rest of the rule
pub record SpellsRule (text name alternatives : List ℕ) : Type 0 where
  pub rest : List ℕ
  pub is_name : IsFormName name
  pub cut : text ≡ name ++ (codes ";$" ++ (name ++ rest))
  pub rule : SpellsRest rest alternatives

-- The text is of the form, with this name and these alternatives: the identity header of SRGS 1.0
-- (section 4.1), the root's declaration (section 4.7), and the one rule (section 3.1).
pub record SpellsForm (text name alternatives : List ℕ) : Type 0 where
  pub rest : List ℕ
  pub cut : text ≡ codes "#ABNF 1.0;root $" ++ rest
  pub rule : SpellsRule rest name alternatives

-- at most 16,384 bytes in UTF-8, of the form
pub record IsFormText (text : List ℕ) : Type 0 where
  pub short : byte_len text ≤ 16384
  pub name : List ℕ
  pub alternatives : List ℕ
  pub spells : SpellsForm text name alternatives

-- `http://` and 1 to 64 characters, each a letter or `/`
pub record IsKey (uri : List ℕ) : Type 0 where
  pub rest : List ℕ
  pub cut : uri ≡ codes "http://" ++ rest
  pub letters : IsTrue (list_all (is_letter_or 47) rest)
  pub some : 1 ≤ length rest
  pub few : length rest ≤ 64
