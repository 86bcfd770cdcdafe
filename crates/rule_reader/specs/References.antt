-- What references refer to: by name (SRGS 1.0 section 2.2.1), by URI (section 2.2.2), and the special rules (section 2.2.3).
use Rattle.std.specs.Prelude.{◌≡◌, ℕ, ◌+◌, ◌-◌, ◌*◌, true, false, ◌==◌, nat_lt, bytes_eq, List, [], ◌∷◌, Option, Some, None, codes, if◌then◌else◌}
use Rattle.std.specs.List.{list_all}
use Rattle.std.specs.Str.{encode_utf8_all, all_scalars}
use Rattle.vg_base.specs.declared.place.Place.{Place}
use Rattle.vg_base.specs.Characters.{is_name_start, is_name}
use Rattle.uri_links.specs.Split.{before, hash}
use Rattle.uri_links.specs.Parts.{parts}
use Rattle.uri_links.specs.Faults.{reading_fault}
use Rattle.grammar_tree.specs.declared.expansion.Expansion.{Expansion}
use Rattle.grammar_tree.specs.declared.expansion.Expansion.TheVariants as e
use Rattle.grammar_tree.specs.declared.expansion.Goal.{Goal}
use Rattle.grammar_tree.specs.declared.expansion.Goal.TheVariants as goal

-- ---- by name

-- the names of the special rules, which no document may define
abbrev pub specials : List (List ℕ)
specials = codes "NULL" ∷ codes "VOID" ∷ codes "GARBAGE" ∷ []

-- the special rule of this name, or a reference to the rule of this name in the same document
abbrev pub named : Place → List ℕ → Expansion
named place name =
    if bytes_eq name (codes "NULL") then e.Null
    else if bytes_eq name (codes "VOID") then e.Void
    else if bytes_eq name (codes "GARBAGE") then e.Garbage
    else e.Ref (record { place = place; goal = goal.Local name })

-- ---- by URI

-- the name of a rule, without its `$`
pub record IsRuleName (name : List ℕ) : Type 0 where
  pub first : ℕ
  pub others : List ℕ
  pub whole : name ≡ first ∷ others
  pub starts : is_name_start first ≡ true
  pub goes_on : list_all is_name others ≡ true

-- the number that a hexadecimal digit is
abbrev pub hexadecimal : ℕ → ℕ
hexadecimal c = if nat_lt c 58 then c - 48 else (if nat_lt c 71 then c - 55 else c - 87)

-- the bytes that a text of ASCII is, each `%` with two digits as one (RFC 3986 section 2.1)
abbrev pub unescaped : List ℕ → List ℕ
unescaped (c ∷ high ∷ low ∷ text) =
    elim (c == 37) [
      | true ↦ (hexadecimal high * 16 + hexadecimal low) ∷ unescaped text
      | false ↦ c ∷ unescaped (high ∷ low ∷ text)
    ]
unescaped text = text

-- the fragment is the name of a rule, in percent form over UTF-8
abbrev pub IsFragment : List ℕ → List ℕ → Type 0
IsFragment fragment name = (all_scalars name ≡ true) × (encode_utf8_all name ≡ unescaped fragment) × IsRuleName name

-- without a fragment the root rule of the document there, else the rule of this name
abbrev pub GoalIs : Option (List ℕ) → List ℕ → Goal → Type 0
GoalIs None uri (goal.Root to) = to ≡ uri
GoalIs (Some fragment) uri (goal.Named to rule) = (to ≡ uri) × IsFragment fragment rule
GoalIs fragment uri g = ⊥

-- the text is a reference by URI to this
pub record IsGoal (inside : List ℕ) (g : Goal) : Type 0 where
  pub readable : reading_fault inside ≡ None
  pub refers : GoalIs (parts inside).fragment (before hash inside) g
