-- The faults of leaves: the list of all, one word a kind. No syntax shows them.
use Rattle.std.specs.Prelude.{◌≡◌, ℕ, ◌⊎◌, List, [], ◌∷◌, ◌++◌, Option, Some}
use Rattle.vg_base.specs.declared.doc_fault.DocKind.{DocKind}
use Rattle.vg_base.specs.declared.doc_fault.DocKind.TheVariants.{RepeatOrder, RepeatLarge, BadWeight, BadKey, BadUri, BadScript}
use Rattle.vg_base.specs.declared.doc_fault.DocFault.{DocFault}
use Rattle.vg_base.specs.declared.mode.Mode.TheVariants.{Dtmf}
use Rattle.vg_base.specs.declared.format.Format.TheVariants as format
use Rattle.vg_base.specs.declared.script.Script.{Script}
use Rattle.abnf_lexer.specs.declared.lexemes.Spanned.{Spanned}
use Rattle.abnf_lexer.specs.Repeats.{Most, IsRepeat}
use Rattle.token_forms.specs.Keys.{AreKeys}
use Rattle.script_reader.specs.Reading.{IsScript}
use Rattle.grammar_tree.specs.declared.expansion.Goal.{Goal}
use Rattle.rule_reader.specs.declared.context.Context.{Context}
use Rattle.rule_reader.specs.Leaves.{Leaf, token, name, reference, tag, weight, times, HasSlice, HasInside}
use Rattle.rule_reader.specs.Numbers.{number_of, most_of, IsBelow, IsPast, IsWeight, IsChance}
use Rattle.rule_reader.specs.References.{IsGoal}

-- where it holds, a fault of this kind where the lexeme stands, else none
abbrev pub Told : Type 0 → Spanned → DocKind → List DocFault → Type 0
Told P span kind faults = (P × (faults ≡ record { place = span.place; kind = kind } ∷ [])) ⊎ ((P → ⊥) × (faults ≡ []))

-- ---- when there is one, by what stands between the marks of the lexeme

-- a token of a document for keys that isn't keys (SRGS 1.0 appendix E)
abbrev pub IsBadKey : Context → List ℕ → Type 0
IsBadKey context inside = (context.mode ≡ Dtmf) × ((keys : List (List ℕ)) → AreKeys keys inside → ⊥)

-- a reference that can't be read, or whose fragment is no name (section 2.2.2)
abbrev pub IsBadReference : List ℕ → Type 0
IsBadReference inside = (g : Goal) → IsGoal inside g → ⊥

-- a tag of a script document that isn't a script (SISR 1.0)
abbrev pub IsBadScript : Context → List ℕ → Type 0
IsBadScript context inside = (context.format ≡ Some format.Script) × ((script : Script) → IsScript inside script → ⊥)

-- ---- repeats (section 2.5)

-- the repeat that stands there, as it is written
pub record HasRepeat (text : List ℕ) (span : Spanned) (least : List ℕ) (most : Most) (chance : Option (List ℕ)) : Type 0 where
  pub slice : List ℕ
  pub stands : HasSlice text span slice
  pub is_repeat : IsRepeat slice least most chance

-- `n-m` with n greater than m
abbrev pub IsOutOfOrder : List ℕ → Most → Type 0
IsOutOfOrder least most = IsBelow (most_of least most) (number_of least)

-- one of the numbers is too large
abbrev pub IsTooLarge : List ℕ → Most → Type 0
IsTooLarge least most = IsPast (Some (number_of least)) ⊎ IsPast (most_of least most)

abbrev pub RepeatFaults : Spanned → List ℕ → Most → Option (List ℕ) → List DocFault → Type 0
RepeatFaults span least most chance faults =
    (order large bad : List DocFault) × Told (IsOutOfOrder least most) span RepeatOrder order × Told (IsTooLarge least most) span RepeatLarge large
    × Told (IsChance chance → ⊥) span BadWeight bad × (faults ≡ order ++ (large ++ bad))

abbrev pub TimesFaults : List ℕ → Spanned → List DocFault → Type 0
TimesFaults text span faults =
    (least : List ℕ) × (most : Most) × (chance : Option (List ℕ)) × HasRepeat text span least most chance × RepeatFaults span least most chance faults

-- ---- of a leaf

-- a weight without the form of a number (section 2.4.1)
abbrev pub WeightFaults : List ℕ → Spanned → List DocFault → Type 0
WeightFaults text span faults = (inside : List ℕ) × HasInside text span inside × Told (IsWeight inside → ⊥) span BadWeight faults

abbrev pub LeafFaults : List ℕ → Context → Leaf → List DocFault → Type 0
LeafFaults text context (token span) faults = (inside : List ℕ) × HasInside text span inside × Told (IsBadKey context inside) span BadKey faults
LeafFaults text context (name span) faults = faults ≡ []
LeafFaults text context (reference span) faults = (inside : List ℕ) × HasInside text span inside × Told (IsBadReference inside) span BadUri faults
LeafFaults text context (tag span) faults = (inside : List ℕ) × HasInside text span inside × Told (IsBadScript context inside) span BadScript faults
LeafFaults text context (weight span) faults = WeightFaults text span faults
LeafFaults text context (times span) faults = TimesFaults text span faults

-- of several, one after another
abbrev pub EachFaults : List ℕ → Context → List Leaf → List DocFault → Type 0
EachFaults text context [] faults = faults ≡ []
EachFaults text context (leaf ∷ leaves) faults =
    (first others : List DocFault) × LeafFaults text context leaf first × EachFaults text context leaves others × (faults ≡ first ++ others)
