-- Which rule a reference means (SRGS 1.0 section 2.2), among the documents of a set, or why it means none.
use Rattle.std.specs.Prelude.{◌≡◌, ◌+◌, ℕ, Bool, true, false, List, Option, Some, None, ◌==◌, if◌then◌else◌, length, map, sum, take, nat_eq, slice_get}
use Rattle.std.specs.List.{position}
use Rattle.std.specs.Option.{option_map, option_map_or}
use Rattle.std.specs.Cmp.Lexicographic.{pointwise}
use Rattle.vg_base.specs.declared.mode.Mode.{Mode}
use Rattle.vg_base.specs.declared.mode.Mode.TheVariants as mode
use Rattle.vg_base.specs.declared.link_fault.LinkKind.TheVariants.{NoDocument, NoRule, NotPublic, NoRoot, ModeDiffers}
use Rattle.vg_base.specs.declared.numbers.RuleIx.{RuleIx}
use Rattle.grammar_tree.specs.declared.doc_set.DocText.{DocText}
use Rattle.grammar_tree.specs.declared.document.Doc.{Doc}
use Rattle.grammar_tree.specs.declared.document.ReadDoc.{ReadDoc}
use Rattle.grammar_tree.specs.declared.document.ReadDoc.TheVariants as read
use Rattle.grammar_tree.specs.declared.expansion.Goal.{Goal}
use Rattle.grammar_tree.specs.declared.expansion.Goal.TheVariants as goal
use Rattle.uri_links.specs.Resolution.{resolve}
use Rattle.rule_reader.specs.Imports.{base_uri}
use Rattle.linker.specs.declared.target.Target.{Target}
use Rattle.linker.specs.declared.target.Target.TheVariants.{Rule, Fault, Untold}
use Rattle.linker.specs.Readings.{Readings, place_of}

-- ---- numbers of rules

abbrev pub rule_count : Option ReadDoc → ℕ
rule_count (Some (read.Good doc)) = length doc.rules
rule_count _ = 0

-- rules are counted through the documents, in the order of the set
abbrev pub rules_before : Readings → ℕ → ℕ
rules_before docs y = sum (map rule_count (take y docs))

-- the number of the rule at place k of document y
abbrev pub number : Readings → ℕ → ℕ → RuleIx
number docs y k = record { 0 = rules_before docs y + k }

-- ---- rules of one document

-- where the rule of this name is defined
abbrev pub place_named : Doc → List ℕ → Option ℕ
place_named doc name = position (λ rule. pointwise nat_eq rule.name name) doc.rules

-- the number of the root rule of document y
abbrev pub root_of : Readings → ℕ → Doc → Option RuleIx
root_of docs y doc = option_map_or (λ name. option_map (number docs y) (place_named doc name)) doc.root None

-- whether the rule at this place is public
abbrev pub is_public : Doc → ℕ → Bool
is_public doc k = option_map_or (λ rule. rule.public) (slice_get doc.rules k) false

abbrev pub same_mode : Mode → Mode → Bool
same_mode mode.Voice mode.Voice = true
same_mode mode.Dtmf mode.Dtmf = true
same_mode one other = false

-- ---- references

module _ (docs : Readings) where
  -- by name, to a rule of document y (SRGS 1.0 section 2.2.1)
  abbrev pub to_named : ℕ → Doc → List ℕ → Target
  to_named y doc name = option_map_or (λ k. Rule (number docs y k)) (place_named doc name) (Fault NoRule)

  -- to the root rule of document y, public or not
  abbrev pub to_root : ℕ → Doc → Target
  to_root y doc = option_map_or Rule (root_of docs y doc) (Fault NoRoot)

  -- from another document: a rule by name must be public (section 3.2)
  abbrev pub to_public : ℕ → Doc → List ℕ → Target
  to_public y doc name =
      option_map_or (λ k. if is_public doc k then Rule (number docs y k) else Fault NotPublic) (place_named doc name) (Fault NoRule)

  -- a reference by URI that means its own document is as one by name, or to its root
  abbrev pub within : ℕ → Doc → Option (List ℕ) → Target
  within y doc None = to_root y doc
  within y doc (Some name) = to_named y doc name

  abbrev pub from_outside : ℕ → Doc → Option (List ℕ) → Target
  from_outside y doc None = to_root y doc
  from_outside y doc (Some name) = to_public y doc name

  -- a document of the other mode is no goal; one that has a fault of its own says nothing of what refers to it
  abbrev pub across : Mode → ℕ → Option (Option ReadDoc) → Option (List ℕ) → Target
  across own y (Some (Some (read.Good doc))) name = if same_mode own doc.mode then from_outside y doc name else Fault ModeDiffers
  across own y reading name = Untold

  module _ (set : List DocText) where
    -- what stands at this key (section 2.2.2)
    abbrev pub at_key : ℕ → Doc → List ℕ → Option (List ℕ) → Target
    at_key x own key name =
        option_map_or (λ y. if y == x then within x own name else across own.mode y (slice_get docs y) name) (place_of set key) (Fault NoDocument)

    -- what a reference means in document x, which stands under this key
    abbrev pub target : ℕ → List ℕ → Doc → Goal → Target
    target x key own (goal.Local name) = to_named x own name
    target x key own (goal.Named uri name) = at_key x own (resolve (base_uri key own.base) uri) (Some name)
    target x key own (goal.Root uri) = at_key x own (resolve (base_uri key own.base) uri) None
