-- What the code has once it has read a part: the value, and the first of the faults so far. Cited by private contracts alone.
use Rattle.std.specs.Prelude.{◌≡◌, ℕ, Bool, true, false, List, [], ◌∷◌, ◌++◌, Option, Some, None, All, Contains, map, is_some, Result, Ok, Err}
use Rattle.std.specs.List.{flat_map, AllByRecursion}
use Rattle.vg_base.specs.Cut.{Piece}
use Rattle.vg_base.specs.Faults.{doc_fault_order}
use Rattle.vg_base.specs.First.{IsFirst}
use Rattle.vg_base.specs.declared.doc_fault.DocKind.{DocKind}
use Rattle.vg_base.specs.declared.doc_fault.DocFault.{DocFault}
use Rattle.abnf_lexer.specs.declared.lexemes.LexKind.{LexKind}
use Rattle.abnf_lexer.specs.declared.lexemes.Spanned.{Spanned}
use Rattle.abnf_lexer.specs.Lexing.{IsWithin, Shows}
use Rattle.abnf_lexer.specs.Repeats.{Most}
use Rattle.grammar_tree.specs.declared.expansion.Expansion.{Expansion}
use Rattle.grammar_tree.specs.declared.document.Doc.{Doc}
use Rattle.grammar_tree.specs.declared.document.Rule.{Rule}
use Rattle.abnf_parser.specs.declared.written.Written.{Written}
use Rattle.rule_reader.specs.declared.context.Context.{Context}
use Rattle.rule_reader.specs.Leaves.{Leaf, token, name, reference, tag, weight, times, leaves}
use Rattle.abnf_parser.specs.declared.written.Declaration.{Declaration}
use Rattle.abnf_parser.specs.declared.written.WrittenRule.{WrittenRule}
use Rattle.abnf_parser.specs.declared.written.WrittenDocument.{WrittenDocument}
use Rattle.vg_base.specs.Pairs.{find}
use Rattle.rule_reader.specs.Context.{argument, span_of}
use Rattle.rule_reader.specs.DocumentFaults.{DeclarationFaults, NamesFaults, BodiesFaults, AreFaults}
use Rattle.rule_reader.specs.LeafFaults.{HasRepeat, EachFaults}
use Rattle.rule_reader.specs.Meaning.{Means, EachMeans, RuleMeans, RulesMean, DocumentMeans}

-- ---- where lexemes stand

-- a lexeme of the text stands there
pub record IsShown (text : List ℕ) (span : Spanned) : Type 0 where
  pub within : IsWithin text span
  pub piece : Piece LexKind
  pub shows : Shows text span piece

-- a repeat stands there
pub record IsTurned (text : List ℕ) (span : Spanned) : Type 0 where
  pub shown : IsShown text span
  pub least : List ℕ
  pub most : Most
  pub chance : Option (List ℕ)
  pub has : HasRepeat text span least most chance

abbrev pub LeafShown : List ℕ → Leaf → Type 0
LeafShown text (token span) = IsShown text span
LeafShown text (name span) = IsShown text span
LeafShown text (reference span) = IsShown text span
LeafShown text (tag span) = IsShown text span
LeafShown text (weight span) = IsShown text span
LeafShown text (times span) = IsTurned text span

abbrev pub EachShown : List ℕ → List Leaf → Type 0
EachShown text = AllByRecursion (LeafShown text)

-- ---- the first fault

-- one fault or none
abbrev pub told : Bool → Spanned → DocKind → List DocFault
told true span kind = record { place = span.place; kind = kind } ∷ []
told false span kind = []

-- behind the faults before, of which the old one is the first, stand these: the new one is the first of all
pub record Adds (faults : List DocFault) (old new : Option DocFault) : Type 0 where
  pub first : (before : List DocFault) → IsFirst doc_fault_order before old → IsFirst doc_fault_order (before ++ faults) new

-- these are the faults of what was read, and where there is none the value is what was meant
pub record IsReadAs {A : Type 0} (Faults : List DocFault → Type 0) (Is : A → Type 0) (old new : Option DocFault) (x : A) : Type 0 where
  pub faults : List DocFault
  pub are : Faults faults
  pub adds : Adds faults old new
  pub is : faults ≡ [] → Is x

-- ---- trees

abbrev pub Walked : List ℕ → Context → Written → (old new : Option DocFault) → Expansion → Type 0
Walked text context x = IsReadAs (EachFaults text context (leaves x)) (Means text context x)

-- the leaves of several trees
abbrev pub leaves_of : List Written → List Leaf
leaves_of parts = flat_map (λ ls. ls) (map leaves parts)

abbrev pub PartsShown : List ℕ → List Written → Type 0
PartsShown text parts = EachShown text (leaves_of parts)

abbrev pub BodyShown : List ℕ → Written → Type 0
BodyShown text body = EachShown text (leaves body)

abbrev pub PartsWalked : List ℕ → Context → List Written → (old new : Option DocFault) → List Expansion → Type 0
PartsWalked text context parts = IsReadAs (EachFaults text context (leaves_of parts)) (EachMeans text context parts)

-- ---- documents

abbrev pub ThereShown : List ℕ → Option Spanned → Type 0
ThereShown text (Some span) = IsShown text span
ThereShown text None = Unit {0}

pub record RuleShown (text : List ℕ) (rule : WrittenRule) : Type 0 where
  pub name : IsShown text rule.name
  pub body : EachShown text (leaves rule.body)

abbrev pub DeclarationShown : List ℕ → Declaration → Type 0
DeclarationShown text d = ThereShown text (span_of (argument (Some d)))

-- where its lexemes stand
pub record DocumentShown (text : List ℕ) (document : WrittenDocument) : Type 0 where
  pub declarations : All (DeclarationShown text) document.declarations
  pub rules : All (RuleShown text) document.rules

-- these faults were found
pub record Tells (Faults : List DocFault → Type 0) (old new : Option DocFault) : Type 0 where
  pub faults : List DocFault
  pub are : Faults faults
  pub adds : Adds faults old new

-- the faults of declarations so far, and what the rest of them says of all
pub record DeclarationsSoFar (text : List ℕ) (all before rest : List Declaration) (old new : Option DocFault) : Type 0 where
  pub faults : List DocFault
  pub adds : Adds faults old new
  pub goes_on : (others : List DocFault) → DeclarationFaults text before rest others → DeclarationFaults text [] all (faults ++ others)

-- names that are there, as a map keeps them
abbrev pub AreKept : List (List ℕ) → List (List ℕ × Unit {0}) → Type 0
AreKept names map = (name : List ℕ) → (Contains names name → is_some (find name map) ≡ true) × (is_some (find name map) ≡ true → Contains names name)

-- the names of rules so far, and what the rest of them says of all
pub record NamesSoFar (text : List ℕ) (all rest : List WrittenRule) (map : List (List ℕ × Unit {0})) (old new : Option DocFault) : Type 0 where
  pub names : List (List ℕ)
  pub faults : List DocFault
  pub adds : Adds faults old new
  pub kept : AreKept names map
  pub goes_on : (more : List (List ℕ)) (others : List DocFault) → NamesFaults text names rest more others → NamesFaults text [] all (names ++ more) (faults ++ others)

pub record NamesRead (text : List ℕ) (rules : List WrittenRule) (map : List (List ℕ × Unit {0})) (old new : Option DocFault) : Type 0 where
  pub names : List (List ℕ)
  pub faults : List DocFault
  pub are : NamesFaults text [] rules names faults
  pub adds : Adds faults old new
  pub kept : AreKept names map

-- ---- rules and documents, with what they mean

abbrev pub RuleRead : List ℕ → Context → WrittenRule → (old new : Option DocFault) → Rule → Type 0
RuleRead text context written = IsReadAs (EachFaults text context (leaves written.body)) (RuleMeans text context written)

abbrev pub RulesRead : List ℕ → Context → List WrittenRule → (old new : Option DocFault) → List Rule → Type 0
RulesRead text context written = IsReadAs (BodiesFaults text context written) (RulesMean text context written)

-- the document that is written so has no fault and means this, or this is the first of its faults
abbrev pub Answered : List ℕ → WrittenDocument → Result Doc DocFault → Type 0
Answered text document (Ok doc) = AreFaults text document [] × DocumentMeans text document doc
Answered text document (Err fault) = (faults : List DocFault) × AreFaults text document faults × IsFirst doc_fault_order faults (Some fault)
