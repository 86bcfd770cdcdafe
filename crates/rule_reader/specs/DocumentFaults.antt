-- The faults of a document that its lexemes spell: the list of all, one word a kind.
use Rattle.std.specs.Prelude.{◌≡◌, ℕ, Bool, true, List, [], ◌∷◌, ◌++◌, Option, Some, None, Contains}
use Rattle.std.specs.List.{list_any}
use Rattle.vg_base.specs.declared.doc_fault.DocKind.TheVariants.{DeclaredTwice, RuleTwice, Reserved, BadUri, TagFormat, RootMissing}
use Rattle.vg_base.specs.declared.doc_fault.DocFault.{DocFault}
use Rattle.abnf_lexer.specs.declared.lexemes.Spanned.{Spanned}
use Rattle.uri_links.specs.Faults.{reading_fault}
use Rattle.abnf_parser.specs.declared.lexeme.BareWord.{BareWord}
use Rattle.abnf_parser.specs.declared.lexeme.BareWord.TheVariants as word
use Rattle.abnf_parser.specs.declared.written.Declaration.{Declaration}
use Rattle.abnf_parser.specs.declared.written.WrittenRule.{WrittenRule}
use Rattle.abnf_parser.specs.declared.written.WrittenDocument.{WrittenDocument}
use Rattle.rule_reader.specs.declared.context.Context.{Context}
use Rattle.rule_reader.specs.Leaves.{leaves, HasInside}
use Rattle.rule_reader.specs.References.{specials}
use Rattle.rule_reader.specs.Context.{once, same, argument, span_of, root_of, format_named, HasContext}
use Rattle.rule_reader.specs.LeafFaults.{Told, EachFaults}

-- ---- declarations (SRGS 1.0 section 4)

-- one of the five that stand once, behind another of its kind
abbrev pub IsDeclaredTwice : List Declaration → Declaration → Type 0
IsDeclaredTwice before d = list_any (λ (other : Declaration). same (once other.keyword) (once d.keyword)) before ≡ true

-- what a base or a lexicon names is no reference; what a tag format names is none of the two
abbrev pub NameFaults : BareWord → Spanned → (inside : List ℕ) → List DocFault → Type 0
NameFaults word.Base span inside faults = Told (reading_fault inside ≡ None → ⊥) span BadUri faults
NameFaults word.Lexicon span inside faults = Told (reading_fault inside ≡ None → ⊥) span BadUri faults
NameFaults word.TagFormat span inside faults = Told (format_named inside ≡ None) span TagFormat faults
NameFaults keyword span inside faults = faults ≡ []

-- of what stands behind the keyword
abbrev pub ArgumentFaults : List ℕ → BareWord → Option Spanned → List DocFault → Type 0
ArgumentFaults text keyword None faults = faults ≡ []
ArgumentFaults text keyword (Some span) faults = (inside : List ℕ) × HasInside text span inside × NameFaults keyword span inside faults

abbrev pub DeclarationFaults : List ℕ → (before those : List Declaration) → List DocFault → Type 0
DeclarationFaults text before [] faults = faults ≡ []
DeclarationFaults text before (d ∷ declarations) faults =
    (twice own others : List DocFault) × Told (IsDeclaredTwice before d) d.span DeclaredTwice twice × ArgumentFaults text d.keyword (span_of (argument (Some d))) own
    × DeclarationFaults text (before ++ d ∷ []) declarations others × (faults ≡ twice ++ (own ++ others))

-- ---- rules (section 3)

-- of the names of rules, which are these, where those were defined before
abbrev pub NamesFaults : List ℕ → (before : List (List ℕ)) → List WrittenRule → (names : List (List ℕ)) → List DocFault → Type 0
NamesFaults text before [] [] faults = faults ≡ []
NamesFaults text before (rule ∷ rules) (name ∷ names) faults =
    (twice reserved others : List DocFault) × HasInside text rule.name name × Told (Contains before name) rule.name RuleTwice twice
    × Told (Contains specials name) rule.name Reserved reserved × NamesFaults text (before ++ name ∷ []) rules names others × (faults ≡ twice ++ (reserved ++ others))
NamesFaults text before _ _ faults = ⊥

-- of their bodies
abbrev pub BodiesFaults : List ℕ → Context → List WrittenRule → List DocFault → Type 0
BodiesFaults text context [] faults = faults ≡ []
BodiesFaults text context (rule ∷ rules) faults =
    (body others : List DocFault) × EachFaults text context (leaves rule.body) body × BodiesFaults text context rules others × (faults ≡ body ++ others)

-- the root rule isn't defined
abbrev pub RootFaults : List ℕ → (names : List (List ℕ)) → Option Spanned → List DocFault → Type 0
RootFaults text names None faults = faults ≡ []
RootFaults text names (Some span) faults = (root : List ℕ) × HasInside text span root × Told (Contains names root → ⊥) span RootMissing faults

-- ---- of the whole document

pub record AreFaults (text : List ℕ) (document : WrittenDocument) (faults : List DocFault) : Type 0 where
  pub context : Context
  pub names : List (List ℕ)
  pub declarations : List DocFault
  pub named : List DocFault
  pub bodies : List DocFault
  pub root : List DocFault
  pub has_context : HasContext text document.declarations context
  pub of_declarations : DeclarationFaults text [] document.declarations declarations
  pub of_names : NamesFaults text [] document.rules names named
  pub of_bodies : BodiesFaults text context document.rules bodies
  pub of_root : RootFaults text names (root_of document.declarations) root
  pub whole : faults ≡ declarations ++ (named ++ (bodies ++ root))
