-- What a document means that is written so, if it has no fault (SRGS 1.0 section 2; SISR 1.0 for its tags).
use Rattle.std.specs.Prelude.{◌≡◌, ℕ, zero, List, [], ◌∷◌, Option, Some, None}
use Rattle.vg_base.specs.declared.mode.Mode.{Mode}
use Rattle.vg_base.specs.declared.mode.Mode.TheVariants.{Voice, Dtmf}
use Rattle.vg_base.specs.declared.format.Format.{Format}
use Rattle.vg_base.specs.declared.format.Format.TheVariants as format
use Rattle.vg_base.specs.declared.script.Script.{Script}
use Rattle.abnf_lexer.specs.declared.lexemes.Spanned.{Spanned}
use Rattle.abnf_lexer.specs.Repeats.{Most}
use Rattle.token_forms.specs.Words.{AreWords}
use Rattle.token_forms.specs.Keys.{AreKeys}
use Rattle.script_reader.specs.Reading.{IsScript}
use Rattle.grammar_tree.specs.declared.expansion.Expansion.{Expansion}
use Rattle.grammar_tree.specs.declared.expansion.Expansion.TheVariants as e
use Rattle.grammar_tree.specs.declared.expansion.Goal.{Goal}
use Rattle.grammar_tree.specs.declared.document.Doc.{Doc}
use Rattle.grammar_tree.specs.declared.document.Rule.{Rule}
use Rattle.abnf_parser.specs.declared.written.Written.{Written}
use Rattle.abnf_parser.specs.declared.written.Written.TheVariants as w
use Rattle.abnf_parser.specs.declared.written.WrittenRule.{WrittenRule}
use Rattle.abnf_parser.specs.declared.written.WrittenDocument.{WrittenDocument}
use Rattle.rule_reader.specs.declared.context.Context.{Context}
use Rattle.rule_reader.specs.Leaves.{HasInside}
use Rattle.rule_reader.specs.Context.{root_of, base_of, HasContext}
use Rattle.rule_reader.specs.Numbers.{number_of, most_of}
use Rattle.rule_reader.specs.References.{named, IsGoal}
use Rattle.rule_reader.specs.LeafFaults.{HasRepeat}

-- ---- what stands at a leaf, by what stands between the marks of its lexeme

-- the words of a token, or its keys (section 2.1, appendix E)
abbrev pub AreWordsIn : Mode → List (List ℕ) → List ℕ → Type 0
AreWordsIn Voice words inside = AreWords words inside
AreWordsIn Dtmf words inside = AreKeys words inside

abbrev pub IsToken : Context → List ℕ → Expansion → Type 0
IsToken context inside x = (words : List (List ℕ)) × AreWordsIn context.mode words inside × (x ≡ e.Token words)

abbrev pub IsReference : Spanned → List ℕ → Expansion → Type 0
IsReference span inside x = (g : Goal) × IsGoal inside g × (x ≡ e.Ref (record { place = span.place; goal = g }))

-- the script of a tag of a script document, and none of any other
abbrev pub IsScriptOf : Option Format → List ℕ → Option Script → Type 0
IsScriptOf (Some format.Script) inside (Some script) = IsScript inside script
IsScriptOf (Some format.Script) inside None = ⊥
IsScriptOf f inside script = script ≡ None

abbrev pub IsTag : Context → Spanned → List ℕ → Expansion → Type 0
IsTag context span inside x =
    (script : Option Script) × IsScriptOf context.format inside script × (x ≡ e.Tag (record { place = span.place; text = inside; script = script }))

-- ---- trees

-- a repeat of most 0 is nothing
abbrev pub repeated : ℕ → Option ℕ → Expansion → Expansion
repeated least (Some zero) inner = e.Null
repeated least most inner = e.Rep least most inner

-- what stands between the marks of the lexeme there is this
abbrev pub Inside : List ℕ → Spanned → (List ℕ → Type 0) → Type 0
Inside text span P = (inside : List ℕ) × HasInside text span inside × P inside

-- the repeat that stands there, so often this, is that
abbrev pub IsRepeated : List ℕ → Spanned → (inner x : Expansion) → Type 0
IsRepeated text span inner x =
    (least : List ℕ) × (most : Most) × (chance : Option (List ℕ)) × HasRepeat text span least most chance × (x ≡ repeated (number_of least) (most_of least most) inner)

mutual
  -- what is written so means this; a weight means nothing
  pub data Means (text : List ℕ) (context : Context) : Written → Expansion → Type 0 where
    token : {span : Spanned} {x : Expansion} → Inside text span (λ inside. IsToken context inside x) → Means text context (w.Token span) x
    name : {span : Spanned} {x : Expansion} → Inside text span (λ inside. x ≡ named span.place inside) → Means text context (w.Name span) x
    reference : {span : Spanned} {x : Expansion} → Inside text span (λ inside. IsReference span inside x) → Means text context (w.UriRef span) x
    tag : {span : Spanned} {x : Expansion} → Inside text span (λ inside. IsTag context span inside x) → Means text context (w.Tag span) x
    nothing : {x : Expansion} → x ≡ e.Null → Means text context w.Nothing x
    sequence : {parts : List Written} {x : Expansion} (xs : List Expansion) → x ≡ e.Seq xs → EachMeans text context parts xs → Means text context (w.Sequence parts) x
    alternatives : {parts : List Written} {x : Expansion} (xs : List Expansion) → x ≡ e.Alt xs → EachMeans text context parts xs → Means text context (w.Alternatives parts) x
    weighted : {span : Spanned} {inner : Written} {x : Expansion} → Means text context inner x → Means text context (w.Weighted span inner) x
    optional : {inner : Written} {x : Expansion} (y : Expansion) → x ≡ e.Rep 0 (Some 1) y → Means text context inner y → Means text context (w.Optional inner) x
    turns : {span : Spanned} {inner : Written} {x : Expansion} (y : Expansion) → IsRepeated text span y x → Means text context inner y → Means text context (w.Repeated span inner) x

  -- there are as many of both, and each means the one at its place
  pub data EachMeans (text : List ℕ) (context : Context) : List Written → List Expansion → Type 0 where
    no_part : EachMeans text context [] []
    part : {p : Written} {parts : List Written} {x : Expansion} {xs : List Expansion} → Means text context p x → EachMeans text context parts xs → EachMeans text context (p ∷ parts) (x ∷ xs)

-- ---- rules and documents

pub record RuleMeans (text : List ℕ) (context : Context) (written : WrittenRule) (rule : Rule) : Type 0 where
  pub place : rule.place ≡ written.name.place
  pub public : rule.public ≡ written.public
  pub name : HasInside text written.name rule.name
  pub body : Means text context written.body rule.body

abbrev pub RulesMean : List ℕ → Context → List WrittenRule → List Rule → Type 0
RulesMean text context [] [] = Unit {0}
RulesMean text context (written ∷ others) (rule ∷ rules) = RuleMeans text context written rule × RulesMean text context others rules
RulesMean text context _ _ = ⊥

-- what stands there, or nothing where nothing stands
abbrev pub IsThere : List ℕ → Option Spanned → Option (List ℕ) → Type 0
IsThere text (Some span) (Some inside) = HasInside text span inside
IsThere text None None = Unit {0}
IsThere text _ _ = ⊥

-- the document means this
pub record DocumentMeans (text : List ℕ) (document : WrittenDocument) (doc : Doc) : Type 0 where
  pub context : HasContext text document.declarations (record { mode = doc.mode; format = doc.format })
  pub root : IsThere text (root_of document.declarations) doc.root
  pub base : IsThere text (base_of document.declarations) doc.base
  pub rules : RulesMean text (record { mode = doc.mode; format = doc.format }) document.rules doc.rules
