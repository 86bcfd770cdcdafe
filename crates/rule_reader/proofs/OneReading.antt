-- A text reads as one document, or has one first fault, and not both.
use Rattle.std.proofs.Common.{◌≡◌, ◌⊎◌, inl, inr, ℕ, Bool, true, false, List, [], ◌∷◌, ◌++◌, Option, Some, None, Result, Ok, Err, refl, sym, ap, subst, ◌∙◌}
use Rattle.std.specs.Prelude.{Contains}
use Rattle.vg_base.specs.Cut.{Piece}
use Rattle.vg_base.specs.First.{IsFirst}
use Rattle.vg_base.specs.Faults.{doc_fault_order}
use Rattle.vg_base.specs.declared.doc_fault.DocKind.{DocKind}
use Rattle.vg_base.specs.declared.doc_fault.DocKind.TheVariants.{DeclaredTwice, RuleTwice, Reserved, RepeatOrder, RepeatLarge, BadWeight, BadKey, BadUri, BadScript, TagFormat, RootMissing}
use Rattle.vg_base.specs.declared.doc_fault.DocFault.{DocFault}
use Rattle.vg_base.specs.declared.format.Format.{Format}
use Rattle.abnf_lexer.specs.declared.lexemes.Spanned.{Spanned}
use Rattle.abnf_lexer.specs.Repeats.{Most, IsRepeat}
use Rattle.abnf_lexer.proofs.OneRepeat.{one_repeat}
use Rattle.uri_links.specs.Faults.{reading_fault}
use Rattle.abnf_lexer.proofs.OneAnswer.{none_first, faults_total}
use Rattle.rule_reader.proofs.SameFault.{same_fault}
use Rattle.vg_base.proofs.Firsts.{one_first}
use Rattle.vg_base.proofs.Plain.{same_Ok, same_Err}
use Rattle.abnf_parser.specs.Texts.{IsWritten, IsSyntax}
use Rattle.abnf_parser.proofs.OneAnswer.{one_answer}
use Rattle.grammar_tree.specs.declared.document.Doc.{Doc}
use Rattle.rule_reader.specs.Reading.{Reads, IsFirstFault}
use Rattle.abnf_parser.specs.declared.lexeme.BareWord.{BareWord}
use Rattle.abnf_parser.specs.declared.lexeme.BareWord.TheVariants as word
use Rattle.abnf_parser.specs.declared.written.Declaration.{Declaration}
use Rattle.abnf_parser.specs.declared.written.WrittenRule.{WrittenRule}
use Rattle.abnf_parser.specs.declared.written.WrittenDocument.{WrittenDocument}
use Rattle.rule_reader.specs.declared.context.Context.{Context}
use Rattle.rule_reader.specs.Leaves.{Leaf, token, name, reference, tag, weight, times, leaves, HasInside}
use Rattle.rule_reader.specs.Numbers.{IsWeight, IsChance}
use Rattle.rule_reader.specs.References.{specials}
use Rattle.rule_reader.specs.Context.{once, same, argument, span_of, root_of, format_of, format_named, FormatIs, HasContext}
use Rattle.rule_reader.specs.LeafFaults.{Told, IsBadKey, IsBadReference, IsBadScript, HasRepeat, IsOutOfOrder, IsTooLarge, RepeatFaults, TimesFaults, LeafFaults, EachFaults}
use Rattle.rule_reader.specs.DocumentFaults.{IsDeclaredTwice, NameFaults, ArgumentFaults, DeclarationFaults, NamesFaults, BodiesFaults, RootFaults, AreFaults}
use Rattle.rule_reader.proofs.Insides.{one_slice, one_inside_at}

-- ---- faults

-- it holds or not, so the list is one
told_once : {P : Type 0} (span : Spanned) (kind : DocKind) (fs gs : List DocFault) → Told P span kind fs → Told P span kind gs → fs ≡ gs
told_once span kind fs gs (inl h) (inl k) = h.1 ∙ sym k.1
told_once span kind fs gs (inl h) (inr k) = absurd (k.0 h.0)
told_once span kind fs gs (inr h) (inl k) = absurd (h.0 k.0)
told_once span kind fs gs (inr h) (inr k) = h.1 ∙ sym k.1

-- of what stands inside there is one, and so of what it tells
inside_once : (text : List ℕ) (span : Spanned) (F : List ℕ → List DocFault → Type 0) (fs gs : List DocFault) → ((inside : List ℕ) → F inside fs → F inside gs → fs ≡ gs)
    → (inside : List ℕ) × HasInside text span inside × F inside fs → (inside : List ℕ) × HasInside text span inside × F inside gs → fs ≡ gs
inside_once text span F fs gs one h k = one h.0 h.2 (subst (λ (i : List ℕ). F i gs) (one_inside_at text span k.0 h.0 k.1 h.1) k.2)

-- the numbers of a repeat are one
pub record SameRepeat (a b : List ℕ) (m n : Most) (c d : Option (List ℕ)) : Type 0 where
  pub least : a ≡ b
  pub most : m ≡ n
  pub chance : c ≡ d

pub repeat_once : (text : List ℕ) (span : Spanned) (a b : List ℕ) (m n : Most) (c d : Option (List ℕ)) → HasRepeat text span a m c → HasRepeat text span b n d → SameRepeat a b m n c d
repeat_once text span a b m n c d h k =
    let same = one_slice text span k.slice h.slice k.stands h.stands in
    let r = one_repeat h.slice a b m n c d h.is_repeat (subst (λ (s : List ℕ). IsRepeat s b n d) same k.is_repeat) in
    record { least = r.0; most = r.1; chance = r.2 }

repeat_faults_once : (span : Spanned) (least : List ℕ) (most : Most) (chance : Option (List ℕ)) (fs gs : List DocFault) → RepeatFaults span least most chance fs → RepeatFaults span least most chance gs → fs ≡ gs
repeat_faults_once span least most chance fs gs h k =
    h.6 ∙ ((λ i. told_once {P = IsOutOfOrder least most} span RepeatOrder h.0 k.0 h.3 k.3 i ++ (told_once {P = IsTooLarge least most} span RepeatLarge h.1 k.1 h.4 k.4 i
    ++ told_once {P = IsChance chance → ⊥} span BadWeight h.2 k.2 h.5 k.5 i)) ∙ sym k.6)

leaf_once : (text : List ℕ) (context : Context) (leaf : Leaf) (fs gs : List DocFault) → LeafFaults text context leaf fs → LeafFaults text context leaf gs → fs ≡ gs
leaf_once text context (token span) fs gs h k =
    inside_once text span (λ i xs. Told (IsBadKey context i) span BadKey xs) fs gs (λ i a b. told_once {P = IsBadKey context i} span BadKey fs gs a b) h k
leaf_once text context (name span) fs gs h k = h ∙ sym k
leaf_once text context (reference span) fs gs h k =
    inside_once text span (λ i xs. Told (IsBadReference i) span BadUri xs) fs gs (λ i a b. told_once {P = IsBadReference i} span BadUri fs gs a b) h k
leaf_once text context (tag span) fs gs h k =
    inside_once text span (λ i xs. Told (IsBadScript context i) span BadScript xs) fs gs (λ i a b. told_once {P = IsBadScript context i} span BadScript fs gs a b) h k
leaf_once text context (weight span) fs gs h k =
    inside_once text span (λ i xs. Told (IsWeight i → ⊥) span BadWeight xs) fs gs (λ i a b. told_once {P = IsWeight i → ⊥} span BadWeight fs gs a b) h k
leaf_once text context (times span) fs gs h k =
    let same = repeat_once text span k.0 h.0 k.1 h.1 k.2 h.2 k.3 h.3 in
    repeat_faults_once span h.0 h.1 h.2 fs gs h.4
    (subst (λ (l : List ℕ). RepeatFaults span l h.1 h.2 gs) same.least (subst (λ m. RepeatFaults span k.0 m h.2 gs) same.most (subst (λ (c : Option (List ℕ)). RepeatFaults span k.0 k.1 c gs) same.chance k.4)))

each_once : (text : List ℕ) (context : Context) (ls : List Leaf) (fs gs : List DocFault) → EachFaults text context ls fs → EachFaults text context ls gs → fs ≡ gs
each_once text context [] fs gs h k = h ∙ sym k
each_once text context (leaf ∷ ls) fs gs h k = h.4 ∙ ((λ i. leaf_once text context leaf h.0 k.0 h.2 k.2 i ++ each_once text context ls h.1 k.1 h.3 k.3 i) ∙ sym k.4)

bodies_once : (text : List ℕ) (context : Context) (rules : List WrittenRule) (fs gs : List DocFault) → BodiesFaults text context rules fs → BodiesFaults text context rules gs → fs ≡ gs
bodies_once text context [] fs gs h k = h ∙ sym k
bodies_once text context (rule ∷ rules) fs gs h k = h.4 ∙ ((λ i. each_once text context (leaves rule.body) h.0 k.0 h.2 k.2 i ++ bodies_once text context rules h.1 k.1 h.3 k.3 i) ∙ sym k.4)

named_once : (keyword : BareWord) (span : Spanned) (inside : List ℕ) (fs gs : List DocFault) → NameFaults keyword span inside fs → NameFaults keyword span inside gs → fs ≡ gs
named_once word.Base span inside fs gs h k = told_once {P = reading_fault inside ≡ None → ⊥} span BadUri fs gs h k
named_once word.Lexicon span inside fs gs h k = told_once {P = reading_fault inside ≡ None → ⊥} span BadUri fs gs h k
named_once word.TagFormat span inside fs gs h k = told_once {P = format_named inside ≡ None} span TagFormat fs gs h k
named_once keyword span inside fs gs h k = h ∙ sym k

argument_once : (text : List ℕ) (keyword : BareWord) (at : Option Spanned) (fs gs : List DocFault) → ArgumentFaults text keyword at fs → ArgumentFaults text keyword at gs → fs ≡ gs
argument_once text keyword None fs gs h k = h ∙ sym k
argument_once text keyword (Some span) fs gs h k = inside_once text span (λ i xs. NameFaults keyword span i xs) fs gs (λ i a b. named_once keyword span i fs gs a b) h k

declarations_once : (text : List ℕ) (before ds : List Declaration) (fs gs : List DocFault) → DeclarationFaults text before ds fs → DeclarationFaults text before ds gs → fs ≡ gs
declarations_once text before [] fs gs h k = h ∙ sym k
declarations_once text before (d ∷ ds) fs gs h k =
    h.6 ∙ ((λ i. told_once {P = IsDeclaredTwice before d} d.span DeclaredTwice h.0 k.0 h.3 k.3 i ++ (argument_once text d.keyword (span_of (argument (Some d))) h.1 k.1 h.4 k.4 i
    ++ declarations_once text (before ++ d ∷ []) ds h.2 k.2 h.5 k.5 i)) ∙ sym k.6)

-- the names are one too
record SameNames (ns ms : List (List ℕ)) (fs gs : List DocFault) : Type 0 where
  names : ns ≡ ms
  faults : fs ≡ gs

names_once : (text : List ℕ) (before : List (List ℕ)) (rules : List WrittenRule) (ns ms : List (List ℕ)) (fs gs : List DocFault) → NamesFaults text before rules ns fs → NamesFaults text before rules ms gs
    → SameNames ns ms fs gs
names_once text before [] [] [] fs gs h k = record { names = refl; faults = h ∙ sym k }
names_once text before [] [] (m ∷ ms) fs gs h k = absurd k
names_once text before [] (n ∷ ns) ms fs gs h k = absurd h
names_once text before (rule ∷ rules) [] ms fs gs h k = absurd h
names_once text before (rule ∷ rules) (n ∷ ns) [] fs gs h k = absurd k
names_once text before (rule ∷ rules) (n ∷ ns) (m ∷ ms) fs gs h k =
    let one : n ≡ m = one_inside_at text rule.name n m h.3 k.3 in
    let twice = subst (λ (x : List ℕ). Told (Contains before x) rule.name RuleTwice k.0) (sym one) k.4 in
    let reserved = subst (λ (x : List ℕ). Told (Contains specials x) rule.name Reserved k.1) (sym one) k.5 in
    let rest = subst (λ (x : List ℕ). NamesFaults text (before ++ x ∷ []) rules ms k.2) (sym one) k.6 in
    let more = names_once text (before ++ n ∷ []) rules ns ms h.2 k.2 h.6 rest in
    record {
      names = λ i. one i ∷ more.names i;
      faults = h.7 ∙ ((λ i. told_once {P = Contains before n} rule.name RuleTwice h.0 k.0 h.4 twice i
          ++ (told_once {P = Contains specials n} rule.name Reserved h.1 k.1 h.5 reserved i ++ more.faults i)) ∙ sym k.7);
    }

root_once : (text : List ℕ) (names : List (List ℕ)) (at : Option Spanned) (fs gs : List DocFault) → RootFaults text names at fs → RootFaults text names at gs → fs ≡ gs
root_once text names None fs gs h k = h ∙ sym k
root_once text names (Some span) fs gs h k =
    inside_once text span (λ i xs. Told (Contains names i → ⊥) span RootMissing xs) fs gs (λ i a b. told_once {P = Contains names i → ⊥} span RootMissing fs gs a b) h k

format_once : (text : List ℕ) (at : Option Spanned) (f g : Option Format) → FormatIs text at f → FormatIs text at g → f ≡ g
format_once text None f g h k = h ∙ sym k
format_once text (Some span) f g h k = h.2 ∙ (ap format_named (one_inside_at text span h.0 k.0 h.1 k.1) ∙ sym k.2)

pub context_once : (text : List ℕ) (ds : List Declaration) (c d : Context) → HasContext text ds c → HasContext text ds d → c ≡ d
context_once text ds c d h k = λ i. record { mode = (h.mode ∙ sym k.mode) i; format = format_once text (format_of ds) c.format d.format h.format k.format i }

pub faults_once : (text : List ℕ) (document : WrittenDocument) (fs gs : List DocFault) → AreFaults text document fs → AreFaults text document gs → fs ≡ gs
faults_once text document fs gs h k =
    let contexts : h.context ≡ k.context = context_once text document.declarations h.context k.context h.has_context k.has_context in
    let names = names_once text [] document.rules h.names k.names h.named k.named h.of_names k.of_names in
    let bodies = bodies_once text h.context document.rules h.bodies k.bodies h.of_bodies (subst (λ (c : Context). BodiesFaults text c document.rules k.bodies) (sym contexts) k.of_bodies) in
    let roots = root_once text h.names (root_of document.declarations) h.root k.root h.of_root
    (subst (λ (ns : List (List ℕ)). RootFaults text ns (root_of document.declarations) k.root) (sym names.names) k.of_root) in
    h.whole ∙ ((λ i. declarations_once text [] document.declarations h.declarations k.declarations h.of_declarations k.of_declarations i
    ++ (names.faults i ++ (bodies i ++ roots i))) ∙ sym k.whole)

-- ---- answers

pub one_document : (text : List ℕ) (a b : WrittenDocument) → IsWritten text a → IsWritten text b → a ≡ b
one_document text a b h k = same_Ok (one_answer text (Ok a) (Ok b) h k)

not_syntax : (text : List ℕ) (document : WrittenDocument) (fault : DocFault) → IsWritten text document → IsSyntax text (Err fault) → ⊥
not_syntax text document fault h k = let e : ◌≡◌ {A = Result WrittenDocument DocFault} (Ok document) (Err fault) = one_answer text (Ok document) (Err fault) h k in cc

pub not_both : (text : List ℕ) (doc : Doc) (fault : DocFault) → Reads text doc → IsFirstFault text fault → ⊥
not_both text doc fault r (inl s) = not_syntax text r.document fault r.is_written s
not_both text doc fault r (inr v) =
    let same = one_document text v.document r.document v.is_written r.is_written in
    let none = faults_once text r.document v.faults [] (subst (λ (d : WrittenDocument). AreFaults text d v.faults) same v.are_faults) r.faultless in
    none_first v.faults fault none v.first

pub one_first_fault : (text : List ℕ) (f g : DocFault) → IsFirstFault text f → IsFirstFault text g → f ≡ g
one_first_fault text f g (inl h) (inl k) = same_Err (one_answer text (Err f) (Err g) h k)
one_first_fault text f g (inl h) (inr k) = absurd (not_syntax text k.document f k.is_written h)
one_first_fault text f g (inr h) (inl k) = absurd (not_syntax text h.document g h.is_written k)
one_first_fault text f g (inr h) (inr k) =
    let same = one_document text k.document h.document k.is_written h.is_written in
    let faults = faults_once text h.document k.faults h.faults (subst (λ (d : WrittenDocument). AreFaults text d k.faults) same k.are_faults) h.are_faults in
    same_fault f g (one_first doc_fault_order faults_total h.faults f g h.first (subst (λ (fs : List DocFault). IsFirst doc_fault_order fs (Some g)) faults k.first))
