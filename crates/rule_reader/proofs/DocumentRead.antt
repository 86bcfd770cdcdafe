-- A document is read: its declarations one after another, and its parts together.
use Rattle.std.proofs.Common.{◌≡◌, ℕ, Bool, true, false, List, [], ◌∷◌, ◌++◌, Option, Some, None, Result, Ok, Err, inl, inr, refl, sym, ap, subst, ◌∙◌, append_assoc}
use Rattle.std.specs.Prelude.{MatchBool, not}
use Rattle.std.specs.List.{list_any}
use Rattle.std.proofs.lemmas.List.{append-nil}
use Rattle.vg_base.specs.First.{IsFirst}
use Rattle.vg_base.specs.Faults.{doc_fault_order}
use Rattle.vg_base.specs.declared.doc_fault.DocKind.TheVariants.{DeclaredTwice, BadUri, TagFormat}
use Rattle.vg_base.specs.declared.doc_fault.DocFault.{DocFault}
use Rattle.vg_base.specs.declared.format.Format.{Format}
use Rattle.abnf_lexer.specs.declared.lexemes.Spanned.{Spanned}
use Rattle.uri_links.specs.Faults.{reading_fault}
use Rattle.abnf_parser.specs.declared.lexeme.BareWord.{BareWord}
use Rattle.abnf_parser.specs.declared.lexeme.BareWord.TheVariants as word
use Rattle.abnf_parser.specs.declared.written.Declaration.{Declaration}
use Rattle.abnf_parser.specs.declared.written.WrittenRule.{WrittenRule}
use Rattle.abnf_parser.specs.declared.written.WrittenDocument.{WrittenDocument}
use Rattle.grammar_tree.specs.declared.document.Doc.{Doc}
use Rattle.grammar_tree.specs.declared.document.Rule.{Rule}
use Rattle.rule_reader.specs.declared.context.Context.{Context}
use Rattle.rule_reader.specs.Context.{once, same, argument, span_of, root_of, base_of, format_named, HasContext}
use Rattle.rule_reader.specs.LeafFaults.{Told}
use Rattle.rule_reader.specs.Meaning.{IsThere, DocumentMeans}
use Rattle.rule_reader.specs.DocumentFaults.{IsDeclaredTwice, NameFaults, ArgumentFaults, DeclarationFaults, RootFaults, AreFaults}
use Rattle.abnf_parser.specs.Texts.{IsWritten}
use Rattle.rule_reader.specs.Reading.{IsReading}
use Rattle.rule_reader.specs.code.Contexts.{names_uri, names_format}
use Rattle.rule_reader.specs.code.Walks.{told, Adds, IsReadAs, Tells, AreKept, DeclarationsSoFar, NamesRead, RulesRead, Answered}
use Rattle.rule_reader.proofs.Walks.{front_none, back_none}
use Rattle.rule_reader.proofs.Told.{adds_none, adds_both, told_where}

-- ---- what stands behind a keyword

pub uri_told : (keyword : BareWord) (span : Spanned) (inside : List ℕ) (faults : List DocFault) → names_uri keyword ≡ true → Told (reading_fault inside ≡ None → ⊥) span BadUri faults
    → NameFaults keyword span inside faults
uri_told word.Base span inside faults e h = h
uri_told word.Lexicon span inside faults e h = h
uri_told keyword span inside faults e h = absurd cc

pub format_told : (keyword : BareWord) (span : Spanned) (inside : List ℕ) (faults : List DocFault) → names_format keyword ≡ true → Told (format_named inside ≡ None) span TagFormat faults
    → NameFaults keyword span inside faults
format_told word.TagFormat span inside faults e h = h
format_told keyword span inside faults e h = absurd cc

pub none_told : (keyword : BareWord) (span : Spanned) (inside : List ℕ) → names_uri keyword ≡ false → names_format keyword ≡ false → NameFaults keyword span inside []
none_told word.Base span inside e f = absurd cc
none_told word.Lexicon span inside e f = absurd cc
none_told word.TagFormat span inside e f = absurd cc
none_told keyword span inside e f = refl

-- ---- one declaration after another

pub twice_told : (before : List Declaration) (d : Declaration) (b : Bool) → b ≡ list_any (λ (other : Declaration). same (once other.keyword) (once d.keyword)) before
    → MatchBool b (IsDeclaredTwice before d) (IsDeclaredTwice before d → ⊥)
twice_told before d true e = sym e
twice_told before d false e = λ h. let f : false ≡ true = e ∙ h in cc

pub declarations_none : (text : List ℕ) (all : List Declaration) (found : Option DocFault) → DeclarationsSoFar text all [] all found found
declarations_none text all found = record { faults = []; adds = adds_none found; goes_on = λ others h. h }

pub declarations_next : {text : List ℕ} {all before rest : List Declaration} {old mid first new : Option DocFault} {twice : Bool} (d : Declaration) → DeclarationsSoFar text all before (d ∷ rest) old mid
    → twice ≡ list_any (λ (other : Declaration). same (once other.keyword) (once d.keyword)) before → Adds (told twice d.span DeclaredTwice) mid first
    → Tells (ArgumentFaults text d.keyword (span_of (argument (Some d)))) first new → DeclarationsSoFar text all (before ++ d ∷ []) rest old new
declarations_next {text} {all} {before} {rest} {old} {mid} {first} {new} {twice} d h e adds own =
    let again = told twice d.span DeclaredTwice in
    record {
      faults = h.faults ++ (again ++ own.faults);
      adds = adds_both h.faults (again ++ own.faults) old mid new h.adds (adds_both again own.faults mid first new adds own.adds);
      goes_on = λ others k.
          subst (λ (fs : List DocFault). DeclarationFaults text [] all fs) (sym (append_assoc h.faults (again ++ own.faults) others))
          (h.goes_on ((again ++ own.faults) ++ others) (again, own.faults, others, told_where (IsDeclaredTwice before d) twice d.span DeclaredTwice (twice_told before d twice e), own.are, k, append_assoc again own.faults others));
    }

pub declarations_all : (text : List ℕ) (all before rest : List Declaration) (old new : Option DocFault) → rest ≡ [] → DeclarationsSoFar text all before rest old new → Tells (DeclarationFaults text [] all) old new
declarations_all text all before rest old new e h = record {
  faults = h.faults ++ [];
  are = h.goes_on [] (subst (λ (ds : List Declaration). DeclarationFaults text before ds []) (sym e) refl);
  adds = subst (λ (fs : List DocFault). Adds fs old new) (sym (append-nil h.faults)) h.adds;
}

-- ---- the whole

-- all faults, the first of them, and what the document means if there is none
pub record AllRead (text : List ℕ) (document : WrittenDocument) (found : Option DocFault) (doc : Doc) : Type 0 where
  pub faults : List DocFault
  pub are : AreFaults text document faults
  pub first : IsFirst doc_fault_order faults found
  pub means : faults ≡ [] → DocumentMeans text document doc

pub all_read : {text : List ℕ} {document : WrittenDocument} {context : Context} {map : List (List ℕ × Unit {0})} {f1 f2 f3 f4 : Option DocFault} {rules : List Rule} {root base : Option (List ℕ)}
    → Tells (DeclarationFaults text [] document.declarations) None f1 → NamesRead text document.rules map f1 f2 → HasContext text document.declarations context
    → RulesRead text context document.rules f2 f3 rules
    → ((those : List (List ℕ)) → AreKept those map → IsReadAs (RootFaults text those (root_of document.declarations)) (IsThere text (root_of document.declarations)) f3 f4 root)
    → IsThere text (base_of document.declarations) base
    → AllRead text document f4 (record { mode = context.mode; root = root; format = context.format; base = base; rules = rules })
all_read {text} {document} {context} {map} {f1} {f2} {f3} {f4} {rules} {root} {base} d n ctx r of_root b =
    let ro = of_root n.names n.kept in
    let behind = r.faults ++ ro.faults in
    record {
      faults = d.faults ++ (n.faults ++ behind);
      are = record {
        context = context;
        names = n.names;
        declarations = d.faults;
        named = n.faults;
        bodies = r.faults;
        root = ro.faults;
        has_context = ctx;
        of_declarations = d.are;
        of_names = n.are;
        of_bodies = r.are;
        of_root = ro.are;
        whole = refl;
      };
      first = (adds_both d.faults (n.faults ++ behind) None f1 f4 d.adds (adds_both n.faults behind f1 f2 f4 n.adds (adds_both r.faults ro.faults f2 f3 f4 r.adds ro.adds))).first [] refl;
      means = λ e.
          let none = back_none n.faults behind (back_none d.faults (n.faults ++ behind) e) in
          record { context = ctx; root = ro.is (back_none r.faults ro.faults none); base = b; rules = r.is (front_none r.faults ro.faults none) };
    }

-- the parts of the document as the code lends them
pub record Lent (document : WrittenDocument) (ds : List Declaration) (rs : List WrittenRule) (root base : Option Spanned) : Type 0 where
  pub declarations_are : ds ≡ document.declarations
  pub rules_are : rs ≡ document.rules
  pub root_is : root ≡ root_of ds
  pub base_is : base ≡ base_of ds

pub whole_read : {text : List ℕ} {document : WrittenDocument} {ds : List Declaration} {rs : List WrittenRule} {at_root at_base : Option Spanned} {context : Context}
    {map : List (List ℕ × Unit {0})} {f1 f2 f3 f4 : Option DocFault} {rules : List Rule} {root base : Option (List ℕ)} → Lent document ds rs at_root at_base
    → Tells (DeclarationFaults text [] ds) None f1 × NamesRead text rs map f1 f2 → HasContext text ds context → RulesRead text context rs f2 f3 rules
    → ((those : List (List ℕ)) → AreKept those map → IsReadAs (RootFaults text those at_root) (IsThere text at_root) f3 f4 root) → IsThere text at_base base
    → AllRead text document f4 (record { mode = context.mode; root = root; format = context.format; base = base; rules = rules })
whole_read {text} {document} {ds} {rs} {at_root} {at_base} {context} {map} {f1} {f2} {f3} {f4} {rules} {root} {base} lent d ctx r of_root b =
    let of_ds = lent.declarations_are in
    let at_root_of : at_root ≡ root_of document.declarations = lent.root_is ∙ ap root_of of_ds in
    let at_base_of : at_base ≡ base_of document.declarations = lent.base_is ∙ ap base_of of_ds in
    all_read
    (subst (λ (xs : List Declaration). Tells (DeclarationFaults text [] xs) None f1) of_ds d.0)
    (subst (λ (xs : List WrittenRule). NamesRead text xs map f1 f2) lent.rules_are d.1)
    (subst (λ (xs : List Declaration). HasContext text xs context) of_ds ctx)
    (subst (λ (xs : List WrittenRule). RulesRead text context xs f2 f3 rules) lent.rules_are r)
    (subst (λ (s : Option Spanned). (those : List (List ℕ)) → AreKept those map → IsReadAs (RootFaults text those s) (IsThere text s) f3 f4 root) at_root_of of_root)
    (subst (λ (s : Option Spanned). IsThere text s base) at_base_of b)

pub answered_ok : {text : List ℕ} {document : WrittenDocument} {found : Option DocFault} {doc : Doc} → found ≡ None → AllRead text document found doc → Answered text document (Ok doc)
answered_ok {text} {document} {found} {doc} e h =
    let none : h.faults ≡ [] = subst (λ (f : Option DocFault). IsFirst doc_fault_order h.faults f) e h.first in
    (subst (λ (fs : List DocFault). AreFaults text document fs) none h.are, h.means none)

pub answered_err : {text : List ℕ} {document : WrittenDocument} {found : Option DocFault} {doc : Doc} (fault : DocFault) → found ≡ Some fault → AllRead text document found doc
    → Answered text document (Err fault)
answered_err {text} {document} {found} {doc} fault e h = (h.faults, h.are, subst (λ (f : Option DocFault). IsFirst doc_fault_order h.faults f) e h.first)

pub reading_ok : (text : List ℕ) (document : WrittenDocument) (doc : Doc) → IsWritten text document → Answered text document (Ok doc) → IsReading text (Ok doc)
reading_ok text document doc h a = record { document = document; is_written = h; faultless = a.0; means = a.1 }

pub reading_err : (text : List ℕ) (document : WrittenDocument) (fault : DocFault) → IsWritten text document → Answered text document (Err fault) → IsReading text (Err fault)
reading_err text document fault h a = inr (record { document = document; is_written = h; faults = a.0; are_faults = a.1; first = a.2 })
