use Rattle.std.proofs.Common.{ℕ, ◌<◌, ◌≡◌, List, [], ◌∷◌, ◌++◌, Some, None, length, get_or, reverse, refl, sym, ap, ◌∙◌, arith}
use Rattle.std.specs.List.{AllByRecursion}
use Rattle.std.proofs.lemmas.List.{reverse-reverse}
use Rattle.std.proofs.lemmas.Option.{slice_get-get_or, get_or_from_slice_get}
use Rattle.vg_base.specs.declared.numbers.DocIx.{DocIx}
use Rattle.grammar_tree.specs.declared.doc_set.DocText.{DocText}
use Rattle.grammar_tree.specs.declared.document.Doc.{Doc}
use Rattle.grammar_tree.specs.declared.document.ReadDoc.TheVariants as read
use Rattle.rule_reader.specs.Imports.{IsReadable, uris_of}
use Rattle.linker.specs.declared.documents.Whole.{Whole}
use Rattle.linker.specs.declared.scope.Scope.{Scope}
use Rattle.linker.specs.Readings.{Readings}
use Rattle.linker.specs.code.Scopes.{IsScope}
use Rattle.linker.specs.code.Wholes.{Grows, LaysRules, one_in}
use Rattle.linker.proofs.WholeRules.{lays_as}
use Rattle.linker.proofs.WholeDocuments.{IsBegun, grows_document, table_there}
use Rattle.linker.proofs.documents.lay_document.Goals as goal

-- what is known of the document before its rules are laid
record IsOpen (readings : Readings) (own : Doc) (scope : Scope) (staged : DocText) (old mid : Whole) : Type 0 where
  within : IsScope readings own scope
  under : staged.key ≡ scope.key.now
  begun : IsBegun scope own old mid
  readable : AllByRecursion IsReadable (uris_of own.rules)

grown : {scope : Scope} {mid new : Whole} (readings : Readings) (own : Doc) (staged : DocText) (old : Whole) →
    LaysRules scope (record { 0 = length old.docs }) own.rules mid new → IsOpen readings own scope staged old mid →
    Grows scope.set.now readings (one_in scope.set.now readings scope.place (length old.docs) staged (Some (read.Good own))) old new
grown {scope = scope} readings own staged old lays is = grows_document readings own scope is.within staged is.under is.begun is.readable lays

pub returns-in_default : goal.returns-in_default
returns-in_default c = λ readings staged tables is_read is_staged.
    let lt : c.args.place < length c.args.library.now.tables.now = omega (arith, c.requires.place, c.requires.sized) in
    let there = slice_get-get_or c.args.library.now.tables.now c.args.place c.index-library-place.result lt in
    absurd (table_there tables c.args.place (Some (read.Good c.args.doc)) None is_read (there ∙ ap Some c.in_default.is))

pub returns : goal.returns
returns c = λ readings staged tables is_read is_staged.
    let set : List DocText = c.args.library.now.set.now in
    let one : DocText = get_or c.docs.result.now c.args.place c.index-docs-place.result in
    let lt : c.args.place < length c.args.library.now.tables.now = omega (arith, c.requires.place, c.requires.sized) in
    let there = slice_get-get_or c.args.library.now.tables.now c.args.place c.index-library-place.result lt in
    let known = table_there tables c.args.place (Some (read.Good c.args.doc)) (Some c.in-Some.own) is_read (there ∙ ap Some c.in-Some.is) in
    let here : one ≡ staged =
    ap (λ (docs : List DocText). get_or docs c.args.place c.index-docs-place.result) c.docs.ensures.same
    ∙ get_or_from_slice_get set c.args.place staged c.index-docs-place.result is_staged in
    let number : ◌≡◌ {A = DocIx} (record { 0 = c.len-number.result }) (record { 0 = length c.args.whole.now.docs }) = λ i. record { 0 = c.len-number.ensures i } in
    let same : reverse c.in_ok-reversed.field-0.items ≡ c.args.doc.rules = ap reverse c.in_ok-reversed.ensures ∙ reverse-reverse c.args.doc.rules in
    grown readings c.args.doc staged c.args.whole.now (lays_as number same c.in_ok-lay_rules.ensures) (record {
      within = record { sized = sym tables.sized ∙ c.requires.sized; tables = tables; known = known; base = c.in_ok-base.ensures };
      under = ap (λ (d : DocText). d.key) (sym here);
      begun = record {
        nodes = refl;
        faults = refl;
        rules = refl;
        docs = c.in_ok-push.ensures.ok ∙ ap (λ (key : List ℕ). c.args.whole.now.docs ++ record { key = key; mode = c.args.doc.mode; format = c.args.doc.format; root = c.in-Some.own.root } ∷ []) c.in_ok-copy.ensures;
        defined = refl;
      };
      readable = c.requires.resolvable.uris;
    })
