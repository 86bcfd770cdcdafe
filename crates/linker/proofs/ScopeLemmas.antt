-- Where a reference by URI leads.
use Rattle.std.proofs.Common.{◌≡◌, ℕ, ◌<◌, Bool, true, false, cond, List, [], length, Option, Some, ap, sym, subst, ◌∙◌}
use Rattle.std.specs.Prelude.{◌==◌, slice_get, Ok}
use Rattle.std.specs.Option.{option_map_or}
use Rattle.std.proofs.lemmas.Bool.{eq-eqb, ne_eqb}
use Rattle.std.proofs.lemmas.List.Quantifiers.{position-Some}
use Rattle.std.proofs.lemmas.Option.{same_Some}
use Rattle.vg_base.proofs.Plain.{same_Ok}
use Rattle.vg_base.specs.declared.link_fault.LinkKind.TheVariants.{NoDocument}
use Rattle.uri_links.specs.Faults.{unless, reading_fault}
use Rattle.grammar_tree.specs.declared.doc_set.DocText.{DocText}
use Rattle.grammar_tree.specs.DocSets.{is_under}
use Rattle.grammar_tree.specs.declared.document.Doc.{Doc}
use Rattle.grammar_tree.specs.declared.document.ReadDoc.{ReadDoc}
use Rattle.rule_reader.specs.Imports.{IsReadable}
use Rattle.linker.specs.declared.tables.Known.{Known}
use Rattle.linker.specs.declared.target.Target.{Target}
use Rattle.linker.specs.declared.target.Target.TheVariants.{Fault}
use Rattle.linker.specs.Readings.{Readings, place_of}
use Rattle.linker.specs.Targets.{rules_before, within, across, at_key}
use Rattle.linker.specs.code.Tables.{AreTables, IsTable}

-- what is read of a text that can be read is the text
pub read_is : (uri reference : List ℕ) → IsReadable uri → unless (reading_fault uri) uri ≡ Ok reference → uri ≡ reference
read_is uri reference readable e = same_Ok (sym (ap (λ fault. unless fault uri) readable) ∙ e)

-- the reading of another document, and that its table stands for it
pub record IsAt (docs : Readings) (place : ℕ) (other : Option Known) : Type 0 where
  pub reading : Option ReadDoc
  pub there : slice_get docs place ≡ Some reading
  pub table : IsTable (rules_before docs place) reading other

pub reading_at : {docs : Readings} {tables : List (Option Known)} (place : ℕ) (other : Option Known) → AreTables docs tables → place < length docs → Some other ≡ slice_get tables place → IsAt docs place other
reading_at {docs} place other are below e =
    let has = are.each place below in
    let same : has.table ≡ other = same_Some has.table other (sym has.is_there ∙ sym e) in
    record { reading = has.reading; there = has.is_read; table = subst (IsTable (rules_before docs place) has.reading) same has.is_table }

-- ---- what stands at a key

-- it stands in the set
pub placed : (set : List DocText) (key : List ℕ) (y : ℕ) → Some y ≡ place_of set key → y < length set
placed set key y e = (position-Some (is_under key) set y (record { key = []; text = [] }) (sym e)).0

-- a reference by URI from document x, whose key is known
pub record ByKey : Type 0 where
  pub docs : Readings
  pub set : List DocText
  pub x : ℕ
  pub own : Doc
  pub key : List ℕ
  pub name : Option (List ℕ)

abbrev pub meant : ByKey → Target
meant q = at_key q.docs q.set q.x q.own q.key q.name

abbrev pub meant_within : ByKey → Target
meant_within q = within q.docs q.x q.own q.name

abbrev pub meant_across : ByKey → ℕ → Target
meant_across q y = across q.docs q.own.mode y (slice_get q.docs y) q.name

at_place : (q : ByKey) (y : ℕ) (b : Bool) → Some y ≡ place_of q.set q.key → (y == q.x) ≡ b → cond b (meant_within q) (meant_across q y) ≡ meant q
at_place q y b e f =
    ap (λ b. cond b (meant_within q) (meant_across q y)) (sym f) ∙ ap (λ o. option_map_or (λ y. cond (y == q.x) (meant_within q) (meant_across q y)) o (Fault NoDocument)) e

-- the document at the key is the one that refers
pub at_own : (q : ByKey) (y : ℕ) → Some y ≡ place_of q.set q.key → y ≡ q.x → meant_within q ≡ meant q
at_own q y e same = at_place q y true e (eq-eqb y q.x same)

-- it is another one
pub at_other : (q : ByKey) (y : ℕ) → Some y ≡ place_of q.set q.key → (y ≡ q.x → ⊥) → meant_across q y ≡ meant q
at_other q y e apart = at_place q y false e (ne_eqb y q.x apart)
