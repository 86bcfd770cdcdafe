-- Documents: what one of them adds with its rules (`grows_document`), and the documents so far, of which the rest is told by `documents_in`:
-- `one_document_so_far` is the step, `documents_are_whole` the end.
use Rattle.std.proofs.Common.{ℕ, zero, suc, ◌+◌, ◌<◌, ◌≤◌, ◌≡◌, Option, Some, None, List, [], ◌∷◌, ◌++◌, length, map, drop, get_or, refl, sym, ap, subst, ◌∙◌, arith, append_assoc, length-append, zero-add}
use Rattle.std.specs.Prelude.{slice_get}
use Rattle.std.specs.List.{AllByRecursion, enumerate_from}
use Rattle.std.specs.Option.{option_map, option_map_or}
use Rattle.std.proofs.lemmas.List.{append-nil}
use Rattle.std.proofs.lemmas.List.FromFn.{length-enumerate_from, get_or-enumerate_from}
use Rattle.std.proofs.lemmas.Option.{slice_get_read, slice_get_within}
use Rattle.vg_base.specs.declared.numbers.DocIx.{DocIx}
use Rattle.vg_base.specs.declared.numbers.RuleIx.{RuleIx}
use Rattle.vg_base.specs.Pairs.{find}
use Rattle.vg_base.specs.declared.doc_fault.DocFault.{DocFault}
use Rattle.grammar_tree.specs.declared.doc_set.DocText.{DocText}
use Rattle.grammar_tree.specs.declared.document.Doc.{Doc}
use Rattle.grammar_tree.specs.declared.document.ReadDoc.{ReadDoc}
use Rattle.grammar_tree.specs.declared.document.ReadDoc.TheVariants as read
use Rattle.grammar_tree.specs.declared.document.Rule.{Rule}
use Rattle.rule_reader.specs.Imports.{IsReadable, uris_of}
use Rattle.linker.specs.declared.documents.Whole.{Whole}
use Rattle.linker.specs.declared.scope.Scope.{Scope}
use Rattle.linker.specs.declared.faults.Faults.{Faults}
use Rattle.linker.specs.declared.set_fault.FaultKind.TheVariants as kind
use Rattle.linker.specs.declared.set_fault.SetFault.{SetFault}
use Rattle.linker.specs.declared.tables.Known.{Known}
use Rattle.linker.specs.declared.version.VersionDoc.{VersionDoc}
use Rattle.linker.specs.Readings.{Readings}
use Rattle.linker.specs.Targets as targets
use Rattle.linker.specs.Targets.{place_named, root_of, rules_before}
use Rattle.linker.specs.Numbers.{Definition, Laid, definitions, definitions_from, laid, linked_rules, meant_in, one_by_one, starts}
use Rattle.linker.specs.SetFaults.{fault_at, faults_from, document_faults}
use Rattle.linker.specs.Versions.{version_docs}
use Rattle.linker.specs.code.Tellings.{Keeps}
use Rattle.linker.specs.code.Scopes.{IsScope}
use Rattle.linker.specs.code.Tables.{AreTables, IsKnown, IsTable, named_rule}
use Rattle.linker.specs.code.Wholes.{defined_of, Added, Grows, definition_in, rules_in, LaysRules, documents_in, one_in, IsWhole}
use Rattle.linker.proofs.LayingLists.{Tells}
use Rattle.linker.proofs.WholeSums.{both, same_added, grows_none, grows_both}

-- ---- documents

drop_first : {X : Type 0} (xs : List X) (n : ℕ) (x : X) → slice_get xs n ≡ Some x → drop n xs ≡ x ∷ drop (n + 1) xs
drop_first [] n x there = absurd (cc)
drop_first (y ∷ xs) zero x there = let same : y ≡ x = cc in ap (λ z. z ∷ xs) same
drop_first (y ∷ xs) (suc n) x there =
    let e : suc (n + 1) ≡ suc n + 1 = omega arith in
    drop_first xs n x there ∙ ap (λ k. x ∷ drop k (y ∷ xs)) e

drop_beyond : {X : Type 0} (xs : List X) (n : ℕ) → length xs ≤ n → drop n xs ≡ []
drop_beyond [] zero le = refl
drop_beyond [] (suc n) le = refl
drop_beyond (x ∷ xs) zero le = absurd (omega (arith, le))
drop_beyond (x ∷ xs) (suc n) le = drop_beyond xs n (omega arith)

both_assoc : (a b c : Added) → both (both a b) c ≡ both a (both b c)
both_assoc a b c = same_added (append_assoc a.definitions b.definitions c.definitions) (append_assoc a.docs b.docs c.docs) (append_assoc a.faults b.faults c.faults)

both_none : (a : Added) → both a (record { definitions = []; docs = []; faults = [] }) ≡ a
both_none a = same_added (append-nil a.definitions) (append-nil a.docs) (append-nil a.faults)

-- a document is numbered where it was read without a fault
abbrev pub numbered : Option ReadDoc → ℕ
numbered (Some (read.Good doc)) = 1
numbered reading = 0

-- the root rule of the document is the one in its table
root_is : (readings : Readings) (y : ℕ) (doc : Doc) (known : Known) → IsKnown (rules_before readings y) doc known → known.root ≡ root_of readings y doc
root_is readings y doc known is = is.root ∙ by doc.root
  where
    at : (found : Option ℕ) → option_map (λ rule. rule.rule) (option_map (named_rule (rules_before readings y) doc.rules) found) ≡ option_map (targets.number readings y) found
    at None = refl
    at (Some k) = refl

    by : (root : Option (List ℕ)) →
        option_map_or (λ name. option_map (λ found. found.rule) (find name known.names)) root None ≡ option_map_or (λ name. option_map (targets.number readings y) (place_named doc name)) root None
    by None = refl
    by (Some name) = ap (option_map (λ found. found.rule)) (is.names name) ∙ at (place_named doc name)

-- the document has its number, and no rule of it is laid yet
pub record IsBegun (scope : Scope) (own : Doc) (old mid : Whole) : Type 0 where
  pub nodes : mid.laying.nodes.items ≡ old.laying.nodes.items
  pub faults : mid.laying.faults ≡ old.laying.faults
  pub rules : mid.rules ≡ old.rules
  pub docs : mid.docs ≡ old.docs ++ record { key = scope.key.now; mode = own.mode; format = own.format; root = scope.own.now.root } ∷ []
  pub defined : mid.defined.items ≡ old.defined.items

abbrev begun_in : Readings → Doc → Scope → Added
begun_in readings own scope = record {
  definitions = [];
  docs = record { key = scope.key.now; mode = own.mode; format = own.format; root = root_of readings scope.place own } ∷ [];
  faults = [];
}

module _ (readings : Readings) (own : Doc) (scope : Scope) (within : IsScope readings own scope) where
  grows_begun : {old mid : Whole} → IsBegun scope own old mid →
      Grows scope.set.now readings (begun_in readings own scope) old mid
  grows_begun {old = old} {mid = mid} is = record {
    nodes = is.nodes ∙ sym (append-nil old.laying.nodes.items);
    rules = is.rules ∙ sym (append-nil old.rules);
    docs = is.docs ∙ ap (λ (root : Option RuleIx). old.docs ++ record { key = scope.key.now; mode = own.mode; format = own.format; root = root } ∷ []) (root_is readings scope.place own scope.own.now within.known);
    defined = is.defined ∙ sym (append-nil old.defined.items);
    faults = λ all keeps. subst (λ faults. Keeps faults mid.laying.faults) (sym (append-nil all)) (subst (Keeps all) (sym is.faults) keeps);
  }

  -- what a document adds with its rules
  pub grows_document : {old mid new : Whole} (staged : DocText) → staged.key ≡ scope.key.now → IsBegun scope own old mid →
      AllByRecursion IsReadable (uris_of own.rules) → LaysRules scope (record { 0 = length old.docs }) own.rules mid new →
      Grows scope.set.now readings (one_in scope.set.now readings scope.place (length old.docs) staged (Some (read.Good own))) old new
  grows_document {old = old} {new = new} staged under begun readable lays =
      let set = scope.set.now in
      let x : ℕ = scope.place in
      let one : DocText = record { key = scope.key.now; text = staged.text } in
      let number : DocIx = record { 0 = length old.docs } in
      let same : one ≡ staged = λ i. record { key = sym under i; text = staged.text } in
      let grows = grows_both set readings (grows_begun begun) (lays readings own within readable) in
      let added : both (begun_in readings own scope) (rules_in readings own scope number own.rules) ≡ one_in set readings x (length old.docs) one (Some (read.Good own)) =
      same_added (sym (append-nil (map (definition_in scope own number) own.rules))) refl
      (sym (append-nil (document_faults set readings x scope.key.now (Some (read.Good own))))) in
      subst (λ staged. Grows set readings (one_in set readings x (length old.docs) staged (Some (read.Good own))) old new) same
      (subst (λ added. Grows set readings added old new) added grows)

-- a document is read, and there is its table
pub table_there : {readings : Readings} {tables : List (Option Known)} → AreTables readings tables → (y : ℕ) (reading : Option ReadDoc) (table : Option Known) →
    slice_get readings y ≡ Some reading → slice_get tables y ≡ Some table → IsTable (rules_before readings y) reading table
table_there {readings = readings} are y reading table is_read is_there =
    let has = are.each y (slice_get_within readings y reading is_read) in
    let one : has.reading ≡ reading = cc (sym has.is_read ∙ is_read) in
    let other : has.table ≡ table = cc (sym has.is_there ∙ is_there) in
    subst (λ t. IsTable (rules_before readings y) reading t) other (subst (λ r. IsTable (rules_before readings y) r has.table) one has.is_table)

-- the one fault of a document is told
module _ (set : List DocText) (readings : Readings) where
  pub grows_fault : (x : ℕ) (staged : DocText) (fault : DocFault) (old : Whole) (faults : Faults) →
      Tells (fault_at staged.key fault.place (kind.Doc fault.kind) ∷ []) old.laying.faults faults →
      Grows set readings (one_in set readings x (length old.docs) staged (Some (read.Bad fault))) old (record old { laying = record { nodes = old.laying.nodes; faults = faults } })
  grows_fault x staged fault old faults tells = record {
    nodes = sym (append-nil old.laying.nodes.items);
    rules = sym (append-nil old.rules);
    docs = sym (append-nil old.docs);
    defined = sym (append-nil old.defined.items);
    faults = tells;
  }

numbered_few : (reading : Option ReadDoc) → numbered reading ≤ 1
numbered_few None = omega arith
numbered_few (Some (read.Bad fault)) = omega arith
numbered_few (Some (read.Good doc)) = omega arith

module _ (set : List DocText) (readings : Readings) where
  documents_join : (x number : ℕ) (staged : DocText) (others : List DocText) (reading : Option ReadDoc) (docs : Readings) →
      documents_in set readings x number (staged ∷ others) (reading ∷ docs)
      ≡ both (one_in set readings x number staged reading) (documents_in set readings (x + 1) (number + numbered reading) others docs)
  documents_join x number staged others None docs =
      let same : number ≡ number + 0 = omega arith in
      same_added (ap (λ n. definitions_from (x + 1) n others docs) same) refl refl
  documents_join x number staged others (Some (read.Bad fault)) docs =
      let same : number ≡ number + 0 = omega arith in
      same_added (ap (λ n. definitions_from (x + 1) n others docs) same) refl refl
  documents_join x number staged others (Some (read.Good doc)) docs =
      let definition : Rule → Definition = λ rule. record { x = x; key = staged.key; own = doc; doc = record { 0 = number }; rule = rule } in
      same_added
      (ap (λ ds. ds ++ definitions_from (x + 1) (number + 1) others docs) (sym (append-nil (map definition doc.rules))))
      refl
      (ap (λ faults. faults ++ faults_from set readings (x + 1) others docs) (sym (append-nil (document_faults set readings x staged.key (Some (read.Good doc))))))

  versions_of_one : (x number : ℕ) (staged : DocText) (reading : Option ReadDoc) → length (one_in set readings x number staged reading).docs ≡ numbered reading
  versions_of_one x number staged None = refl
  versions_of_one x number staged (Some (read.Bad fault)) = refl
  versions_of_one x number staged (Some (read.Good doc)) = refl

-- the first k documents are laid
pub record DocumentsSoFar (set : List DocText) (readings : Readings) (k : ℕ) (start whole : Whole) : Type 0 where
  pub added : Added
  pub grows : Grows set readings added start whole
  pub left : documents_in set readings 0 0 set readings ≡ both added (documents_in set readings k (length whole.docs) (drop k set) (drop k readings))
  pub few : length whole.docs ≤ k

-- nothing is laid
pub record IsEmpty (whole : Whole) : Type 0 where
  pub nodes : whole.laying.nodes.items ≡ []
  pub rules : whole.rules ≡ []
  pub docs : whole.docs ≡ []
  pub defined : whole.defined.items ≡ []

module _ (set : List DocText) (readings : Readings) where
  -- none of them yet
  pub no_documents_so_far : (start : Whole) → start.docs ≡ [] → DocumentsSoFar set readings 0 start start
  no_documents_so_far start is = record {
    added = record { definitions = []; docs = []; faults = [] };
    grows = grows_none set readings start;
    left = ap (λ (docs : List VersionDoc). documents_in set readings 0 (length docs) set readings) (sym is);
    few = omega (arith, ap length is);
  }

  -- one more
  pub one_document_so_far : {k : ℕ} {start mid new : Whole} {staged : DocText} {reading : Option ReadDoc} → DocumentsSoFar set readings k start mid →
      slice_get set k ≡ Some staged → slice_get readings k ≡ Some reading → Grows set readings (one_in set readings k (length mid.docs) staged reading) mid new →
      DocumentsSoFar set readings (k + 1) start new
  one_document_so_far {k = k} {start = start} {mid = mid} {new = new} {staged = staged} {reading = reading} s one other grows =
      let more : length new.docs ≡ length mid.docs + numbered reading =
      ap length grows.docs ∙ (length-append mid.docs (one_in set readings k (length mid.docs) staged reading).docs
      ∙ ap (λ n. length mid.docs + n) (versions_of_one set readings k (length mid.docs) staged reading)) in
      let rest : Added = documents_in set readings (k + 1) (length new.docs) (drop (k + 1) set) (drop (k + 1) readings) in
      let here : documents_in set readings k (length mid.docs) (drop k set) (drop k readings) ≡ both (one_in set readings k (length mid.docs) staged reading) rest =
      ap (λ others. documents_in set readings k (length mid.docs) others (drop k readings)) (drop_first set k staged one)
      ∙ (ap (documents_in set readings k (length mid.docs) (staged ∷ drop (k + 1) set)) (drop_first readings k reading other)
      ∙ (documents_join set readings k (length mid.docs) staged (drop (k + 1) set) reading (drop (k + 1) readings)
      ∙ ap (λ n. both (one_in set readings k (length mid.docs) staged reading) (documents_in set readings (k + 1) n (drop (k + 1) set) (drop (k + 1) readings))) (sym more))) in
      record {
        added = both s.added (one_in set readings k (length mid.docs) staged reading);
        grows = grows_both set readings s.grows grows;
        left = s.left ∙ (ap (both s.added) here ∙ sym (both_assoc s.added (one_in set readings k (length mid.docs) staged reading) rest));
        few = omega (arith, more, numbered_few reading, s.few);
      }

  -- all of them: the whole of the set
  pub documents_are_whole : {k : ℕ} {start whole : Whole} → DocumentsSoFar set readings k start whole → length set ≤ k → IsEmpty start →
      (before : List SetFault) → Keeps before start.laying.faults → IsWhole set readings before whole
  documents_are_whole {k = k} {start = start} {whole = whole} s le empty before keeps =
      let f : Definition → Laid = λ d. laid (meant_in set readings d) d.rule.body in
      let none : both s.added (documents_in set readings k (length whole.docs) (drop k set) (drop k readings)) ≡ s.added =
      ap (λ others. both s.added (documents_in set readings k (length whole.docs) others (drop k readings))) (drop_beyond set k le) ∙ both_none s.added in
      let all : s.added ≡ documents_in set readings 0 0 set readings = sym (s.left ∙ none) in
      let grows = subst (λ added. Grows set readings added start whole) all s.grows in
      let first : length start.laying.nodes.items ≡ 0 = ap length empty.nodes in
      record {
        nodes = grows.nodes ∙ (ap (λ nodes. nodes ++ one_by_one (length start.laying.nodes.items) (map f (definitions set readings))) empty.nodes
            ∙ ap (λ n. one_by_one n (map f (definitions set readings))) first);
        rules = grows.rules ∙ (ap (λ rules. rules ++ linked_rules (definitions set readings) (starts (length start.laying.nodes.items) (map f (definitions set readings)))) empty.rules
            ∙ ap (λ n. linked_rules (definitions set readings) (starts n (map f (definitions set readings)))) first);
        docs = grows.docs ∙ ap (λ docs. docs ++ version_docs readings 0 set readings) empty.docs;
        defined = grows.defined ∙ ap (λ defined. defined ++ map defined_of (definitions set readings)) empty.defined;
        faults = grows.faults before keeps;
      }

-- ---- the places of a list, one after another

-- the item of a loop over a list with its places
pub turned : {X : Type 0} (xs : List X) (k : ℕ) (item : ℕ × X) → (k < length (enumerate_from 0 xs)) × (item ≡ get_or (enumerate_from 0 xs) k item) →
    (k < length xs) × (item.0 ≡ k) × (slice_get xs k ≡ Some item.1)
turned xs k item turn =
    let lt : k < length xs = omega (arith, turn.0, length-enumerate_from 0 xs) in
    let is = turn.1 ∙ get_or-enumerate_from 0 xs k item lt in
    (lt, ap (λ p. p.0) is ∙ zero-add k, slice_get_read xs (length xs) k item.1 refl lt (ap (λ p. p.1) is))

some_at : {X : Type 0} (xs : List X) (k : ℕ) → k < length xs → (x : X) × (slice_get xs k ≡ Some x)
some_at [] k lt = absurd (omega (arith, lt))
some_at (x ∷ xs) zero lt = (x, refl)
some_at (x ∷ xs) (suc k) lt = some_at xs k (omega arith)

-- the document at the place of the next reading is laid
pub next_document : {set : List DocText} {readings : Readings} {k : ℕ} {start mid new : Whole} (place : ℕ) (reading : Option ReadDoc) →
    DocumentsSoFar set readings k start mid → (k < length set) × (place ≡ k) × (slice_get readings k ≡ Some reading) →
    ((staged : DocText) → slice_get readings place ≡ Some reading → slice_get set place ≡ Some staged →
    Grows set readings (one_in set readings place (length mid.docs) staged reading) mid new) →
    DocumentsSoFar set readings (k + 1) start new
next_document {set = set} {readings = readings} {k = k} {mid = mid} {new = new} place reading s at lays =
    let here = some_at set k at.0 in
    let grows = subst (λ (x : ℕ). (staged : DocText) → slice_get readings x ≡ Some reading → slice_get set x ≡ Some staged →
    Grows set readings (one_in set readings x (length mid.docs) staged reading) mid new) at.1 lays in
    one_document_so_far set readings s here.1 at.2 (grows here.0 at.2 here.1)
