-- The answer to a publish: what was told of it are its faults, early ones (`faulty_early`) or late ones (`faulty_late`), and without them it is sound (`sound`).
use Rattle.std.proofs.Common.{◌≡◌, ◌≢◌, inl, inr, ℕ, ◌<◌, List, [], ◌∷◌, Option, length, refl, sym, ap, subst, ◌∙◌, arith}
use Rattle.std.specs.List.{All}
use Rattle.std.proofs.lemmas.Option.{slice_get_within}
use Rattle.std.proofs.lemmas.List.{length-map}
use Rattle.std.proofs.lemmas.List.Elements.{All-from_recursion, All-map}
use Rattle.vg_base.specs.declared.numbers.VersionNo.{VersionNo}
use Rattle.grammar_tree.specs.declared.doc_set.DocText.{DocText}
use Rattle.grammar_tree.specs.declared.document.Doc.{Doc}
use Rattle.grammar_tree.specs.Links.{Rules}
use Rattle.rule_reader.specs.Imports.{IsResolvable}
use Rattle.rule_reader.specs.Reading.{Reads}
use Rattle.linker.specs.declared.defined.Defined.{Defined}
use Rattle.linker.specs.declared.documents.Whole.{Whole}
use Rattle.linker.specs.declared.faults.Faults.{Faults}
use Rattle.linker.specs.declared.set_fault.SetFault.{SetFault}
use Rattle.linker.specs.declared.tables.Known.{Known}
use Rattle.linker.specs.Readings.{Readings, HaveReadings, staged}
use Rattle.linker.specs.Numbers.{Definition, definitions, numbers}
use Rattle.linker.specs.SetFaults.{early_faults, LateFaults}
use Rattle.linker.specs.Versions.{Linkage, built, IsVersion}
use Rattle.linker.specs.Linking.{IsFaulty, IsSound}
use Rattle.linker.specs.code.Indexes.{Index, AreIndexes, names_in}
use Rattle.linker.specs.code.Late.{StandsIn, AreDefined, TellsLate}
use Rattle.linker.specs.code.Publications.{HaveNumbers, IsLaid}
use Rattle.linker.specs.code.Tellings.{Keeps}
use Rattle.linker.specs.code.Wholes.{defined_of, AreResolvable}
use Rattle.linker.proofs.IndexLemmas.{are_indexes}
use Rattle.linker.proofs.LinkedEach.{each_weaker}
use Rattle.linker.proofs.LinkedLemmas.{IsDefined, definitions_stand}
use Rattle.linker.proofs.LinkedVersion.{rules_count, is_version}
use Rattle.linker.proofs.ScriptLemmas.{read_as}

-- what was read can be resolved
pub resolvable : (set : List DocText) (entries : List (List ℕ)) (docs : Readings) → HaveReadings set (staged set entries) docs → ((text : List ℕ) (doc : Doc) → Reads text doc → IsResolvable doc) → AreResolvable docs
resolvable set entries docs have law x doc is = let reads = read_as set (staged set entries) docs have x doc is in law reads.0 doc reads.1

-- ---- faults that are kept

kept_none : (all : List SetFault) (kept : Faults) → Keeps all kept → kept.count ≡ 0 → all ≡ []
kept_none [] kept keeps none = refl
kept_none (fault ∷ all) kept keeps none = absurd (omega (arith, keeps.count))

kept_some : (all : List SetFault) (kept : Faults) → Keeps all kept → 0 < kept.count → all ≢ []
kept_some all kept keeps some none = let e : length all ≡ length {A = SetFault} [] = ap length none in absurd (omega (arith, keeps.count))

-- the late faults of the set are told, and there are no others
pub record LateTold (set : List DocText) (entries : List (List ℕ)) (docs : Readings) (kept : Faults) : Type 0 where
  pub late : List SetFault
  pub are_late : LateFaults (numbers set docs) 0 0 (definitions set docs) late
  pub keeps : Keeps late kept
  pub none_early : early_faults set docs entries ≡ []

-- ---- definitions

stands_in : (set : List DocText) (docs : Readings) (d : Definition) → IsDefined set docs d → StandsIn set d
stands_in set docs d h = record { doc = h.staged; there = h.is_staged; key = h.has_key }

within : (set : List DocText) (docs : Readings) (d : Definition) → IsDefined set docs d → d.x < length set
within set docs d h = slice_get_within set d.x h.staged h.is_staged

module _ (set : List DocText) (entries : List (List ℕ)) (docs : Readings) (tables : List (Option Known)) (whole : Whole) (laid : IsLaid set entries docs tables whole) where
  pub have_numbers : HaveNumbers whole.laying.nodes.items whole.rules
  have_numbers = (set, docs, record { sized = laid.readings.sized; nodes_are = laid.is_whole.nodes; rules_are = laid.is_whole.rules })

  are_defined : AreDefined set (definitions set docs) whole.defined.items
  are_defined = record {
    kept = laid.is_whole.defined;
    stand = All-from_recursion (StandsIn set) (definitions set docs)
        (each_weaker (IsDefined set docs) (StandsIn set) (stands_in set docs) (definitions set docs) (definitions_stand set docs));
  }

  -- each definition is in a document of the set
  pub places : All (λ (rule : Defined). rule.doc.0 < length set) whole.defined.items
  places =
      subst (All (λ (rule : Defined). rule.doc.0 < length set)) (sym laid.is_whole.defined)
      (All-map (λ (rule : Defined). rule.doc.0 < length set) defined_of (definitions set docs)
      (All-from_recursion (λ (d : Definition). d.x < length set) (definitions set docs)
      (each_weaker (IsDefined set docs) (λ (d : Definition). d.x < length set) (within set docs) (definitions set docs) (definitions_stand set docs))))

  -- there are as many definitions as rules
  pub sized_defined : length whole.defined.items ≡ length whole.rules
  sized_defined = ap length laid.is_whole.defined ∙ length-map (definitions set docs) defined_of ∙ sym (rules_count set docs) ∙ sym (ap length laid.is_whole.rules)

  -- ---- early faults

  pub faulty_early : 0 < whole.laying.faults.count → IsFaulty set entries whole.laying.faults.first whole.laying.faults.count
  faulty_early some =
      let early : ◌≢◌ (early_faults set docs entries) [] = kept_some (early_faults set docs entries) whole.laying.faults laid.is_whole.faults some in
      record {
        all = early_faults set docs entries;
        are_faults = (docs, laid.readings, inl (early, refl));
        some = early;
        told = laid.is_whole.faults.first;
        counted = laid.is_whole.faults.count;
      }

  -- ---- the linked rules, and what is told of them

  module _ (L : Rules) (is : L ≡ record { nodes = whole.laying.nodes.items; rules = whole.rules }) where
    same_rules : L ≡ numbers set docs
    same_rules = is ∙ (λ i. record { nodes = laid.is_whole.nodes i; rules = laid.is_whole.rules i })

    -- by what telling the late faults of these definitions says
    pub told_late : (kept : Faults) (defined : List Defined) → defined ≡ whole.defined.items → whole.laying.faults.count ≡ 0
        → ((ds : List Definition) → AreDefined set ds defined → TellsLate L ds whole.laying.faults kept) → LateTold set entries docs kept
    told_late kept defined same none tells =
        let early : early_faults set docs entries ≡ [] = kept_none (early_faults set docs entries) whole.laying.faults laid.is_whole.faults none in
        let told = tells (definitions set docs) (subst (λ (all : List Defined). AreDefined set (definitions set docs) all) (sym same) are_defined) in
        record {
          late = told.0;
          are_late = subst (λ (M : Rules). LateFaults M 0 0 (definitions set docs) told.0) same_rules told.1;
          keeps = told.2 [] (subst (λ (all : List SetFault). Keeps all whole.laying.faults) early laid.is_whole.faults);
          none_early = early;
        }

    -- the version
    abbrev made : VersionNo → Linkage
    made v = record { number = v; docs = whole.docs; linked = L }

    is_built : (v : VersionNo) → made v ≡ built set docs v
    is_built v = λ i. record { number = v; docs = laid.is_whole.docs i; linked = same_rules i }

    -- the names in the tables are its indexes
    pub indexed : (v : VersionNo) (indexes : List Index) → indexes ≡ names_in tables → AreIndexes (made v) indexes
    indexed v indexes names =
        subst (λ (all : List Index). AreIndexes (made v) all) (sym names)
        (subst (λ (one : Linkage). AreIndexes one (names_in tables)) (sym (is_built v)) (are_indexes set docs tables v laid.readings.sized laid.are_tables))

    -- ---- without faults

    module _ (kept : Faults) (told : LateTold set entries docs kept) (none : kept.count ≡ 0) where
      none_late : LateFaults (numbers set docs) 0 0 (definitions set docs) []
      none_late = subst (LateFaults (numbers set docs) 0 0 (definitions set docs)) (kept_none told.late kept told.keeps none) told.are_late

      pub version : (v : VersionNo) → IsVersion (made v)
      version v = subst IsVersion (sym (is_built v)) (is_version set (staged set entries) docs v laid.readings none_late)

      pub sound : (v : VersionNo) → IsSound set entries v (made v)
      sound v = record {
        faultless = (docs, laid.readings, inr (told.none_early, none_late));
        is_built = (docs, laid.readings, is_built v);
        numbered = refl;
      }

  -- ---- late faults

  pub faulty_late : (kept : Faults) → LateTold set entries docs kept → 0 < kept.count → IsFaulty set entries kept.first kept.count
  faulty_late kept told some = record {
    all = told.late;
    are_faults = (docs, laid.readings, inr (told.none_early, told.are_late));
    some = kept_some told.late kept told.keeps some;
    told = told.keeps.first;
    counted = told.keeps.count;
  }
