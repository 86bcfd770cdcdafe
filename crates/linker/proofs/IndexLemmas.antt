-- In the index of its document each name finds the rule that has it in the version: the index has the number of a rule among all (`index_finds`),
-- and this is where the rule stands in the list of linked rules (`rules_position`).
use Rattle.std.proofs.Common.{◌≡◌, ℕ, zero, suc, ◌+◌, ◌<◌, ◌==◌, ◌&&◌, Bool, false, cond, List, [], ◌∷◌, ◌++◌, Option, Some, None, length, map, refl, sym, ap, subst, ◌∙◌, arith, nat_eq}
use Rattle.std.specs.Prelude.{slice_get, slice_index_or}
use Rattle.std.specs.List.{AllByRecursion, position}
use Rattle.std.specs.Option.{option_map, option_map_or}
use Rattle.std.specs.Cmp.Lexicographic.{pointwise}
use Rattle.std.proofs.lemmas.List.{length-map}
use Rattle.vg_base.specs.Pairs.{find}
use Rattle.vg_base.specs.declared.numbers.NodeIx.{NodeIx}
use Rattle.vg_base.specs.declared.numbers.VersionNo.{VersionNo}
use Rattle.grammar_tree.specs.declared.doc_set.DocText.{DocText}
use Rattle.grammar_tree.specs.declared.document.Doc.{Doc}
use Rattle.grammar_tree.specs.declared.document.Rule.{Rule}
use Rattle.grammar_tree.specs.declared.document.ReadDoc.TheVariants as read
use Rattle.grammar_tree.specs.declared.linked.LinkedRule.{LinkedRule}
use Rattle.linker.specs.declared.tables.NamedRule.{NamedRule}
use Rattle.linker.specs.declared.tables.Known.{Known}
use Rattle.linker.specs.Readings.{Readings}
use Rattle.linker.specs.Numbers.{Definition, definitions_from, definitions, starts, bodies, linked_rules}
use Rattle.linker.specs.Versions.{version_docs, built, rule_named}
use Rattle.linker.specs.code.Tables.{named_rule, IsKnown, AreTables}
use Rattle.linker.specs.code.Indexes.{Index, rule_with, AreIndexes, names_in}
use Rattle.linker.proofs.IndexPositions.{eq_same, eq_below, eq_above, maps_same, position-cons, position_skip, position_first, position_within}
use Rattle.linker.proofs.IndexTables.{TablesFrom, are_from}
use Rattle.linker.proofs.LinkedEach.{each_weaker, each_map}
use Rattle.linker.proofs.LinkedLemmas.{defined, StandsAt, definitions_stand_from}
use Rattle.linker.proofs.OrderLemmas.{length_starts, length_bodies}

-- ---- definitions by number and name

abbrev has_name : List ℕ → Rule → Bool
has_name name rule = pointwise nat_eq rule.name name

abbrev is_named : ℕ → List ℕ → Definition → Bool
is_named n name d = (d.doc.0 == n) && has_name name d.rule

abbrev public_at : List Definition → ℕ → Bool
public_at ds r = option_map_or (λ d. d.rule.public) (slice_get ds r) false

-- the definition at this place, before the first of which so many rules stand
abbrev named_at : ℕ → List Definition → ℕ → NamedRule
named_at before ds r = record { rule = record { 0 = before + r }; public = public_at ds r }

public_front : (f : Rule → Definition) → ((rule : Rule) → (f rule).rule ≡ rule) → (rules : List Rule) (ds : List Definition) (k : ℕ) → k < length rules
    → public_at (map f rules ++ ds) k ≡ option_map_or (λ rule. rule.public) (slice_get rules k) false
public_front f same [] ds k lt = absurd (omega arith)
public_front f same (rule ∷ rules) ds zero lt = ap (λ (r : Rule). r.public) (same rule)
public_front f same (rule ∷ rules) ds (suc k) lt = public_front f same rules ds k (omega arith)

public_behind : (f : Rule → Definition) (rules : List Rule) (ds : List Definition) (k : ℕ) → public_at (map f rules ++ ds) (length rules + k) ≡ public_at ds k
public_behind f [] ds k = let e : length {A = Rule} [] + k ≡ k = omega arith in ap (public_at ds) e
public_behind f (rule ∷ rules) ds k =
    let e : length (rule ∷ rules) + k ≡ suc (length rules + k) = omega arith in
    ap (public_at (map f (rule ∷ rules) ++ ds)) e ∙ public_behind f rules ds k

rules_position : (ds : List Definition) (ns : List NodeIx) (n : ℕ) (name : List ℕ) → length ns ≡ length ds → rule_named n name (linked_rules ds ns) ≡ position (is_named n name) ds
rules_position [] ns n name long = refl
rules_position (d ∷ ds) [] n name long = absurd (omega arith)
rules_position (d ∷ ds) (at ∷ ns) n name long =
    position-cons (λ (rule : LinkedRule). (rule.doc.0 == n) && pointwise nat_eq rule.name name) (record { doc = d.doc; name = d.rule.name; public = d.rule.public; body = at }) (linked_rules ds ns)
    ∙ ap (λ (o : Option ℕ). cond (is_named n name d) (Some 0) (option_map suc o)) (rules_position ds ns n name (omega arith))
    ∙ sym (position-cons (is_named n name) d ds)

rules_public : (ds : List Definition) (ns : List NodeIx) (r : ℕ) → length ns ≡ length ds → option_map_or (λ rule. rule.public) (slice_get (linked_rules ds ns) r) false ≡ public_at ds r
rules_public [] ns r long = refl
rules_public (d ∷ ds) [] r long = absurd (omega arith)
rules_public (d ∷ ds) (n ∷ ns) zero long = refl
rules_public (d ∷ ds) (n ∷ ns) (suc r) long = rules_public ds ns r (omega arith)

-- ---- by the index of a document

-- each name finds the rule that has it in the document of this number
abbrev Finds : ℕ → List Definition → ℕ → Index → Type 0
Finds before ds n index = (name : List ℕ) → find name index ≡ option_map (named_at before ds) (position (is_named n name) ds)

module _ (all : Readings) (x number : ℕ) (staged : DocText) (set : List DocText) (own : Doc) (docs : Readings) (before : ℕ) where
  abbrev mine : Rule → Definition
  mine = defined x number staged own

  abbrev rest : List Definition
  rest = definitions_from (x + 1) (number + 1) set docs

  finds_here : (known : Known) → IsKnown before own known → Finds before (map mine own.rules ++ rest) (number + 0) known.names
  finds_here known is name =
      let here : ℕ = number + 0 in
      let same : (rule : Rule) → is_named here name (mine rule) ≡ has_name name rule = λ rule. ap (λ b. b && has_name name rule) (eq_same number here (omega arith)) in
      let apart : AllByRecursion (λ d. is_named here name d ≡ false) rest =
      each_weaker (StandsAt all (x + 1) (number + 1) set docs) (λ d. is_named here name d ≡ false)
      (λ d s. ap (λ b. b && has_name name d.rule) (eq_above d.doc.0 here (omega (arith, s.is_number)))) rest (definitions_stand_from all (x + 1) (number + 1) set docs) in
      is.names name
      ∙ maps_same (named_rule before own.rules) (named_at before (map mine own.rules ++ rest)) (position (has_name name) own.rules)
      (λ k e. ap (λ (b : Bool). record { rule = record { 0 = before + k }; public = b }) (sym (public_front mine (λ rule. refl) own.rules rest k (position_within (has_name name) own.rules k e))))
      ∙ ap (λ (o : Option ℕ). option_map (named_at before (map mine own.rules ++ rest)) o) (sym (position_first mine (is_named here name) (has_name name) same own.rules rest apart))

  finds_behind : (i : ℕ) (index : Index) → Finds (before + length own.rules) rest (number + 1 + i) index → Finds before (map mine own.rules ++ rest) (number + suc i) index
  finds_behind i index finds name =
      let there : ℕ = number + suc i in
      let n : ℕ = length own.rules in
      let e : number + 1 + i ≡ there = omega arith in
      let apart : AllByRecursion (λ d. is_named there name d ≡ false) (map mine own.rules) =
      each_map (λ d. is_named there name d ≡ false) mine own.rules (all_apart own.rules there (omega arith)) in
      let skipped : position (is_named there name) (map mine own.rules ++ rest) ≡ option_map (λ k. length (map mine own.rules) + k) (position (is_named there name) rest) =
      position_skip (is_named there name) (map mine own.rules) rest apart in
      finds name ∙ ap (λ (m : ℕ). option_map (named_at (before + n) rest) (position (is_named m name) rest)) e
      ∙ moved (position (is_named there name) rest)
      ∙ ap (λ (m : ℕ). option_map (named_at before (map mine own.rules ++ rest)) (option_map (λ k. m + k) (position (is_named there name) rest))) (sym (length-map own.rules mine))
      ∙ ap (λ (o : Option ℕ). option_map (named_at before (map mine own.rules ++ rest)) o) (sym skipped)
    where
      all_apart : (rules : List Rule) (there : ℕ) → number < there → AllByRecursion (λ rule. is_named there name (mine rule) ≡ false) rules
      all_apart [] there lt = tt
      all_apart (rule ∷ rules) there lt = (ap (λ b. b && has_name name rule) (eq_below number there lt), all_apart rules there lt)

      moved : (o : Option ℕ) → option_map (named_at (before + length own.rules) rest) o ≡ option_map (named_at before (map mine own.rules ++ rest)) (option_map (λ k. length own.rules + k) o)
      moved None = refl
      moved (Some k) =
          let e : before + length own.rules + k ≡ before + (length own.rules + k) = omega arith in
          let public = public_behind mine own.rules rest k in
          λ i. Some (record { rule = record { 0 = e i }; public = sym public i })

-- what stands before the rest of a set: so many documents, of which so many were read, with so many rules
record Counts : Type 0 where
  documents : ℕ
  read : ℕ
  rules : ℕ

-- behind one more, which wasn't read, or was
abbrev past : Counts → Counts
past n = record { documents = n.documents + 1; read = n.read; rules = n.rules }

abbrev past_good : Counts → Doc → Counts
past_good n own = record { documents = n.documents + 1; read = n.read + 1; rules = n.rules + length own.rules }

skipped : (n : Counts) (docs : Readings) (tables : List (Option Known)) → TablesFrom (n.rules + 0) docs tables → TablesFrom n.rules docs tables
skipped n docs tables t = let e : n.rules + 0 ≡ n.rules = omega arith in subst (λ (m : ℕ). TablesFrom m docs tables) e t

module _ (all : Readings) where
  -- in the index of each of these documents that were read
  abbrev AllFind : Counts → List DocText → Readings → List (Option Known) → Type 0
  AllFind n set docs tables =
      (j : ℕ) → j < length (version_docs all n.documents set docs) → Finds n.rules (definitions_from n.documents n.read set docs) (n.read + j) (slice_index_or (names_in tables) j [])

  index_finds : (n : Counts) (set : List DocText) (docs : Readings) (tables : List (Option Known)) → TablesFrom n.rules docs tables → AllFind n set docs tables
  index_finds n [] docs tables t j lt = absurd (omega arith)
  index_finds n (staged ∷ set) [] tables t j lt = absurd (omega arith)
  index_finds n (staged ∷ set) (reading ∷ docs) [] t j lt = absurd t
  index_finds n (staged ∷ set) (None ∷ docs) (Some known ∷ tables) t j lt = absurd t.0
  index_finds n (staged ∷ set) (None ∷ docs) (None ∷ tables) t j lt = index_finds (past n) set docs tables (skipped n docs tables t.1) j lt
  index_finds n (staged ∷ set) (Some (read.Bad fault) ∷ docs) (Some known ∷ tables) t j lt = absurd t.0
  index_finds n (staged ∷ set) (Some (read.Bad fault) ∷ docs) (None ∷ tables) t j lt = index_finds (past n) set docs tables (skipped n docs tables t.1) j lt
  index_finds n (staged ∷ set) (Some (read.Good own) ∷ docs) (None ∷ tables) t j lt = absurd t.0
  index_finds n (staged ∷ set) (Some (read.Good own) ∷ docs) (Some known ∷ tables) t zero lt = finds_here all n.documents n.read staged set own docs n.rules known t.0
  index_finds n (staged ∷ set) (Some (read.Good own) ∷ docs) (Some known ∷ tables) t (suc i) lt =
      finds_behind all n.documents n.read staged set own docs n.rules i (slice_index_or (names_in tables) i []) (index_finds (past_good n own) set docs tables t.1 i (omega arith))

  index_count : (n : Counts) (set : List DocText) (docs : Readings) (tables : List (Option Known)) → length docs ≡ length set → TablesFrom n.rules docs tables
      → length (names_in tables) ≡ length (version_docs all n.documents set docs)
  index_count n [] [] [] long t = refl
  index_count n [] [] (table ∷ tables) long t = absurd t
  index_count n [] (reading ∷ docs) tables long t = absurd (omega arith)
  index_count n (staged ∷ set) [] tables long t = absurd (omega arith)
  index_count n (staged ∷ set) (reading ∷ docs) [] long t = absurd t
  index_count n (staged ∷ set) (None ∷ docs) (Some known ∷ tables) long t = absurd t.0
  index_count n (staged ∷ set) (None ∷ docs) (None ∷ tables) long t = index_count (past n) set docs tables (omega arith) (skipped n docs tables t.1)
  index_count n (staged ∷ set) (Some (read.Bad fault) ∷ docs) (Some known ∷ tables) long t = absurd t.0
  index_count n (staged ∷ set) (Some (read.Bad fault) ∷ docs) (None ∷ tables) long t = index_count (past n) set docs tables (omega arith) (skipped n docs tables t.1)
  index_count n (staged ∷ set) (Some (read.Good own) ∷ docs) (None ∷ tables) long t = absurd t.0
  index_count n (staged ∷ set) (Some (read.Good own) ∷ docs) (Some known ∷ tables) long t = ap suc (index_count (past_good n own) set docs tables (omega arith) t.1)

-- ---- of a version

-- the names in the tables of a set are the indexes of its version
pub are_indexes : (set : List DocText) (docs : Readings) (tables : List (Option Known)) (v : VersionNo) → length docs ≡ length set → AreTables docs tables → AreIndexes (built set docs v) (names_in tables)
are_indexes set docs tables v long are = record {
  sized = index_count docs start set docs tables long from;
  finds = λ d name lt.
      let n : 0 + d ≡ d = omega arith in
      index_finds docs start set docs tables from d lt name
      ∙ (λ i. option_map (by_number i) (position (is_named (n i) name) ds))
      ∙ ap (λ (o : Option ℕ). option_map (rule_with rules) o) (sym (rules_position ds ns d name same_length));
}
  where
    start : Counts
    start = record { documents = 0; read = 0; rules = 0 }

    from : TablesFrom 0 docs tables
    from = are_from docs tables are

    ds : List Definition
    ds = definitions set docs

    ns : List NodeIx
    ns = starts 0 (bodies set docs ds)

    rules : List LinkedRule
    rules = linked_rules ds ns

    same_length : length ns ≡ length ds
    same_length = length_starts 0 (bodies set docs ds) ∙ length_bodies set docs ds

    by_number : named_at 0 ds ≡ rule_with rules
    by_number = λ i r. record { rule = record { 0 = zero_more r i }; public = sym (rules_public ds ns r same_length) i }
      where
        zero_more : (r : ℕ) → 0 + r ≡ r
        zero_more r = omega arith
