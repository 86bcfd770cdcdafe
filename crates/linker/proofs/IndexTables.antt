-- The tables of documents, one after another, and the names in them.
use Rattle.std.proofs.Common.{◌≡◌, ℕ, suc, ◌+◌, ◌<◌, List, [], ◌∷◌, ◌++◌, Option, Some, None, length, map, take, refl, ap, subst, arith}
use Rattle.std.specs.Prelude.{slice_get}
use Rattle.std.proofs.lemmas.List.Sums.{sum_by-cons}
use Rattle.grammar_tree.specs.declared.document.ReadDoc.{ReadDoc}
use Rattle.linker.specs.declared.tables.Known.{Known}
use Rattle.linker.specs.Readings.{Readings}
use Rattle.linker.specs.Targets.{rule_count, rules_before}
use Rattle.linker.specs.code.Tables.{IsTable, HasTable, AreTables}
use Rattle.linker.specs.code.Indexes.{Index, names_in}

-- ---- tables, one after another

-- tables of these documents, before the first of which so many rules stand
abbrev pub TablesFrom : ℕ → Readings → List (Option Known) → Type 0
TablesFrom before [] [] = Unit {0}
TablesFrom before (reading ∷ docs) (table ∷ tables) = IsTable before reading table × TablesFrom (before + rule_count reading) docs tables
TablesFrom before _ _ = ⊥

record TableAt (before : ℕ) (docs : Readings) (tables : List (Option Known)) (y : ℕ) : Type 0 where
  reading : Option ReadDoc
  table : Option Known
  is_read : slice_get docs y ≡ Some reading
  is_there : slice_get tables y ≡ Some table
  is_table : IsTable (before + rules_before docs y) reading table

tables_from : (before : ℕ) (docs : Readings) (tables : List (Option Known)) → length tables ≡ length docs → ((y : ℕ) → y < length docs → TableAt before docs tables y) → TablesFrom before docs tables
tables_from before [] [] long each = tt
tables_from before [] (table ∷ tables) long each = absurd (omega arith)
tables_from before (reading ∷ docs) [] long each = absurd (omega arith)
tables_from before (reading ∷ docs) (table ∷ tables) long each =
    let first : TableAt before (reading ∷ docs) (table ∷ tables) 0 = each 0 (omega arith) in
    let one : Some reading ≡ Some first.reading = first.is_read in
    let other : Some table ≡ Some first.table = first.is_there in
    let same_reading : first.reading ≡ reading = cc in
    let same_table : first.table ≡ table = cc in
    let none : before + 0 ≡ before = omega arith in (
      subst (λ (n : ℕ). IsTable n reading table) none
          (subst (λ (t : Option Known). IsTable (before + 0) reading t) same_table (subst (λ (r : Option ReadDoc). IsTable (before + 0) r first.table) same_reading first.is_table)),
      tables_from (before + rule_count reading) docs tables (omega arith) (λ y lt. further y (each (suc y) (omega arith))),
    )
  where
    further : (y : ℕ) → TableAt before (reading ∷ docs) (table ∷ tables) (suc y) → TableAt (before + rule_count reading) docs tables y
    further y t =
        let all = sum_by-cons (λ (n : ℕ). n) (rule_count reading) (map rule_count (take y docs)) in
        let sum_is : before + rules_before (reading ∷ docs) (suc y) ≡ before + rule_count reading + rules_before docs y = omega (arith, all) in
        record { reading = t.reading; table = t.table; is_read = t.is_read; is_there = t.is_there; is_table = subst (λ (n : ℕ). IsTable n t.reading t.table) sum_is t.is_table }

table_at : (docs : Readings) (tables : List (Option Known)) (y : ℕ) → HasTable docs tables y → TableAt 0 docs tables y
table_at docs tables y h =
    let e : rules_before docs y ≡ 0 + rules_before docs y = omega arith in
    record { reading = h.reading; table = h.table; is_read = h.is_read; is_there = h.is_there; is_table = subst (λ (n : ℕ). IsTable n h.reading h.table) e h.is_table }

pub are_from : (docs : Readings) (tables : List (Option Known)) → AreTables docs tables → TablesFrom 0 docs tables
are_from docs tables are = tables_from 0 docs tables are.sized (λ y lt. table_at docs tables y (are.each y lt))

-- ---- the names in tables, as they are taken one by one

pub names_some : (tables : List (Option Known)) (known : Known) → names_in (tables ++ Some known ∷ []) ≡ names_in tables ++ known.names ∷ []
names_some [] known = refl
names_some (Some one ∷ tables) known = ap (λ (names : List Index). one.names ∷ names) (names_some tables known)
names_some (None ∷ tables) known = names_some tables known

pub names_none : (tables : List (Option Known)) → names_in (tables ++ None ∷ []) ≡ names_in tables
names_none [] = refl
names_none (Some one ∷ tables) = ap (λ (names : List Index). one.names ∷ names) (names_none tables)
names_none (None ∷ tables) = names_none tables
