-- What names find, and the tables of documents one after another.
--
-- A name finds the first rule that has it. One rule more changes that only where no rule before it has the name (`first_more`),
-- and so does one name more in the map.
use Rattle.std.proofs.Common.{◌≡◌, ⊎_elim, ℕ, zero, suc, ◌+◌, ◌<◌, ◌≤◌, Bool, true, false, cond, List, [], ◌∷◌, ◌++◌, length, get_or, take, map, Option, Some, None, refl, ap, sym, subst, ◌∙◌, arith, length-append}
use Rattle.std.specs.Prelude.{is_some, nat_eq, slice_get, sum}
use Rattle.std.specs.List.{position, position_from}
use Rattle.std.specs.Option.{option_map, option_map_or}
use Rattle.std.specs.Cmp.Lexicographic.{pointwise}
use Rattle.std.specs.declared.cmp.Ordering.TheVariants.{Equal}
use Rattle.std.proofs.lemmas.Bool.{false≢true, cases_lt}
use Rattle.std.proofs.lemmas.Option.{slice_get_read}
use Rattle.std.proofs.lemmas.List.{map-append, length-take-le}
use Rattle.std.proofs.lemmas.List.Sums.{sum_by-append}
use Rattle.std.proofs.lemmas.List.Quantifiers.{position-Some}
use Rattle.std.proofs.lemmas.Iterator.Adapters.{position_from-zero}
use Rattle.std.proofs.lemmas.Map.Text.{is_eq-slice_cmp}
use Rattle.std.proofs.lemmas.Slice.Eq.{bytes_eq-Decides}
use Rattle.std.specs.Ordering.{is_eq}
use Rattle.vg_base.specs.Pairs.{find, put}
use Rattle.grammar_tree.specs.declared.document.Rule.{Rule}
use Rattle.grammar_tree.specs.declared.document.ReadDoc.{ReadDoc}
use Rattle.rule_reader.proofs.Puts.{order, find-put, find-put_other}
use Rattle.rule_reader.proofs.Rests.{front_next}
use Rattle.linker.specs.declared.tables.NamedRule.{NamedRule}
use Rattle.linker.specs.declared.tables.Known.{Known}
use Rattle.linker.specs.Readings.{Readings}
use Rattle.linker.specs.Targets.{rules_before, rule_count}
use Rattle.linker.specs.code.Tables.{AreNamed, AreTables, AreFirstTables, HasTable, IsTable, named_rule}

-- ---- one item more in a list

pub get_left : {X : Type 0} (xs ys : List X) (k : ℕ) → k < length xs → slice_get (xs ++ ys) k ≡ slice_get xs k
get_left [] ys k lt = absurd (omega (arith, lt))
get_left (x ∷ xs) ys zero lt = refl
get_left (x ∷ xs) ys (suc k) lt = get_left xs ys k (omega arith)

get_last : {X : Type 0} (xs : List X) (y : X) → slice_get (xs ++ y ∷ []) (length xs) ≡ Some y
get_last [] y = refl
get_last (x ∷ xs) y = get_last xs y

abbrev or_else : {X : Type 0} → Option X → Option X → Option X
or_else (Some x) other = Some x
or_else None other = other

or_none : {X : Type 0} (o : Option X) → or_else o None ≡ o
or_none (Some x) = refl
or_none None = refl

or_some : {X : Type 0} (o other : Option X) → is_some o ≡ true → or_else o other ≡ o
or_some (Some x) other e = refl
or_some None other e = absurd (false≢true e)

from_more : {X : Type 0} (p : X → Bool) (n : ℕ) (xs : List X) (y : X) → position_from p n (xs ++ y ∷ []) ≡ or_else (position_from p n xs) (cond (p y) (Some (n + length xs)) None)
from_more p n [] y = let same : n ≡ n + 0 = omega arith in ap (λ k. cond (p y) (Some k) None) same
from_more {X} p n (x ∷ xs) y = by (p x) (from_more p (n + 1) xs y)
  where
    by : (b : Bool) → position_from p (n + 1) (xs ++ y ∷ []) ≡ or_else (position_from p (n + 1) xs) (cond (p y) (Some (n + 1 + length xs)) None)
        → cond b (Some n) (position_from p (n + 1) (xs ++ y ∷ [])) ≡ or_else (cond b (Some n) (position_from p (n + 1) xs)) (cond (p y) (Some (n + suc (length xs))) None)
    by true more = refl
    by false more = let same : n + 1 + length xs ≡ n + suc (length xs) = omega arith in more ∙ ap (λ k. or_else (position_from p (n + 1) xs) (cond (p y) (Some k) None)) same

position_more : {X : Type 0} (p : X → Bool) (xs : List X) (y : X) → position p (xs ++ y ∷ []) ≡ or_else (position p xs) (cond (p y) (Some (length xs)) None)
position_more p xs y =
    let same : 0 + length xs ≡ length xs = omega arith in
    position_from-zero p (xs ++ y ∷ []) ∙ from_more p 0 xs y ∙ ap (λ o. or_else o (cond (p y) (Some (0 + length xs)) None)) (sym (position_from-zero p xs))
    ∙ ap (λ n. or_else (position p xs) (cond (p y) (Some n) None)) same

pub none_of : {X : Type 0} (o : Option X) → is_some o ≡ false → o ≡ None
none_of (Some x) e = absurd (false≢true (sym e))
none_of None e = refl

-- ---- the first rule of a name

-- one rule more, behind these
abbrev fresh : ℕ → List Rule → Rule → NamedRule
fresh before rules rule = record { rule = record { 0 = before + length rules }; public = rule.public }

named_left : (before : ℕ) (rules : List Rule) (rule : Rule) (k : ℕ) → k < length rules → named_rule before (rules ++ rule ∷ []) k ≡ named_rule before rules k
named_left before rules rule k lt = ap (λ (o : Option Rule). record { rule = record { 0 = before + k }; public = option_map_or (λ rule. rule.public) o false }) (get_left rules (rule ∷ []) k lt)

named_last : (before : ℕ) (rules : List Rule) (rule : Rule) → named_rule before (rules ++ rule ∷ []) (length rules) ≡ fresh before rules rule
named_last before rules rule = ap (λ (o : Option Rule). record { rule = record { 0 = before + length rules }; public = option_map_or (λ rule. rule.public) o false }) (get_last rules rule)

named_more : (before : ℕ) (rules : List Rule) (rule : Rule) (o : Option ℕ) (b : Bool) → ((k : ℕ) → o ≡ Some k → k < length rules)
    → option_map (named_rule before (rules ++ rule ∷ [])) (or_else o (cond b (Some (length rules)) None)) ≡ or_else (option_map (named_rule before rules) o) (cond b (Some (fresh before rules rule)) None)
named_more before rules rule (Some k) b within = ap Some (named_left before rules rule k (within k refl))
named_more before rules rule None true within = ap Some (named_last before rules rule)
named_more before rules rule None false within = refl

abbrev bears : List ℕ → Rule → Bool
bears name rule = pointwise nat_eq rule.name name

first_more : (before : ℕ) (rules : List Rule) (rule : Rule) (name : List ℕ)
    → option_map (named_rule before (rules ++ rule ∷ [])) (position (bears name) (rules ++ rule ∷ []))
    ≡ or_else (option_map (named_rule before rules) (position (bears name) rules)) (cond (bears name rule) (Some (fresh before rules rule)) None)
first_more before rules rule name =
    ap (option_map (named_rule before (rules ++ rule ∷ []))) (position_more (bears name) rules rule)
    ∙ named_more before rules rule (position (bears name) rules) (bears name rule) (λ k e. (position-Some (bears name) rules k rule e).0)

same_name : (name other : List ℕ) → pointwise nat_eq name other ≡ true → name ≡ other
same_name name other e = (bytes_eq-Decides name other).0 e

apart : (name other : List ℕ) → pointwise nat_eq name other ≡ false → order other name ≡ Equal → ⊥
apart name other e same = false≢true (sym e ∙ (bytes_eq-Decides name other).1 (sym ((bytes_eq-Decides other name).0 (sym (is_eq-slice_cmp other name) ∙ ap is_eq same))))

pub names_none : (before : ℕ) → AreNamed before [] []
names_none before name = refl

-- a name that is new finds its rule
pub names_next : (before : ℕ) (rules : List Rule) (rule : Rule) (names : List (List ℕ × NamedRule)) → AreNamed before rules names → find rule.name names ≡ None
    → AreNamed before (rules ++ rule ∷ []) (put rule.name (fresh before rules rule) names)
names_next before rules rule names are new name =
    by (bears name rule) refl ∙ ap (λ o. or_else o (cond (bears name rule) (Some (fresh before rules rule)) None)) (are name) ∙ sym (first_more before rules rule name)
  where
    by : (b : Bool) → bears name rule ≡ b → find name (put rule.name (fresh before rules rule) names) ≡ or_else (find name names) (cond (bears name rule) (Some (fresh before rules rule)) None)
    by true e =
        let same : rule.name ≡ name = same_name rule.name name e in
        subst (λ n. find n (put rule.name (fresh before rules rule) names) ≡ or_else (find n names) (cond (bears n rule) (Some (fresh before rules rule)) None)) same
        (find-put rule.name (fresh before rules rule) names
        ∙ ap (λ b. or_else None (cond b (Some (fresh before rules rule)) None)) (sym ((bytes_eq-Decides rule.name rule.name).1 refl))
        ∙ ap (λ o. or_else o (cond (bears rule.name rule) (Some (fresh before rules rule)) None)) (sym new))
    by false e =
        find-put_other rule.name name (fresh before rules rule) names (apart rule.name name e) ∙ sym (or_none (find name names))
        ∙ ap (λ b. or_else (find name names) (cond b (Some (fresh before rules rule)) None)) (sym e)

-- a name that is known finds what it found
pub names_kept : (before : ℕ) (rules : List Rule) (rule : Rule) (names : List (List ℕ × NamedRule)) → AreNamed before rules names → is_some (find rule.name names) ≡ true
    → AreNamed before (rules ++ rule ∷ []) names
names_kept before rules rule names are known name =
    by (bears name rule) refl ∙ ap (λ o. or_else o (cond (bears name rule) (Some (fresh before rules rule)) None)) (are name) ∙ sym (first_more before rules rule name)
  where
    by : (b : Bool) → bears name rule ≡ b → find name names ≡ or_else (find name names) (cond (bears name rule) (Some (fresh before rules rule)) None)
    by true e = sym (or_some (find name names) (cond (bears name rule) (Some (fresh before rules rule)) None) (subst (λ n. is_some (find n names) ≡ true) (same_name rule.name name e) known))
    by false e = sym (or_none (find name names)) ∙ ap (λ b. or_else (find name names) (cond b (Some (fresh before rules rule)) None)) (sym e)

-- ---- one rule after another

length_front : (rules : List Rule) (i : ℕ) → i < length rules → length (take i rules) ≡ i
length_front rules i below = length-take-le i rules (omega arith)

-- the rules before this one are named
pub record IsNext (before : ℕ) (rules : List Rule) (names : List (List ℕ × NamedRule)) (i : ℕ) (rule : Rule) : Type 0 where
  pub are : AreNamed before (take i rules) names
  pub below : i < length rules
  pub is : rule ≡ get_or rules i rule

pub set_next : {before : ℕ} {rules : List Rule} {names : List (List ℕ × NamedRule)} {i : ℕ} {rule : Rule} (new : List (List ℕ × NamedRule)) → IsNext before rules names i rule → find rule.name names ≡ None
    → new ≡ put rule.name (record { rule = record { 0 = before + i }; public = rule.public }) names → AreNamed before (take (i + 1) rules) new
set_next {before} {rules} {names} {i} {rule} new next absent e =
    let size : before + length (take i rules) ≡ before + i = ap (λ n. before + n) (length_front rules i next.below) in
    let put_now : new ≡ put rule.name (fresh before (take i rules) rule) names = e ∙ ap (λ n. put rule.name (record { rule = record { 0 = n }; public = rule.public }) names) (sym size) in
    subst (λ rs. AreNamed before rs new) (sym (front_next rules i rule next.below next.is))
    (subst (λ ns. AreNamed before (take i rules ++ rule ∷ []) ns) (sym put_now) (names_next before (take i rules) rule names next.are absent))

pub kept_next : {before : ℕ} {rules : List Rule} {names : List (List ℕ × NamedRule)} {i : ℕ} {rule : Rule} (new : List (List ℕ × NamedRule)) → IsNext before rules names i rule → is_some (find rule.name names) ≡ true
    → new ≡ names → AreNamed before (take (i + 1) rules) new
kept_next {before} {rules} {names} {i} {rule} new next known e =
    subst (λ rs. AreNamed before rs new) (sym (front_next rules i rule next.below next.is))
    (subst (λ ns. AreNamed before (take i rules ++ rule ∷ []) ns) (sym e) (names_kept before (take i rules) rule names next.are known))

-- ---- tables, one after another

pub rules_next : (docs : Readings) (i : ℕ) (reading : Option ReadDoc) → i < length docs → reading ≡ get_or docs i reading → rules_before docs (i + 1) ≡ rules_before docs i + rule_count reading
rules_next docs i reading below e =
    let front = take i docs in
    let sums : sum (map rule_count (take (i + 1) docs)) ≡ sum (map rule_count front) + sum (rule_count reading ∷ []) =
    ap (λ all. sum (map rule_count all)) (front_next docs i reading below e) ∙ ap sum (map-append rule_count front (reading ∷ [])) ∙ sum_by-append (λ n. n) (map rule_count front) (rule_count reading ∷ []) in
    let one : sum (rule_count reading ∷ []) ≡ rule_count reading = omega arith in
    omega (arith, sums, one)

pub tables_none : (docs : Readings) → AreFirstTables docs 0 []
tables_none docs = record { sized = refl; each = λ y lt. absurd (omega (arith, lt)) }

pub tables_next : {docs : Readings} {i : ℕ} {tables : List (Option Known)} (reading : Option ReadDoc) (table : Option Known) → AreFirstTables docs i tables
    → (i < length docs) × (reading ≡ get_or docs i reading) × IsTable (rules_before docs i) reading table → AreFirstTables docs (i + 1) (tables ++ table ∷ [])
tables_next {docs} {i} {tables} reading table are one = record {
  sized = omega (arith, length-append tables (table ∷ []), are.sized);
  each = λ y lt. ⊎_elim (λ below. earlier y below) (λ past. last y lt past) (cases_lt y i);
}
  where
    earlier : (y : ℕ) → y < i → HasTable docs (tables ++ table ∷ []) y
    earlier y below =
        let has = are.each y below in
        record { reading = has.reading; table = has.table; is_read = has.is_read; is_there = get_left tables (table ∷ []) y (omega (arith, are.sized)) ∙ has.is_there; is_table = has.is_table }

    here : HasTable docs (tables ++ table ∷ []) i
    here = record {
      reading = reading;
      table = table;
      is_read = slice_get_read docs (length docs) i reading refl one.0 one.1;
      is_there = ap (slice_get (tables ++ table ∷ [])) (sym are.sized) ∙ get_last tables table;
      is_table = one.2;
    }

    last : (y : ℕ) → y < i + 1 → i ≤ y → HasTable docs (tables ++ table ∷ []) y
    last y lt past = let same : i ≡ y = omega arith in subst (HasTable docs (tables ++ table ∷ [])) same here

pub tables_all : (docs : Readings) (tables : List (Option Known)) → AreFirstTables docs (length docs) tables → AreTables docs tables
tables_all docs tables are = record { sized = are.sized; each = are.each }
