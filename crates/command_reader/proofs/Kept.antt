-- What holds of every command of the table: the bounds of its area, its session's name, its entries and its parses, and that its texts are texts.
use Rattle.std.proofs.Common.{◌≡◌, ℕ, ◌≤◌, List, [], ◌∷◌, length, Bool, true, false, if◌then◌else◌, Option, Some, None, option_map, option_and_then, option_to_list, codes, Result, Ok, Err, IfOk, IfSome, Ordering, Less, Equal, Greater, refl, sym, ap, subst, ◌∙◌, arith}
use Rattle.std.proofs.lemmas.Bool.{and_parts, and_from, false≢true}
use Rattle.std.proofs.lemmas.List.Folds.{list_all-append}
use Rattle.std.proofs.lemmas.Map.Text.{is_eq-slice_cmp}
use Rattle.std.proofs.lemmas.Slice.Eq.{bytes_eq-Decides}
use Rattle.std.proofs.lemmas.Str.{scalars-chars}
use Rattle.std.specs.Cmp.Lexicographic.{slice_cmp}
use Rattle.std.specs.List.{list_all, list_any}
use Rattle.std.specs.Ordering.{nat_cmp, match_ordering, is_eq}
use Rattle.std.specs.Str.{all_scalars, bytes_eq}
use Rattle.serde_json.specs.Data.{Data, null, boolean, number, string, array, object, Items, no_items, item, Members, no_members, member}
use Rattle.serde_json.specs.Find.{get, get_member, as_str}
use Rattle.vg_base.specs.Limits as limits
use Rattle.vg_base.specs.Refusals.{Gives}
use Rattle.vg_base.specs.declared.numbers.Area.{Area}
use Rattle.vg_base.specs.declared.refused.Refused.{Refused}
use Rattle.command_reader.specs.Answer.{or_not_command}
use Rattle.command_reader.specs.Facts.{IsName, entries_of, session_of, best_of, texts_in, texts_in_line, IsCalled}
use Rattle.command_reader.specs.Members.{named_within, has_only, text_of, texts_of, list_of, few_entries, session_name, within, number_of, optional, text_at, session_at, entries_at, rule_at, best_at, area_number, area_of, one_of, line_at}
use Rattle.command_reader.specs.Table.{both, asked_at, put_row, drop_row, publish_row, name_row, rule_row, activate_row, deactivate_row, match_row, try_row, run_row, row_of, called_of, command_of}
use Rattle.command_reader.specs.declared.command.Called.{Called}
use Rattle.command_reader.specs.declared.command.Command.{Command}
use Rattle.command_reader.specs.declared.command.Command.TheVariants as command
use Rattle.command_reader.specs.declared.refused.LineFault.{LineFault}
use Rattle.command_reader.proofs.Values.{IsText, AreTexts}
use Rattle.command_reader.proofs.Utf8.{HasTexts, ItemsHaveTexts, MembersHaveTexts}

abbrev IsFew : List (List ℕ) → Type 0
IsFew entries = length entries ≤ limits.entries

abbrev IsBetween : ℕ → ℕ → ℕ → Type 0
IsBetween low high n = (low ≤ n) × (n ≤ high)

-- what the command has is within its bounds
record IsKept (d : Data) (c : Command) : Type 0 where
  session : IfSome (session_of c) IsName
  entries : IfSome (entries_of c) IsFew
  best : IfSome (best_of c) (IsBetween 1 limits.parses)
  run : c ≡ command.Run → get (codes "area") d ≡ None
  scalars : AreTexts (texts_in c)

name_kept : (name : List ℕ) → IfSome (session_name name) IsName
name_kept name = grind arith

few_kept : (entries : List (List ℕ)) → IfSome (few_entries entries) IsFew
few_kept entries = grind arith

between_kept : (low high n : ℕ) → IfSome (within low high n) (IsBetween low high)
between_kept low high n = grind arith

-- ---- what comes after something that is known

module _ {A T : Type 0} (P : T → Type 0) where
  pub then_kept : (f : A → Option T) (o : Option A) → ((x : A) → IfSome (f x) P) → IfSome (option_and_then f o) P
  then_kept f None h = tt
  then_kept f (Some x) h = h x

  pub then_known : (Q : A → Type 0) (f : A → Option T) (o : Option A) → IfSome o Q → ((x : A) → Q x → IfSome (f x) P) → IfSome (option_and_then f o) P
  then_known Q f None h k = tt
  then_known Q f (Some x) h k = k x h

  pub map_kept : (Q : A → Type 0) (f : A → T) (o : Option A) → IfSome o Q → ((x : A) → Q x → P (f x)) → IfSome (option_map f o) P
  map_kept Q f None h k = tt
  map_kept Q f (Some x) h k = k x h

-- ---- numbers

number_kept : (low high : ℕ) (d : Data) → IfSome (number_of low high d) (IsBetween low high)
number_kept low high d = search (then_kept, between_kept)

entries_few : (d : Data) → IfSome (entries_at d) IsFew
entries_few d = search (then_kept, few_kept)

best_of_member : (o : Option Data) → IfSome (optional (number_of 1 limits.parses) o) (λ best. IfSome best (IsBetween 1 limits.parses))
best_of_member None = tt
best_of_member (Some d) = map_kept _ (IsBetween 1 limits.parses) Some (number_of 1 limits.parses d) (number_kept 1 limits.parses d) (λ n h. h)

best_kept : (d : Data) → IfSome (best_at d) (λ best. IfSome best (IsBetween 1 limits.parses))
best_kept d = best_of_member (get (codes "best") d)

area_of_member : (o : Option Data) → IfSome (area_number o) (IsBetween 0 limits.last_area)
area_of_member None = omega arith
area_of_member (Some d) = number_kept 0 limits.last_area d

-- ---- texts

at_either : (o : Ordering) (e : Data) (found : Option Data) → HasTexts e → IfSome found HasTexts → IfSome (match_ordering o found (Some e) found) HasTexts
at_either Less e found h k = k
at_either Equal e found h k = h
at_either Greater e found h k = k

member_has_texts : (name : List ℕ) (ms : Members) → MembersHaveTexts ms → IfSome (get_member name ms) HasTexts
member_has_texts name no_members h = tt
member_has_texts name (member k e ms) h = at_either (slice_cmp nat_cmp name k) e _ h.0 (member_has_texts name ms h.1)

get_has_texts : (name : List ℕ) (d : Data) → HasTexts d → IfSome (get name d) HasTexts
get_has_texts name null h = tt
get_has_texts name (boolean b) h = tt
get_has_texts name (number n) h = tt
get_has_texts name (string s) h = tt
get_has_texts name (array ds) h = tt
get_has_texts name (object ms) h = member_has_texts name ms h

text_of_kept : (d : Data) → HasTexts d → IfSome (text_of d) IsText
text_of_kept null h = tt
text_of_kept (boolean b) h = tt
text_of_kept (number n) h = tt
text_of_kept (string s) h = scalars-chars s h
text_of_kept (array ds) h = tt
text_of_kept (object ms) h = tt

texts_of_kept : (ds : Items) → ItemsHaveTexts ds → IfSome (texts_of ds) AreTexts
texts_of_kept no_items h = refl
texts_of_kept (item d ds) h = then_known AreTexts IsText _ (text_of d) (text_of_kept d h.0)
    (λ t is. map_kept AreTexts AreTexts (λ ts. t ∷ ts) (texts_of ds) (texts_of_kept ds h.1) (λ ts are. and_from (all_scalars t) (list_all all_scalars ts) is are))

list_of_kept : (d : Data) → HasTexts d → IfSome (list_of d) AreTexts
list_of_kept null h = tt
list_of_kept (boolean b) h = tt
list_of_kept (number n) h = tt
list_of_kept (string s) h = tt
list_of_kept (array ds) h = texts_of_kept ds h
list_of_kept (object ms) h = tt

text_kept : (name : List ℕ) (d : Data) → HasTexts d → IfSome (text_at name d) IsText
text_kept name d h = then_known IsText HasTexts text_of (get name d) (get_has_texts name d h) text_of_kept

named : (name : List ℕ) → IsText name → IfSome (session_name name) (λ n. IsName n × IsText n)
named name t = grind arith

session_kept : (d : Data) → HasTexts d → IfSome (session_at d) (λ n. IsName n × IsText n)
session_kept d h = then_known _ IsText session_name (text_at (codes "session") d) (text_kept (codes "session") d h) named

few_texts : (entries : List (List ℕ)) → AreTexts entries → IfSome (few_entries entries) (λ es. IsFew es × AreTexts es)
few_texts entries t = grind arith

entries_kept : (d : Data) → HasTexts d → IfSome (entries_at d) (λ es. IsFew es × AreTexts es)
entries_kept d h = then_known _ AreTexts few_entries _ (then_known AreTexts HasTexts list_of (get (codes "entries") d) (get_has_texts (codes "entries") d h) list_of_kept) few_texts

rule_of_member : (o : Option Data) → IfSome o HasTexts → IfSome (optional text_of o) (λ rule. AreTexts (option_to_list rule))
rule_of_member None h = refl
rule_of_member (Some d) h = map_kept _ IsText Some (text_of d) (text_of_kept d h) (λ t is. and_from (all_scalars t) true is refl)

rule_kept : (d : Data) → HasTexts d → IfSome (rule_at d) (λ rule. AreTexts (option_to_list rule))
rule_kept d h = rule_of_member (get (codes "rule") d) (get_has_texts (codes "rule") d h)

line_of_members : (tokens keys : Option Data) → IfSome tokens HasTexts → IfSome keys HasTexts → IfSome (one_of tokens keys) (λ line. AreTexts (texts_in_line line))
line_of_members (Some tokens) None h k = map_kept _ AreTexts _ (list_of tokens) (list_of_kept tokens h) (λ ts are. are)
line_of_members None (Some keys) h k = map_kept _ IsText _ (text_of keys) (text_of_kept keys k) (λ t is. and_from (all_scalars t) true is refl)
line_of_members None None h k = tt
line_of_members (Some tokens) (Some keys) h k = tt

line_kept : (d : Data) → HasTexts d → IfSome (line_at d) (λ line. AreTexts (texts_in_line line))
line_kept d h = line_of_members _ _ (get_has_texts (codes "tokens") d h) (get_has_texts (codes "keys") d h)

-- ---- a run is for no area

at_equal : (o : Ordering) (e : Data) → (o ≡ Equal → ⊥) → match_ordering o None (Some e) None ≡ None
at_equal Less e h = refl
at_equal Equal e h = absurd (h refl)
at_equal Greater e h = refl

same_name : (name other : List ℕ) → slice_cmp nat_cmp name other ≡ Equal → name ≡ other
same_name name other e = (bytes_eq-Decides name other).0 (sym (is_eq-slice_cmp name other) ∙ ap is_eq e)

absent : (names : List (List ℕ)) (name : List ℕ) (ms : Members) → list_any (bytes_eq name) names ≡ false → named_within names ms ≡ true → get_member name ms ≡ None
absent names name no_members out h = refl
absent names name (member k e ms) out h =
    let p = and_parts (list_any (bytes_eq k) names) (named_within names ms) h in
    ap (λ found. match_ordering (slice_cmp nat_cmp name k) found (Some e) found) (absent names name ms out p.1)
    ∙ at_equal (slice_cmp nat_cmp name k) e (λ same. false≢true (sym out ∙ (ap (λ n. list_any (bytes_eq n) names) (same_name name k same) ∙ p.0)))

no_area : (d : Data) → has_only (codes "do" ∷ []) d ≡ true → get (codes "area") d ≡ None
no_area null h = cc
no_area (boolean b) h = cc
no_area (number n) h = cc
no_area (string s) h = cc
no_area (array ds) h = cc
no_area (object ms) h = absent (codes "do" ∷ []) (codes "area") ms refl h

-- ---- the rows

module _ (d : Data) (h : HasTexts d) where
  put_kept : IfSome (put_row d) (IsKept d)
  put_kept = let u = text_kept (codes "uri") d h in let t = text_kept (codes "text") d h in grind arith

  drop_kept : IfSome (drop_row d) (IsKept d)
  drop_kept = let u = text_kept (codes "uri") d h in grind arith

  publish_kept : IfSome (publish_row d) (IsKept d)
  publish_kept = let few = entries_kept d h in grind arith

  name_row_kept : IfSome (name_row d) (λ n. IsName n × IsText n)
  name_row_kept = let name = session_kept d h in grind arith

  open_kept : IfSome (option_map command.Open (name_row d)) (IsKept d)
  open_kept = let name = name_row_kept in grind arith

  close_kept : IfSome (option_map command.Close (name_row d)) (IsKept d)
  close_kept = let name = name_row_kept in grind arith

  rule_row_kept : IfSome (rule_row d) (λ r. IsName r.0 × IsText r.0 × IsText r.1 × AreTexts (option_to_list r.2))
  rule_row_kept = let name = session_kept d h in let u = text_kept (codes "uri") d h in let r = rule_kept d h in grind arith

  activate_kept : IfSome (activate_row d) (IsKept d)
  activate_kept = let rule = rule_row_kept in grind arith

  deactivate_kept : IfSome (deactivate_row d) (IsKept d)
  deactivate_kept = let rule = rule_row_kept in grind arith

  asked_kept : IfSome (asked_at d) (λ asked. AreTexts (texts_in_line asked.0) × IfSome asked.1 (IsBetween 1 limits.parses))
  asked_kept = let line = line_kept d h in let best = best_kept d in grind arith

  match_kept : IfSome (match_row d) (IsKept d)
  match_kept = let name = session_kept d h in let asked = asked_kept in grind arith

  try_kept : IfSome (try_row d) (IsKept d)
  try_kept = let u = text_kept (codes "uri") d h in let rule = rule_kept d h in let asked = asked_kept in grind (arith, list_all-append)

  run_kept : IfSome (run_row d) (IsKept d)
  run_kept = let alone = no_area d in grind arith

either : {T : Type 0} (P : T → Type 0) (b : Bool) (this that : Option T) → IfSome this P → IfSome that P → IfSome (if b then this else that) P
either P true this that h k = h
either P false this that h k = k

row_kept : (verb : List ℕ) (d : Data) → HasTexts d → IfSome (row_of verb d) (IsKept d)
row_kept verb d h = search (either, put_kept, drop_kept, publish_kept, open_kept, close_kept, activate_kept, deactivate_kept, match_kept, try_kept, run_kept) depth 24

-- ---- the command

abbrev IsArea : Area → Type 0
IsArea area = IsBetween 0 limits.last_area area.0

-- a command of the table with an area of the table
paired : (d : Data) (row : Option Command) (at : Option Data) → get (codes "area") d ≡ at → IfSome row (IsKept d)
    → IfSome (both (λ c area. record { area = area; command = c }) row (option_map area_of (area_number at))) IsCalled
paired d None at e h = tt
paired d (Some c) None e h = record { area = omega arith; run = λ _. refl; session = h.session; entries = h.entries; best = h.best; scalars = h.scalars }
paired d (Some c) (Some m) e h =
    map_kept IsCalled IsArea (λ area. record { area = area; command = c }) (option_map area_of (number_of 0 limits.last_area m))
    (map_kept IsArea (IsBetween 0 limits.last_area) area_of (number_of 0 limits.last_area m) (number_kept 0 limits.last_area m) (λ n within. within))
    (λ area within. record { area = within.1; run = λ is. absurd (let none = h.run is in cc); session = h.session; entries = h.entries; best = h.best; scalars = h.scalars })

called_kept : (d : Data) → HasTexts d → IfSome (command_of d) IsCalled
called_kept d h = then_kept IsCalled (called_of d) (option_and_then as_str (get (codes "do") d)) (λ verb. paired d (row_of verb d) (get (codes "area") d) refl (row_kept verb d h))

-- what a call gives by the table is so
pub gives_called : (r : Result Called (Refused LineFault)) (d : Data) → HasTexts d → Gives r (or_not_command (command_of d)) → IfOk r IsCalled
gives_called (Err refused) d h e = tt
gives_called (Ok called) d h e = known (command_of d) (called_kept d h) e
  where
    known : (o : Option Called) → IfSome o IsCalled → or_not_command o ≡ Ok called → IsCalled called
    known None k e = absurd (cc)
    known (Some c) k e = let same : c ≡ called = cc in subst IsCalled same k
