-- A header without a fault has the form of a header, and what has the form has no fault.
use Rattle.std.proofs.Common.{◌≡◌, ◌≢◌, ℕ, Bool, true, false, not, cond, ◌&&◌, ◌||◌, ◌==◌, inl, inr, List, [], ◌∷◌, ◌++◌, length, take, drop, codes, nat_eq, refl, sym, ap, ◌∙◌, append_assoc}
use Rattle.std.specs.List.{prefix_len, take_while, starts_with, list_all}
use Rattle.std.proofs.lemmas.Bool.{and_parts, eqb-true, or_right, both_ways}
use Rattle.std.proofs.lemmas.Bool.Decides.{Decides-eqb}
use Rattle.std.proofs.lemmas.List.{take_at, drop_at, append-nil, take-append-drop}
use Rattle.std.proofs.lemmas.Slice.Eq.{slice_eq-Decides}
use Rattle.vg_base.specs.declared.doc_fault.DocFault.{DocFault}
use Rattle.vg_base.specs.declared.doc_fault.DocKind.{DocKind}
use Rattle.vg_base.specs.declared.doc_fault.DocKind.TheVariants.{NoHeader, Version, Encoding, Unexpected}
use Rattle.vg_base.specs.Places.{Walked}
use Rattle.vg_base.proofs.Ascii.{passes}
use Rattle.abnf_lexer.specs.Classes.{is_empty, is_one_of, is_blank, is_field}
use Rattle.abnf_lexer.specs.Faults.{told}
use Rattle.abnf_lexer.specs.Header.{is_mark, is_semicolon, past, past_run, past_field, at_header, at_version, at_encoding, at_end, behind_header, field, begins_header, is_version, is_utf_8, is_encoding, version_faults, encoding_faults, end_faults, header_faults, IsEncoding, HasHeader, IsMarkOrNone}
use Rattle.vg_base.specs.Runs.{begins, IsRun}
use Rattle.vg_base.proofs.LongestRuns.{Run, run_of, run_len}
use Rattle.vg_base.proofs.Closings.{begins_so}

-- ---- no fault, so the form

not_told : (b : Bool) (front : List ℕ) (kind : DocKind) → told (not b) front kind ≡ [] → b ≡ true
not_told true front kind e = refl
not_told false front kind e = cc

no_parts : {A : Type 0} (xs ys : List A) → xs ++ ys ≡ [] → (xs ≡ []) × (ys ≡ [])
no_parts [] ys e = (refl, e)
no_parts (x ∷ xs) ys e = cc

begun : (b : Bool) (fs : List DocFault) → cond b fs (told true [] NoHeader) ≡ [] → (b ≡ true) × (fs ≡ [])
begun true fs e = (refl, e)
begun false fs e = cc

-- what is left behind a run
left_of : (p : ℕ → Bool) (text : List ℕ) (r : Run p text (prefix_len p text)) → drop (prefix_len p text) text ≡ r.rest
left_of p text r = ap (drop (prefix_len p text)) r.parts ∙ drop_at r.run r.rest (prefix_len p text) r.long

run_is : (p : ℕ → Bool) (text : List ℕ) (r : Run p text (prefix_len p text)) → take_while p text ≡ r.run
run_is p text r = ap (take (prefix_len p text)) r.parts ∙ take_at r.run r.rest (prefix_len p text) r.long

-- a run, and what is left behind it
run_then : (p : ℕ → Bool) (text left : List ℕ) (r : Run p text (prefix_len p text)) → drop (prefix_len p text) text ≡ left → text ≡ r.run ++ left
run_then p text left r e = r.parts ∙ ap (λ (l : List ℕ). r.run ++ l) (sym (left_of p text r) ∙ e)

semicolon_first : (text : List ℕ) → begins is_semicolon text ≡ true → text ≡ 59 ∷ drop 1 text
semicolon_first [] e = cc
semicolon_first (c ∷ cs) e = ap (λ d. d ∷ cs) (eqb-true c 59 e)

-- a run where one begins isn't empty
some_run : (p : ℕ → Bool) (text : List ℕ) (r : Run p text (prefix_len p text)) → begins p text ≡ true → r.run ≢ []
some_run p text r e q = both_ways _ r.is_run.ends (sym (ap (begins p) (r.parts ∙ ap (λ (l : List ℕ). l ++ r.rest) q)) ∙ e)

pub all_append : (p : ℕ → Bool) (xs ys : List ℕ) → list_all p xs ≡ true → list_all p ys ≡ true → list_all p (xs ++ ys) ≡ true
all_append p [] ys e h = h
all_append p (x ∷ xs) ys e h =
    let both = and_parts (p x) (list_all p xs) e in
    let more = all_append p xs ys both.1 h in
    λ i. both.0 i && more i

-- the blanks before a name, and the name
abbrev NameForm : (gap name : List ℕ) → Type 0
NameForm gap name = (encoding : List ℕ) × (blanks : List ℕ) × (gap ++ name ≡ encoding ++ blanks) × IsEncoding encoding × (list_all is_blank blanks ≡ true)

name_form : (gap name rest : List ℕ) → list_all is_blank gap ≡ true → list_all is_field name ≡ true → begins is_field (gap ++ (name ++ rest)) ≡ false → is_encoding name ≡ true → NameForm gap name
name_form gap [] rest g f b e = ([], gap, append-nil gap, inl refl, g)
name_form [] (c ∷ name) rest g f b e = absurd (both_ways _ b (and_parts (is_field c) (list_all is_field name) f).0)
name_form (d ∷ gap) (c ∷ name) rest g f b e =
    ((d ∷ gap) ++ (c ∷ name), [], sym (append-nil ((d ∷ gap) ++ (c ∷ name))), inr (record { gap = d ∷ gap; name = c ∷ name; whole = refl; some = cons_some d gap; blank = g; utf_8 = e }), refl)
  where
    cons_some : (x : ℕ) (xs : List ℕ) → x ∷ xs ≢ []
    cons_some x xs q = cc

-- the byte order mark, or nothing
abbrev from_start : List ℕ → Walked
from_start text = record { passed = []; rest = text }

mark_of : (text : List ℕ) → (mark : List ℕ) × (text ≡ mark ++ (at_header text).rest) × IsMarkOrNone mark
mark_of [] = ([], refl, inl refl)
mark_of (c ∷ cs) = by_case (c == 0xFEFF) refl
  where
    by_case : (b : Bool) → (c == 0xFEFF) ≡ b → (mark : List ℕ) × (c ∷ cs ≡ mark ++ (cond b (past 1 (from_start (c ∷ cs))) (from_start (c ∷ cs))).rest) × IsMarkOrNone mark
    by_case true e = (c ∷ [], refl, inr (ap (λ d. d ∷ []) (eqb-true c 0xFEFF e)))
    by_case false e = ([], refl, inl refl)

version_is : (name : List ℕ) → is_version name ≡ true → name ≡ codes "1.0"
version_is name e = (slice_eq-Decides Decides-eqb name (codes "1.0") (is_version name) refl).0 e

regroup : (gap name encoding blanks tail last : List ℕ) → gap ++ name ≡ encoding ++ blanks → gap ++ (name ++ (tail ++ last)) ≡ encoding ++ ((blanks ++ tail) ++ last)
regroup gap name encoding blanks tail last e = sym (append_assoc gap name (tail ++ last)) ∙ (ap (λ (l : List ℕ). l ++ (tail ++ last)) e ∙ simp append_assoc)

-- the version, the name of the encoding and the `;`
record FieldsForm (text rest : List ℕ) : Type 0 where
  encoding : List ℕ
  tail : List ℕ
  whole : text ≡ codes "1.0" ++ (encoding ++ (tail ++ 59 ∷ rest))
  encoded : IsEncoding encoding
  blank_tail : list_all is_blank tail ≡ true

fields_form : (version : Walked) → is_version (field version) ≡ true → is_encoding (field (past_field version)) ≡ true → begins is_semicolon (past_field (past_field version)).rest ≡ true
    → FieldsForm version.rest (drop 1 (past_field (past_field version)).rest)
fields_form version v n s =
    let name : Walked = past_field version in
    let end : Walked = past_field name in
    let rest : List ℕ = drop 1 end.rest in
    let field_run = run_of is_field version.rest in
    let gap = run_of is_blank (past_run is_field version).rest in
    let name_run = run_of is_field name.rest in
    let tail = run_of is_blank (past_run is_field name).rest in
    let at_tail : (past_run is_field name).rest ≡ tail.run ++ 59 ∷ rest = run_then is_blank (past_run is_field name).rest (59 ∷ rest) tail (semicolon_first end.rest s) in
    let at_name : name.rest ≡ name_run.run ++ (tail.run ++ 59 ∷ rest) = run_then is_field name.rest (tail.run ++ 59 ∷ rest) name_run at_tail in
    let at_gap : (past_run is_field version).rest ≡ gap.run ++ (name_run.run ++ (tail.run ++ 59 ∷ rest)) = run_then is_blank (past_run is_field version).rest (name_run.run ++ (tail.run ++ 59 ∷ rest)) gap at_name in
    let behind : field_run.rest ≡ gap.run ++ (name_run.run ++ (tail.run ++ 59 ∷ rest)) = sym (left_of is_field version.rest field_run) ∙ at_gap in
    let form : NameForm gap.run name_run.run = name_form gap.run name_run.run (tail.run ++ 59 ∷ rest) gap.is_run.each name_run.is_run.each
    (ap (begins is_field) (sym behind) ∙ field_run.is_run.ends) (ap is_encoding (sym (run_is is_field name.rest name_run)) ∙ n) in
    let version_run : field_run.run ≡ codes "1.0" = sym (run_is is_field version.rest field_run) ∙ version_is (field version) v in
    let encoded = regroup gap.run name_run.run form.0 form.1 tail.run (59 ∷ rest) form.2 in
    record {
      encoding = form.0;
      tail = form.1 ++ tail.run;
      whole = field_run.parts ∙ (λ i. version_run i ++ (behind ∙ encoded) i);
      encoded = form.3;
      blank_tail = all_append is_blank form.1 tail.run form.4 tail.is_run.each;
    }

pub header_form : (text : List ℕ) → header_faults text ≡ [] → HasHeader text (behind_header text).rest
header_form text none =
    let start : Walked = at_header text in
    let version : Walked = at_version text in
    let name : Walked = at_encoding text in
    let end : Walked = at_end text in
    let here = begun (begins_header start.rest) _ none in
    let three = no_parts (version_faults version) (encoding_faults name ++ end_faults end) here.1 in
    let two = no_parts (encoding_faults name) (end_faults end) three.1 in
    let begin = and_parts (starts_with nat_eq start.rest (codes "#ABNF")) (begins is_blank (drop 5 start.rest)) here.0 in
    let blanks = run_of is_blank (drop 5 start.rest) in
    let fields = fields_form version (not_told (is_version (field version)) version.passed Version three.0) (not_told (is_encoding (field name)) name.passed Encoding two.0)
    (not_told (begins is_semicolon end.rest) end.passed Unexpected two.1) in
    let at_blanks : drop 5 start.rest ≡ blanks.run ++ (codes "1.0" ++ (fields.encoding ++ (fields.tail ++ 59 ∷ (behind_header text).rest))) =
    run_then is_blank (drop 5 start.rest) (codes "1.0" ++ (fields.encoding ++ (fields.tail ++ 59 ∷ (behind_header text).rest))) blanks fields.whole in
    let mark = mark_of text in
    record {
      mark = mark.0;
      blanks = blanks.run;
      encoding = fields.encoding;
      tail = fields.tail;
      whole = mark.1 ∙ ap (λ (l : List ℕ). mark.0 ++ l) (begins_so start.rest (codes "#ABNF") begin.0 ∙ ap (λ (l : List ℕ). codes "#ABNF" ++ l) at_blanks);
      marked = mark.2;
      some = some_run is_blank (drop 5 start.rest) blanks begin.1;
      blank = blanks.is_run.each;
      encoded = fields.encoded;
      blank_tail = fields.blank_tail;
    }

-- ---- the form, so no fault

rest_past : (p : ℕ → Bool) (walk : Walked) (run rest : List ℕ) → walk.rest ≡ run ++ rest → IsRun p run rest → (past_run p walk).rest ≡ rest
rest_past p walk run rest e h =
    ap (λ (l : List ℕ). drop (prefix_len p l) l) e ∙ (ap (λ n. drop n (run ++ rest)) (run_len p run rest h) ∙ drop_at run rest (length run) refl)

run_here : (p : ℕ → Bool) (walk : Walked) (run rest : List ℕ) → walk.rest ≡ run ++ rest → IsRun p run rest → take_while p walk.rest ≡ run
run_here p walk run rest e h =
    ap (λ (l : List ℕ). take (prefix_len p l) l) e ∙ (ap (λ n. take n (run ++ rest)) (run_len p run rest h) ∙ take_at run rest (length run) refl)

blank_no_field : (c : ℕ) → is_blank c ≡ true → is_field c ≡ false
blank_no_field c e = at_one (32 == c) (9 == c) refl refl e
  where
    at_one : (a b : Bool) → (32 == c) ≡ a → (9 == c) ≡ b → (a || (b || false)) ≡ true → is_field c ≡ false
    at_one true b p q h = ap is_field (sym (eqb-true 32 c p))
    at_one false true p q h = ap is_field (sym (eqb-true 9 c q))
    at_one false false p q h = absurd cc

no_field_behind : (blanks rest : List ℕ) → list_all is_blank blanks ≡ true → begins is_field (blanks ++ 59 ∷ rest) ≡ false
no_field_behind [] rest e = refl
no_field_behind (c ∷ blanks) rest e = blank_no_field c (and_parts (is_blank c) (list_all is_blank blanks) e).0

one_of_field : (cs : List ℕ) (c : ℕ) → list_all is_field cs ≡ true → is_one_of cs c ≡ true → is_field c ≡ true
one_of_field cs c h e = passes is_field cs c h e

field_no_blank : (c : ℕ) → is_field c ≡ true → is_blank c ≡ false
field_no_blank c e = by_case (is_blank c) refl
  where
    by_case : (b : Bool) → is_blank c ≡ b → b ≡ false
    by_case false h = refl
    by_case true h = absurd (both_ways _ (blank_no_field c h) e)

record IsField (name : List ℕ) : Type 0 where
  each : list_all is_field name ≡ true
  starts : (rest : List ℕ) → begins is_blank (name ++ rest) ≡ false

utf_8_field : (name : List ℕ) → is_utf_8 name ≡ true → IsField name
utf_8_field (u ∷ t ∷ f ∷ hyphen ∷ eight ∷ []) e =
    let one = and_parts (is_one_of (codes "Uu") u && is_one_of (codes "Tt") t && is_one_of (codes "Ff") f && hyphen == 45) (eight == 56) e in
    let two = and_parts (is_one_of (codes "Uu") u && is_one_of (codes "Tt") t && is_one_of (codes "Ff") f) (hyphen == 45) one.0 in
    let three = and_parts (is_one_of (codes "Uu") u && is_one_of (codes "Tt") t) (is_one_of (codes "Ff") f) two.0 in
    let four = and_parts (is_one_of (codes "Uu") u) (is_one_of (codes "Tt") t) three.0 in
    let u_is = one_of_field (codes "Uu") u refl four.0 in
    let t_is = one_of_field (codes "Tt") t refl four.1 in
    let f_is = one_of_field (codes "Ff") f refl three.1 in
    let hyphen_is : is_field hyphen ≡ true = ap is_field (eqb-true hyphen 45 two.1) in
    let eight_is : is_field eight ≡ true = ap is_field (eqb-true eight 56 one.1) in
    record { each = (λ i. u_is i && (t_is i && (f_is i && (hyphen_is i && (eight_is i && true))))); starts = λ rest. field_no_blank u u_is }
utf_8_field _ e = absurd cc

cons_of : (p : ℕ → Bool) (xs : List ℕ) → xs ≢ [] → list_all p xs ≡ true → (rest : List ℕ) → begins p (xs ++ rest) ≡ true
cons_of p [] h e rest = absurd (h refl)
cons_of p (c ∷ xs) h e rest = (and_parts (p c) (list_all p xs) e).0

-- nothing of a field comes behind the version
no_field_encoding : (encoding more : List ℕ) → IsEncoding encoding → begins is_field more ≡ false → begins is_field (encoding ++ more) ≡ false
no_field_encoding encoding more (inl e) h = ap (λ (l : List ℕ). begins is_field (l ++ more)) e ∙ h
no_field_encoding encoding more (inr n) h = ap (λ (l : List ℕ). begins is_field (l ++ more)) n.whole ∙ at_gap n.gap n.some n.blank
  where
    at_gap : (gap : List ℕ) → gap ≢ [] → list_all is_blank gap ≡ true → begins is_field ((gap ++ n.name) ++ more) ≡ false
    at_gap [] some e = absurd (some refl)
    at_gap (c ∷ gap) some e = blank_no_field c (and_parts (is_blank c) (list_all is_blank gap) e).0

-- behind the version, up to the `;`
record IsRead (walk : Walked) (rest : List ℕ) : Type 0 where
  is_encoding : is_encoding (field (past_run is_blank walk)) ≡ true
  left : (past_field (past_run is_blank walk)).rest ≡ rest

read_name : (walk : Walked) (encoding tail rest : List ℕ) → IsEncoding encoding → list_all is_blank tail ≡ true → walk.rest ≡ encoding ++ (tail ++ 59 ∷ rest) → IsRead walk (59 ∷ rest)
read_name walk encoding tail rest (inl none) blank e =
    let at_tail : walk.rest ≡ tail ++ 59 ∷ rest = e ∙ ap (λ (l : List ℕ). l ++ (tail ++ 59 ∷ rest)) none in
    let name : Walked = past_run is_blank walk in
    let at_name : name.rest ≡ 59 ∷ rest = rest_past is_blank walk tail (59 ∷ rest) at_tail (record { each = blank; ends = refl }) in
    let empty : IsRun is_field [] (59 ∷ rest) = record { each = refl; ends = refl } in
    record {
      is_encoding = ap is_encoding (run_here is_field name [] (59 ∷ rest) at_name empty);
      left = rest_past is_blank (past_run is_field name) [] (59 ∷ rest) (rest_past is_field name [] (59 ∷ rest) at_name empty) (record { each = refl; ends = refl });
    }
read_name walk encoding tail rest (inr n) blank e =
    let is_name = utf_8_field n.name n.utf_8 in
    let at_gap : walk.rest ≡ n.gap ++ (n.name ++ (tail ++ 59 ∷ rest)) = e ∙ (ap (λ (l : List ℕ). l ++ (tail ++ 59 ∷ rest)) n.whole ∙ append_assoc n.gap n.name (tail ++ 59 ∷ rest)) in
    let name : Walked = past_run is_blank walk in
    let at_name : name.rest ≡ n.name ++ (tail ++ 59 ∷ rest) = rest_past is_blank walk n.gap (n.name ++ (tail ++ 59 ∷ rest)) at_gap (record { each = n.blank; ends = is_name.starts (tail ++ 59 ∷ rest) }) in
    let run : IsRun is_field n.name (tail ++ 59 ∷ rest) = record { each = is_name.each; ends = no_field_behind tail rest blank } in
    record {
      is_encoding = ap is_encoding (run_here is_field name n.name (tail ++ 59 ∷ rest) at_name run) ∙ or_right (is_empty n.name) (is_utf_8 n.name) n.utf_8;
      left = rest_past is_blank (past_run is_field name) tail (59 ∷ rest) (rest_past is_field name n.name (tail ++ 59 ∷ rest) at_name run) (record { each = blank; ends = refl });
    }

untold : (b : Bool) (front : List ℕ) (kind : DocKind) → b ≡ true → told (not b) front kind ≡ []
untold b front kind e = ap (λ x. told (not x) front kind) e

pub form_header : (text rest : List ℕ) → HasHeader text rest → (header_faults text ≡ []) × (rest ≡ (behind_header text).rest)
form_header text rest h =
    let name_on : List ℕ = h.encoding ++ (h.tail ++ 59 ∷ rest) in
    let version_on : List ℕ = codes "1.0" ++ name_on in
    let begun_on : List ℕ = codes "#ABNF" ++ (h.blanks ++ version_on) in
    let start : Walked = at_header text in
    let at_start : start.rest ≡ begun_on = marked h.mark begun_on text (h.blanks ++ version_on) refl h.whole h.marked in
    let behind : drop 5 start.rest ≡ h.blanks ++ version_on = ap (drop 5) at_start in
    let begins_so : begins_header start.rest ≡ true = ap begins_header at_start ∙ cons_of is_blank h.blanks h.some h.blank version_on in
    let version : Walked = at_version text in
    let at_one : version.rest ≡ version_on = rest_past is_blank (past 5 start) h.blanks version_on behind (record { each = h.blank; ends = refl }) in
    let run : IsRun is_field (codes "1.0") name_on = record { each = refl; ends = no_field_encoding h.encoding (h.tail ++ 59 ∷ rest) h.encoded (no_field_behind h.tail rest h.blank_tail) } in
    let version_ok : is_version (field version) ≡ true = ap is_version (run_here is_field version (codes "1.0") name_on at_one run) in
    let read = read_name (past_run is_field version) h.encoding h.tail rest h.encoded h.blank_tail (rest_past is_field version (codes "1.0") name_on at_one run) in
    let end_ok : begins is_semicolon (at_end text).rest ≡ true = ap (begins is_semicolon) read.left in (
      ap (λ b. cond b (version_faults version ++ (encoding_faults (at_encoding text) ++ end_faults (at_end text))) (told true [] NoHeader)) begins_so
          ∙ (λ i. untold (is_version (field version)) version.passed Version version_ok i ++ (untold (is_encoding (field (at_encoding text))) (at_encoding text).passed Encoding read.is_encoding i ++ untold (begins is_semicolon (at_end text).rest) (at_end text).passed Unexpected end_ok i)),
      sym (ap (drop 1) read.left),
    )
  where
    marked : (mark on text more : List ℕ) → on ≡ codes "#ABNF" ++ more → text ≡ mark ++ on → IsMarkOrNone mark → (at_header text).rest ≡ on
    marked mark on text more o e (inl m) = ap (λ (l : List ℕ). (at_header l).rest) (e ∙ (ap (λ (l : List ℕ). l ++ on) m ∙ o)) ∙ sym o
    marked mark on text more o e (inr m) = ap (λ (l : List ℕ). (at_header l).rest) (e ∙ ap (λ (l : List ℕ). l ++ on) m)

-- ---- walks keep the text

abbrev whole : Walked → List ℕ
whole walk = walk.passed ++ walk.rest

past-whole : (n : ℕ) (walk : Walked) → whole (past n walk) ≡ whole walk
past-whole n walk = append_assoc walk.passed (take n walk.rest) (drop n walk.rest) ∙ ap (λ (l : List ℕ). walk.passed ++ l) (take-append-drop n walk.rest)

past_run-whole : (p : ℕ → Bool) (walk : Walked) → whole (past_run p walk) ≡ whole walk
past_run-whole p walk = past-whole (prefix_len p walk.rest) walk

past_field-whole : (walk : Walked) → whole (past_field walk) ≡ whole walk
past_field-whole walk = past_run-whole is_blank (past_run is_field walk) ∙ past_run-whole is_field walk

at_header-whole : (text : List ℕ) → whole (at_header text) ≡ text
at_header-whole text = by_mark (begins is_mark text)
  where
    by_mark : (b : Bool) → whole (cond b (past 1 (record { passed = []; rest = text })) (record { passed = []; rest = text })) ≡ text
    by_mark true = past-whole 1 (record { passed = []; rest = text })
    by_mark false = refl

pub behind_header-whole : (text : List ℕ) → whole (behind_header text) ≡ text
behind_header-whole text =
    past-whole 1 (at_end text)
    ∙ (past_field-whole (at_encoding text) ∙ (past_field-whole (at_version text) ∙ (past_run-whole is_blank (past 5 (at_header text)) ∙ (past-whole 5 (at_header text) ∙ at_header-whole text))))
