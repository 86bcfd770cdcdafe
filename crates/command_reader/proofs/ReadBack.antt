-- The text that is written for a command is read as this command.
use Rattle.std.proofs.Common.{◌≡◌, ℕ, ◌≤◌, List, [], ◌∷◌, ◌++◌, length, true, Option, Some, option_map, option_and_then, option_to_list, Ok, codes, refl, sym, ap, subst, ◌∙◌, arith}
use Rattle.std.proofs.lemmas.Bool.{and_parts, le-leb}
use Rattle.std.proofs.lemmas.List.Folds.{list_all-append}
use Rattle.std.specs.List.{list_all}
use Rattle.std.specs.Str.{all_scalars}
use Rattle.json.proofs.Printed.Utf8.{are_ascii, IsUtf8-are_ascii}
use Rattle.serde_json.specs.Data.{Data, string, object}
use Rattle.serde_json.specs.Find.{get}
use Rattle.serde_json.specs.Written.{compact_text}
use Rattle.vg_base.specs.Limits as limits
use Rattle.command_reader.specs.Answer.{answer_for, answer_to, or_not_command}
use Rattle.command_reader.specs.Facts.{IsName, IsCalled, texts_in, texts_in_line}
use Rattle.command_reader.specs.Members as members
use Rattle.command_reader.specs.Table as table
use Rattle.command_reader.specs.Written.{Field, members_of, text_data, texts_data, verb, area_field, text_field, rule_field, best_field, keys_field, tokens_field, fields_of, written}
use Rattle.command_reader.specs.declared.command.AdminCommand.TheVariants.{Put, Drop, Publish}
use Rattle.command_reader.specs.declared.command.Command.{Command}
use Rattle.command_reader.specs.declared.command.Command.TheVariants.{Admin, Open, Close, ForSession, Try, Run}
use Rattle.command_reader.specs.declared.command.MatchLine.{MatchLine}
use Rattle.command_reader.specs.declared.command.SessionCommand.TheVariants.{Activate, Deactivate, Match}
use Rattle.command_reader.specs.declared.command.TryCommand.{TryCommand}
use Rattle.command_reader.proofs.Fields.{IsWritable, value_at, get-members_of, names_within, named_within-members_of, rise, ascii_names, AreWritable, read-fields, IsUtf8-fields}
use Rattle.command_reader.proofs.Reading.{value_of-read}
use Rattle.command_reader.proofs.Values.{IsText, AreTexts, text_writable, text_back, texts_writable, texts_back, area_writable, area_back, rule_writable, rule_back, IsBest, best_writable, best_back, keys_writable, tokens_writable, line_back, name_back}

abbrev object_of : List Field → Data
object_of fs = object (members_of fs)

-- ---- what the members of an object say

only : (names : List (List ℕ)) (fs : List Field) → names_within names fs ≡ true → members.has_only names (object_of fs) ≡ true
only names fs e = named_within-members_of names fs e

text_found : (name : List ℕ) (fs : List Field) (text : List ℕ) → IsText text → value_at name fs ≡ Some (text_data text) → members.text_at name (object_of fs) ≡ Some text
text_found name fs text h e = ap (option_and_then members.text_of) (get-members_of name fs ∙ e) ∙ text_back text h

session_found : (fs : List Field) (name : List ℕ) → IsText name → IsName name → value_at (codes "session") fs ≡ Some (text_data name)
    → members.session_at (object_of fs) ≡ Some name
session_found fs name h k e = ap (option_and_then members.session_name) (text_found (codes "session") fs name h e) ∙ name_back name k

rule_found : (fs : List Field) (rule : Option (List ℕ)) → AreTexts (option_to_list rule) → value_at (codes "rule") fs ≡ (rule_field rule).1
    → members.rule_at (object_of fs) ≡ Some rule
rule_found fs rule h e = ap (members.optional members.text_of) (get-members_of (codes "rule") fs ∙ e) ∙ rule_back rule h

best_found : (fs : List Field) (best : Option ℕ) → IsBest best → value_at (codes "best") fs ≡ (best_field best).1
    → members.best_at (object_of fs) ≡ Some best
best_found fs best h e = ap (members.optional (members.number_of 1 limits.parses)) (get-members_of (codes "best") fs ∙ e) ∙ best_back best h

line_found : (fs : List Field) (line : MatchLine) → AreTexts (texts_in_line line) → value_at (codes "tokens") fs ≡ (tokens_field line).1
    → value_at (codes "keys") fs ≡ (keys_field line).1 → members.line_at (object_of fs) ≡ Some line
line_found fs line h t k =
    ap (λ o. members.one_of o (get (codes "keys") (object_of fs))) (get-members_of (codes "tokens") fs ∙ t)
    ∙ (ap (members.one_of (tokens_field line).1) (get-members_of (codes "keys") fs ∙ k) ∙ line_back line h)

entries_found : (fs : List Field) (entries : List (List ℕ)) → AreTexts entries → length entries ≤ limits.entries
    → value_at (codes "entries") fs ≡ Some (texts_data entries) → members.entries_at (object_of fs) ≡ Some entries
entries_found fs entries h few e =
    ap (λ o. option_and_then members.few_entries (option_and_then members.list_of o)) (get-members_of (codes "entries") fs ∙ e)
    ∙ (ap (option_and_then members.few_entries) (texts_back entries h) ∙ rw (le-leb (length entries) limits.entries few) refl)

-- ---- the rows

-- the names that a row allows
abbrev put_names : List (List ℕ)
put_names = codes "do" ∷ codes "area" ∷ codes "uri" ∷ codes "text" ∷ []

abbrev drop_names : List (List ℕ)
drop_names = codes "do" ∷ codes "area" ∷ codes "uri" ∷ []

abbrev publish_names : List (List ℕ)
publish_names = codes "do" ∷ codes "area" ∷ codes "entries" ∷ []

abbrev name_names : List (List ℕ)
name_names = codes "do" ∷ codes "area" ∷ codes "session" ∷ []

abbrev rule_names : List (List ℕ)
rule_names = codes "do" ∷ codes "area" ∷ codes "session" ∷ codes "uri" ∷ codes "rule" ∷ []

abbrev match_names : List (List ℕ)
match_names = codes "do" ∷ codes "area" ∷ codes "session" ∷ codes "tokens" ∷ codes "keys" ∷ codes "best" ∷ []

abbrev try_names : List (List ℕ)
try_names = codes "do" ∷ codes "area" ∷ codes "uri" ∷ codes "rule" ∷ codes "tokens" ∷ codes "keys" ∷ codes "best" ∷ []

module _ (d : Data) where
  put_says : (uri text : List ℕ) → members.has_only put_names d ≡ true
      → members.text_at (codes "uri") d ≡ Some uri → members.text_at (codes "text") d ≡ Some text → table.put_row d ≡ Some (Admin (Put uri text))
  put_says uri text o u t = rw (o, u, t) refl

  drop_says : (uri : List ℕ) → members.has_only drop_names d ≡ true
      → members.text_at (codes "uri") d ≡ Some uri → table.drop_row d ≡ Some (Admin (Drop uri))
  drop_says uri o u = rw (o, u) refl

  publish_says : (entries : List (List ℕ)) → members.has_only publish_names d ≡ true
      → members.entries_at d ≡ Some entries → table.publish_row d ≡ Some (Admin (Publish entries))
  publish_says entries o e = rw (o, e) refl

  name_says : (name : List ℕ) → members.has_only name_names d ≡ true
      → members.session_at d ≡ Some name → table.name_row d ≡ Some name
  name_says name o s = rw (o, s) refl

  rule_says : (name uri : List ℕ) (rule : Option (List ℕ))
      → members.has_only rule_names d ≡ true
      → members.session_at d ≡ Some name → members.text_at (codes "uri") d ≡ Some uri → members.rule_at d ≡ Some rule
      → table.rule_row d ≡ Some (name, uri, rule)
  rule_says name uri rule o s u r = rw (o, s, u, r) refl

  match_says : (name : List ℕ) (line : MatchLine) (best : Option ℕ)
      → members.has_only match_names d ≡ true
      → members.session_at d ≡ Some name → members.line_at d ≡ Some line → members.best_at d ≡ Some best
      → table.match_row d ≡ Some (ForSession name (Match line best))
  match_says name line best o s l b = rw (o, s, l, b) refl

  try_says : (tried : TryCommand)
      → members.has_only try_names d ≡ true
      → members.text_at (codes "uri") d ≡ Some tried.uri → members.rule_at d ≡ Some tried.rule → members.line_at d ≡ Some tried.line → members.best_at d ≡ Some tried.best
      → table.try_row d ≡ Some (Try tried)
  try_says tried o u r l b = rw (o, u, r, l, b) refl

  -- a row with its verb and its area
  called_says : (word : List ℕ) (n : ℕ) (c : Command) → get (codes "do") d ≡ Some (string word) → members.area_at d ≡ Some (members.area_of n)
      → table.row_of word d ≡ Some c → table.command_of d ≡ Some (record { area = members.area_of n; command = c })
  called_says word n c e a r = rw (e, r, a) refl

-- ---- each command

abbrev pub IsReadBack : ℕ → Command → Type 0
IsReadBack n c = answer_to (compact_text (written (record { area = members.area_of n; command = c }))) ≡ Ok (record { area = members.area_of n; command = c })

-- fields of a command with this verb, behind the field of an area: writable, by rising names of ASCII
record AreFieldsOf (n : ℕ) (word : List ℕ) (fs : List Field) : Type 0 where
  writable : AreWritable fs
  rising : rise [] (area_field n ∷ fs) ≡ true
  ascii : ascii_names (area_field n ∷ fs) ≡ true
  verb : value_at (codes "do") (area_field n ∷ fs) ≡ Some (string word)
  area : value_at (codes "area") (area_field n ∷ fs) ≡ (area_field n).1

module _ (n : ℕ) (small : n ≤ limits.last_area) where
  -- what is read of a command's fields with the field of its area
  row_read : {fs : List Field} {word : List ℕ} (c : Command) → AreFieldsOf n word fs → table.row_of word (object_of (area_field n ∷ fs)) ≡ Some c
      → answer_to (compact_text (object_of (area_field n ∷ fs))) ≡ Ok (record { area = members.area_of n; command = c })
  row_read {fs = fs} {word = word} c h row =
      let all : List Field = area_field n ∷ fs in
      let writable : AreWritable all = (area_writable n small, h.writable) in
      let in_area = ap (λ o. option_map members.area_of (members.area_number o)) (get-members_of (codes "area") all ∙ h.area) ∙ ap (option_map members.area_of) (area_back n small) in
      ap answer_for (value_of-read _ (object_of all) (IsUtf8-fields all h.ascii writable) (read-fields all h.rising writable))
      ∙ ap or_not_command (called_says (object_of all) word n c (get-members_of (codes "do") all ∙ h.verb) in_area row)

  does : (word : List ℕ) → are_ascii word ≡ true → IsWritable (string word)
  does word h = record { same = refl; numbers = tt; flat = omega arith; encoded = IsUtf8-are_ascii word h }

  put_read : (uri text : List ℕ) → AreTexts (uri ∷ text ∷ []) → IsReadBack n (Admin (Put uri text))
  put_read uri text h =
      let u = and_parts (all_scalars uri) (list_all all_scalars (text ∷ [])) h in
      let t = (and_parts (all_scalars text) true u.1).0 in
      let fs = fields_of (Admin (Put uri text)) in
      let all : List Field = area_field n ∷ fs in
      row_read {fs = fs} {word = codes "put"} _ (record { writable = (does (codes "put") refl, (text_writable text t, (text_writable uri u.0, tt))); rising = refl; ascii = refl; verb = refl; area = refl })
      (put_says (object_of all) uri text (only put_names all refl) (text_found (codes "uri") all uri u.0 refl) (text_found (codes "text") all text t refl))

  drop_read : (uri : List ℕ) → AreTexts (uri ∷ []) → IsReadBack n (Admin (Drop uri))
  drop_read uri h =
      let u = (and_parts (all_scalars uri) true h).0 in
      let fs = fields_of (Admin (Drop uri)) in
      let all : List Field = area_field n ∷ fs in
      row_read {fs = fs} {word = codes "drop"} _ (record { writable = (does (codes "drop") refl, (text_writable uri u, tt)); rising = refl; ascii = refl; verb = refl; area = refl })
      (drop_says (object_of all) uri (only drop_names all refl) (text_found (codes "uri") all uri u refl))

  publish_read : (entries : List (List ℕ)) → AreTexts entries → length entries ≤ limits.entries → IsReadBack n (Admin (Publish entries))
  publish_read entries h few =
      let fs = fields_of (Admin (Publish entries)) in
      let all : List Field = area_field n ∷ fs in
      row_read {fs = fs} {word = codes "publish"} _ (record { writable = (does (codes "publish") refl, (texts_writable entries h, tt)); rising = refl; ascii = refl; verb = refl; area = refl })
      (publish_says (object_of all) entries (only publish_names all refl) (entries_found all entries h few refl))

  open_read : (name : List ℕ) → AreTexts (name ∷ []) → IsName name → IsReadBack n (Open name)
  open_read name h k =
      let t = (and_parts (all_scalars name) true h).0 in
      let fs = fields_of (Open name) in
      let all : List Field = area_field n ∷ fs in
      row_read {fs = fs} {word = codes "open"} _ (record { writable = (does (codes "open") refl, (text_writable name t, tt)); rising = refl; ascii = refl; verb = refl; area = refl })
      (ap (option_map Open) (name_says (object_of all) name (only name_names all refl) (session_found all name t k refl)))

  close_read : (name : List ℕ) → AreTexts (name ∷ []) → IsName name → IsReadBack n (Close name)
  close_read name h k =
      let t = (and_parts (all_scalars name) true h).0 in
      let fs = fields_of (Close name) in
      let all : List Field = area_field n ∷ fs in
      row_read {fs = fs} {word = codes "close"} _ (record { writable = (does (codes "close") refl, (text_writable name t, tt)); rising = refl; ascii = refl; verb = refl; area = refl })
      (ap (option_map Close) (name_says (object_of all) name (only name_names all refl) (session_found all name t k refl)))

  -- an activate or a deactivate
  module _ (name uri : List ℕ) (rule : Option (List ℕ)) (k : IsName name) where
    rule_row_read : (fs : List Field) → AreTexts (name ∷ uri ∷ option_to_list rule)
        → names_within rule_names fs ≡ true
        → value_at (codes "session") fs ≡ Some (text_data name) → value_at (codes "uri") fs ≡ Some (text_data uri) → value_at (codes "rule") fs ≡ (rule_field rule).1
        → table.rule_row (object_of fs) ≡ Some (name, uri, rule)
    rule_row_read fs h o s u r =
        let p = and_parts (all_scalars name) (list_all all_scalars (uri ∷ option_to_list rule)) h in
        let q = and_parts (all_scalars uri) (list_all all_scalars (option_to_list rule)) p.1 in
        rule_says (object_of fs) name uri rule (only rule_names fs o) (session_found fs name p.0 k s) (text_found (codes "uri") fs uri q.0 u) (rule_found fs rule q.1 r)

    rule_fields_writable : (word : List ℕ) → are_ascii word ≡ true → AreTexts (name ∷ uri ∷ option_to_list rule)
        → AreWritable (verb word ∷ rule_field rule ∷ text_field (codes "session") name ∷ text_field (codes "uri") uri ∷ [])
    rule_fields_writable word a h =
        let p = and_parts (all_scalars name) (list_all all_scalars (uri ∷ option_to_list rule)) h in
        let q = and_parts (all_scalars uri) (list_all all_scalars (option_to_list rule)) p.1 in
        (does word a, (rule_writable rule q.1, (text_writable name p.0, (text_writable uri q.0, tt))))

    activate_read : AreTexts (name ∷ uri ∷ option_to_list rule) → IsReadBack n (ForSession name (Activate uri rule))
    activate_read h =
        let fs = fields_of (ForSession name (Activate uri rule)) in
        let all : List Field = area_field n ∷ fs in
        row_read {fs = fs} {word = codes "activate"} _ (record { writable = (rule_fields_writable (codes "activate") refl h); rising = refl; ascii = refl; verb = refl; area = refl })
        (ap (option_map (λ r. ForSession r.0 (Activate r.1 r.2))) (rule_row_read all h refl refl refl refl))

    deactivate_read : AreTexts (name ∷ uri ∷ option_to_list rule) → IsReadBack n (ForSession name (Deactivate uri rule))
    deactivate_read h =
        let fs = fields_of (ForSession name (Deactivate uri rule)) in
        let all : List Field = area_field n ∷ fs in
        row_read {fs = fs} {word = codes "deactivate"} _ (record { writable = (rule_fields_writable (codes "deactivate") refl h); rising = refl; ascii = refl; verb = refl; area = refl })
        (ap (option_map (λ r. ForSession r.0 (Deactivate r.1 r.2))) (rule_row_read all h refl refl refl refl))

  match_read : (name : List ℕ) (line : MatchLine) (best : Option ℕ) → AreTexts (name ∷ texts_in_line line) → IsName name → IsBest best
      → IsReadBack n (ForSession name (Match line best))
  match_read name line best h k b =
      let p = and_parts (all_scalars name) (list_all all_scalars (texts_in_line line)) h in
      let fs = fields_of (ForSession name (Match line best)) in
      let all : List Field = area_field n ∷ fs in
      row_read {fs = fs} {word = codes "match"} _ (record { writable = (best_writable best b, (does (codes "match") refl, (keys_writable line p.1, (text_writable name p.0, (tokens_writable line p.1, tt))))); rising = refl; ascii = refl; verb = refl; area = refl })
      (match_says (object_of all) name line best (only match_names all refl) (session_found all name p.0 k refl) (line_found all line p.1 refl refl) (best_found all best b refl))

  try_read : (tried : TryCommand) → AreTexts (texts_in (Try tried)) → IsBest tried.best → IsReadBack n (Try tried)
  try_read tried h b =
      let p = and_parts (all_scalars tried.uri) (list_all all_scalars (option_to_list tried.rule ++ texts_in_line tried.line)) h in
      let q = and_parts (list_all all_scalars (option_to_list tried.rule)) (list_all all_scalars (texts_in_line tried.line))
      (sym (list_all-append all_scalars (option_to_list tried.rule) (texts_in_line tried.line)) ∙ p.1) in
      let fs = fields_of (Try tried) in
      let all : List Field = area_field n ∷ fs in
      row_read {fs = fs} {word = codes "try"} _ (record {
        writable = (
          best_writable tried.best b,
          (does (codes "try") refl, (keys_writable tried.line q.1, (rule_writable tried.rule q.0, (tokens_writable tried.line q.1, (text_writable tried.uri p.0, tt))))),
        );
        rising = refl;
        ascii = refl;
        verb = refl;
        area = refl;
      })
      (try_says (object_of all) tried (only try_names all refl) (text_found (codes "uri") all tried.uri p.0 refl) (rule_found all tried.rule q.0 refl)
      (line_found all tried.line q.1 refl refl) (best_found all tried.best b refl))

run_read : (n : ℕ) → n ≡ 0 → IsReadBack n Run
run_read n e = subst (λ m. IsReadBack m Run) (sym e) (row_read 0 (omega arith) {fs = fields_of Run} {word = codes "run"} Run (record { writable = (does 0 (omega arith) (codes "run") refl, tt); rising = refl; ascii = refl; verb = refl; area = refl }) refl)

-- the law, command by command
pub read_back : (n : ℕ) (c : Command) → IsCalled (record { area = members.area_of n; command = c }) → IsReadBack n c
read_back n (Admin (Put uri text)) h = put_read n h.area uri text h.scalars
read_back n (Admin (Drop uri)) h = drop_read n h.area uri h.scalars
read_back n (Admin (Publish entries)) h = publish_read n h.area entries h.scalars h.entries
read_back n (Open name) h = open_read n h.area name h.scalars h.session
read_back n (Close name) h = close_read n h.area name h.scalars h.session
read_back n (ForSession name (Activate uri rule)) h = activate_read n h.area name uri rule h.session h.scalars
read_back n (ForSession name (Deactivate uri rule)) h = deactivate_read n h.area name uri rule h.session h.scalars
read_back n (ForSession name (Match line best)) h = match_read n h.area name line best h.scalars h.session h.best
read_back n (Try tried) h = try_read n h.area tried h.scalars h.best
read_back n Run h = run_read n (h.run refl)
