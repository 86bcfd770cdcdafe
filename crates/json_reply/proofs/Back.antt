-- A reply is read back from its members, where the script values, the results and the faults in it are known.
use Rattle.std.proofs.Common.{◌≡◌, ℕ, ◌==◌, List, ◌∷◌, map, Bool, true, false, if◌then◌else◌, Option, Some, None, option_map, IfSome, unwrap_or, chars, codes, refl, sym, ap, ap₂, ◌∙◌}
use Rattle.std.proofs.lemmas.Bool.{eqb-true}
use Rattle.std.proofs.lemmas.Str.{chars-encodes}
use Rattle.std.specs.List.{AllByRecursion}
use Rattle.std.specs.Str.{bytes_eq}
use Rattle.serde_json.specs.Data.{Data, string, array}
use Rattle.serde_json.specs.View.{items_of}
use Rattle.vg_base.specs.declared.numbers.VersionNo.{VersionNo}
use Rattle.uri_links.specs.Faults.{fault_name}
use Rattle.uri_links.specs.declared.fault.UriFault.{UriFault}
use Rattle.script_value.specs.Json.{json}
use Rattle.script_value.specs.Kept as value
use Rattle.script_value.specs.declared.value.Value.{Value, Null}
use Rattle.linker.specs.declared.set_fault.SetFault.{SetFault}
use Rattle.command_reader.specs.Written.{number_data, area_field}
use Rattle.command_reader.proofs.Fields.{value_at}
use Rattle.json_reply.specs.Kept.{IsKeptBody, IsKeptFault, IsKeptResult}
use Rattle.json_reply.specs.Rows.{best_data, fault_data, fields_of}
use Rattle.json_reply.specs.declared.reply.BestResult.{BestResult}
use Rattle.json_reply.specs.declared.reply.Body.{Body}
use Rattle.json_reply.specs.declared.reply.Body.TheVariants.{Staged, Dropped, Opened, Closed, Ran, Memory, Published, Activated, Deactivated, Match, Best, NoMatch, TagFault, Refused, Faulty}
use Rattle.json_reply.specs.declared.reply.Reply.{Reply}
use Rattle.json_reply.proofs.Elements.{number_in, bytes_in, number_or, bytes_or}
use Rattle.json_reply.proofs.Names.{uri_fault_in, uri_fault_back, tag_kind_in, tag_kind_back, refusal_in, refusal_back}

-- ---- what stands in a body and is told by itself

pub record Parts : Type 0 where
  pub value : Option Value
  pub results : Option (List BestResult)
  pub faults : Option (List SetFault)

abbrev no_parts : Parts
no_parts = record { value = None; results = None; faults = None }

abbrev pub parts : Body → Parts
parts (Match version uri rule meant missing) = record no_parts { value = Some meant }
parts (Best version uri rule results missing) = record no_parts { results = Some results }
parts (Faulty first count) = record no_parts { faults = Some first }
parts rest = no_parts

pub record ArePartsKept (these : Parts) : Type 0 where
  pub value : IfSome these.value value.IsKept
  pub results : IfSome these.results (AllByRecursion IsKeptResult)
  pub faults : IfSome these.faults (AllByRecursion IsKeptFault)

pub parts_kept : (b : Body) → IsKeptBody b → ArePartsKept (parts b)
parts_kept (Match version uri rule meant missing) h = record { value = h.1; results = tt; faults = tt }
parts_kept (Best version uri rule results missing) h = record { value = tt; results = h.1; faults = tt }
parts_kept (Faulty first count) h = record { value = tt; results = tt; faults = h.1 }
parts_kept rest h = record { value = tt; results = tt; faults = tt }

-- ---- members that show them

abbrev pub at_fields : ℕ → ℕ → Body → List ℕ → Option Data
at_fields area line body name = value_at name (area_field area ∷ fields_of line body)

pub value_shown : (area line : ℕ) (b : Body) → at_fields area line b (codes "result") ≡ option_map json (parts b).value
value_shown area line Staged = refl
value_shown area line _ = refl

abbrev pub results_data : List BestResult → Data
results_data results = array (items_of (map best_data results))

pub results_shown : (area line : ℕ) (b : Body) → at_fields area line b (codes "results") ≡ option_map results_data (parts b).results
results_shown area line Staged = refl
results_shown area line _ = refl

abbrev pub faults_data : List SetFault → Data
faults_data faults = array (items_of (map fault_data faults))

pub faults_shown : (area line : ℕ) (b : Body) → at_fields area line b (codes "faults") ≡ option_map faults_data (parts b).faults
faults_shown area line Staged = refl
faults_shown area line _ = refl

-- ---- the other members are read

-- what an object has at a name
abbrev At : Type 0
At = List ℕ → Option Data

abbrev text_at : At → List ℕ → List ℕ
text_at at name = chars (bytes_or (at name))

abbrev version_in : Data → VersionNo
version_in d = record { 0 = number_in d }

abbrev version_at : At → VersionNo
version_at at = record { 0 = number_or (at (codes "version")) }

abbrev gone_at : At → Option ℕ
gone_at at = option_map number_in (at (codes "gone"))

abbrev match_in : At → Option Value → Option (List BestResult) → Body
match_in at meant (Some results) = Best (version_at at) (text_at at (codes "uri")) (text_at at (codes "rule")) results (gone_at at)
match_in at meant None = Match (version_at at) (text_at at (codes "uri")) (text_at at (codes "rule")) (unwrap_or meant Null) (gone_at at)

abbrev refused_in : At → Option (List SetFault) → Body
refused_in at (Some first) = Faulty first (number_or (at (codes "count")))
refused_in at None =
    Refused (refusal_in (bytes_or (at (codes "refusal")))) (option_map (λ d. uri_fault_in (bytes_in d)) (at (codes "cause")))
    (option_map version_in (at (codes "version")))

abbrev tag_fault_in : At → Body
tag_fault_in at =
    TagFault (version_at at) (text_at at (codes "uri")) (text_at at (codes "rule")) (tag_kind_in (bytes_or (at (codes "fault")))) (gone_at at)

-- the body of a reply with this word
abbrev body_of : List ℕ → At → Parts → Body
body_of word at known =
    if bytes_eq word (codes "staged") then Staged
    else if bytes_eq word (codes "dropped") then Dropped
    else if bytes_eq word (codes "opened") then Opened
    else if bytes_eq word (codes "closed") then Closed
    else if bytes_eq word (codes "ran") then Ran
    else if bytes_eq word (codes "memory") then Memory
    else if bytes_eq word (codes "published") then Published (version_at at) (number_or (at (codes "documents")))
    else if bytes_eq word (codes "activated") then Activated (version_at at)
    else if bytes_eq word (codes "deactivated") then Deactivated (version_at at)
    else if bytes_eq word (codes "nomatch") then NoMatch (version_at at) (gone_at at)
    else if bytes_eq word (codes "tagfault") then tag_fault_in at
    else if bytes_eq word (codes "match") then match_in at known.value known.results
    else refused_in at known.faults

abbrev pub reply_in : At → Parts → Reply
reply_in at known = record {
  line = number_or (at (codes "line"));
  area = record { 0 = number_or (at (codes "area")) };
  body = body_of (bytes_or (at (codes "reply"))) at known;
}

-- ---- and are what was written

count_back : (count : Option ℕ) → option_map number_in (option_map number_data count) ≡ count
count_back None = refl
count_back (Some n) = refl

asked_back : (version : Option VersionNo) → option_map version_in (option_map (λ (v : VersionNo). number_data v.0) version) ≡ version
asked_back None = refl
asked_back (Some v) = refl

cause_back : (cause : Option UriFault) → option_map (λ d. uri_fault_in (bytes_in d)) (option_map (λ fault. string (fault_name fault)) cause) ≡ cause
cause_back None = refl
cause_back (Some fault) = ap Some (uri_fault_back fault)

first_back : (first : Bool) (n : ℕ) → (first ≡ true → n ≡ 0) → number_or (if first then None else Some (number_data n)) ≡ n
first_back true n zero = sym (zero refl)
first_back false n zero = refl

area_back : (n : ℕ) → number_or (if n == 0 then None else Some (number_data n)) ≡ n
area_back n = first_back (n == 0) n (eqb-true n 0)

body_back : (area line : ℕ) (b : Body) → IsKeptBody b → (reply_in (at_fields area line b) (parts b)).body ≡ b
body_back area line Staged h = refl
body_back area line Dropped h = refl
body_back area line Opened h = refl
body_back area line Closed h = refl
body_back area line Ran h = refl
body_back area line Memory h = refl
body_back area line (Published version documents) h = refl
body_back area line (Activated version) h = refl
body_back area line (Deactivated version) h = refl
body_back area line (Match version uri rule meant missing) h = rw (chars-encodes rule h.2, chars-encodes uri h.3, count_back missing) refl
body_back area line (Best version uri rule results missing) h = rw (chars-encodes rule h.2, chars-encodes uri h.3, count_back missing) refl
body_back area line (NoMatch version missing) h = rw (count_back missing) refl
body_back area line (TagFault version uri rule tag missing) h =
    rw (chars-encodes rule h.1, chars-encodes uri h.2, tag_kind_back tag, count_back missing) refl
body_back area line (Refused why cause version) h = rw (refusal_back why, cause_back cause, asked_back version) refl
body_back area line (Faulty first count) h = refl

line_back : (area line : ℕ) (b : Body) → (reply_in (at_fields area line b) (parts b)).line ≡ line
line_back area line Staged = refl
line_back area line _ = refl

whole_area_back : (area line : ℕ) (b : Body) → (reply_in (at_fields area line b) (parts b)).area.0 ≡ area
whole_area_back area line Staged = area_back area
whole_area_back area line _ = area_back area

abbrev made : ℕ → ℕ → Body → Reply
made area line body = record { line = line; area = record { 0 = area }; body = body }

pub read_back : (area line : ℕ) (b : Body) → IsKeptBody b → reply_in (at_fields area line b) (parts b) ≡ made area line b
read_back area line b h =
    ap (λ l. made (reply_in (at_fields area line b) (parts b)).area.0 l (reply_in (at_fields area line b) (parts b)).body) (line_back area line b)
    ∙ ap₂ (λ a body. made a line body) (whole_area_back area line b) (body_back area line b h)
