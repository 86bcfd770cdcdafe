-- The table of replies: the members of each, beside `area`, in the order of their names' bytes.
use Rattle.std.specs.Prelude.{ℕ, List, [], ◌∷◌, map, Option, Some, option_map, codes}
use Rattle.serde_json.specs.Data.{Data, string, array, object}
use Rattle.serde_json.specs.View.{items_of}
use Rattle.vg_base.specs.declared.numbers.VersionNo.{VersionNo}
use Rattle.uri_links.specs.Faults.{fault_name}
use Rattle.uri_links.specs.declared.fault.UriFault.{UriFault}
use Rattle.tag_script.specs.Kinds.{tag_kind_name}
use Rattle.tag_script.specs.declared.tag_kind.TagKind.{TagKind}
use Rattle.script_value.specs.Json.{json}
use Rattle.script_value.specs.declared.value.Value.{Value}
use Rattle.linker.specs.Kinds.{fault_kind_name}
use Rattle.linker.specs.declared.set_fault.SetFault.{SetFault}
use Rattle.command_reader.specs.Written.{Field, members_of, text_field, number_data}
use Rattle.json_reply.specs.Names.{refusal_name}
use Rattle.json_reply.specs.declared.refusal.Refusal.{Refusal}
use Rattle.json_reply.specs.declared.refusal.Refusal.TheVariants as refusal
use Rattle.json_reply.specs.declared.reply.BestResult.{BestResult}
use Rattle.json_reply.specs.declared.reply.BestResult.TheVariants.{Given, Fault}
use Rattle.json_reply.specs.declared.reply.Body.{Body}
use Rattle.json_reply.specs.declared.reply.Body.TheVariants.{Staged, Dropped, Opened, Closed, Ran, Memory, Published, Activated, Deactivated, Match, Best, NoMatch, TagFault, Refused, Faulty}

-- ---- members

-- `reply` and the other members that hold a name
abbrev pub word_field : List ℕ → List ℕ → Field
word_field name word = (name, Some (string word))

abbrev pub number_field : List ℕ → ℕ → Field
number_field name n = (name, Some (number_data n))

abbrev pub line_field : ℕ → Field
line_field line = number_field (codes "line") line

abbrev pub reply_field : List ℕ → Field
reply_field word = word_field (codes "reply") word

abbrev pub refusal_field : Refusal → Field
refusal_field refusal = word_field (codes "refusal") (refusal_name refusal)

-- the fault of a tag
abbrev pub tag_field : TagKind → Field
tag_field kind = word_field (codes "fault") (tag_kind_name kind)

abbrev pub rule_field : List ℕ → Field
rule_field rule = text_field (codes "rule") rule

abbrev pub uri_field : List ℕ → Field
uri_field uri = text_field (codes "uri") uri

abbrev pub version_field : VersionNo → Field
version_field version = number_field (codes "version") version.0

-- members that stand exactly where there is something to say

-- `gone`, in a session
abbrev pub gone_field : Option ℕ → Field
gone_field gone = (codes "gone", option_map number_data gone)

-- `cause`, at a reference that is refused
abbrev pub cause_field : Option UriFault → Field
cause_field cause = (codes "cause", option_map (λ fault. string (fault_name fault)) cause)

-- `version`, where a version was asked
abbrev pub asked_field : Option VersionNo → Field
asked_field version = (codes "version", option_map (λ (v : VersionNo). number_data v.0) version)

-- ---- lists

-- a fault of a publish
abbrev pub fault_data : SetFault → Data
fault_data fault =
    object (members_of (number_field (codes "column") fault.place.column ∷ word_field (codes "fault") (fault_kind_name fault.kind)
    ∷ line_field fault.place.line ∷ uri_field fault.uri ∷ []))

-- what one of the best parses means
abbrev pub best_data : BestResult → Data
best_data (Given value) = object (members_of ((codes "result", Some (json value)) ∷ []))
best_data (Fault fault) = object (members_of (tag_field fault.kind ∷ rule_field fault.rule ∷ uri_field fault.uri ∷ []))

abbrev pub result_field : Value → Field
result_field value = (codes "result", Some (json value))

abbrev pub results_field : List BestResult → Field
results_field results = (codes "results", Some (array (items_of (map best_data results))))

abbrev pub faults_field : List SetFault → Field
faults_field faults = (codes "faults", Some (array (items_of (map fault_data faults))))

-- ---- the table

abbrev pub fields_of : ℕ → Body → List Field
fields_of line Staged = line_field line ∷ reply_field (codes "staged") ∷ []
fields_of line Dropped = line_field line ∷ reply_field (codes "dropped") ∷ []
fields_of line Opened = line_field line ∷ reply_field (codes "opened") ∷ []
fields_of line Closed = line_field line ∷ reply_field (codes "closed") ∷ []
fields_of line Ran = line_field line ∷ reply_field (codes "ran") ∷ []
fields_of line Memory = line_field line ∷ reply_field (codes "memory") ∷ []
fields_of line (Published version documents) =
    number_field (codes "documents") documents ∷ line_field line ∷ reply_field (codes "published") ∷ version_field version ∷ []
fields_of line (Activated version) = line_field line ∷ reply_field (codes "activated") ∷ version_field version ∷ []
fields_of line (Deactivated version) = line_field line ∷ reply_field (codes "deactivated") ∷ version_field version ∷ []
fields_of line (Match version uri rule result gone) =
    gone_field gone ∷ line_field line ∷ reply_field (codes "match") ∷ result_field result ∷ rule_field rule ∷ uri_field uri
    ∷ version_field version ∷ []
fields_of line (Best version uri rule results gone) =
    gone_field gone ∷ line_field line ∷ reply_field (codes "match") ∷ results_field results ∷ rule_field rule ∷ uri_field uri
    ∷ version_field version ∷ []
fields_of line (NoMatch version gone) = gone_field gone ∷ line_field line ∷ reply_field (codes "nomatch") ∷ version_field version ∷ []
fields_of line (TagFault version uri rule kind gone) =
    tag_field kind ∷ gone_field gone ∷ line_field line ∷ reply_field (codes "tagfault") ∷ rule_field rule ∷ uri_field uri
    ∷ version_field version ∷ []
fields_of line (Refused refusal cause version) =
    cause_field cause ∷ line_field line ∷ refusal_field refusal ∷ reply_field (codes "refused") ∷ asked_field version ∷ []
fields_of line (Faulty first count) =
    number_field (codes "count") count ∷ faults_field first ∷ line_field line ∷ refusal_field refusal.Refused
    ∷ reply_field (codes "refused") ∷ []
