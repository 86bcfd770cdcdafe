-- Kept and shallow replies with one line are one.
use Rattle.std.proofs.Common.{◌≡◌, ℕ, List, [], ◌∷◌, map, Option, Some, None, option_map, IfSome, codes, refl, sym, ap, ap₂, ◌∙◌, arith}
use Rattle.std.proofs.lemmas.List.{append_cancel_right}
use Rattle.std.specs.List.{AllByRecursion}
use Rattle.serde_json.specs.Data.{Data, array, object, Items, Members}
use Rattle.serde_json.specs.Find.{get_member}
use Rattle.serde_json.specs.View.{items_of}
use Rattle.serde_json.specs.Written.{compact_text}
use Rattle.script_value.proofs.SameJson.{json_tells}
use Rattle.script_value.proofs.Whole.{text_tells}
use Rattle.script_value.specs.Json.{json}
use Rattle.script_value.specs.Kept as value
use Rattle.linker.specs.declared.set_fault.SetFault.{SetFault}
use Rattle.command_reader.specs.Written.{members_of}
use Rattle.command_reader.proofs.Fields.{get-members_of}
use Rattle.json_reply.specs.Kept.{IsKept, IsKeptFault, IsKeptResult}
use Rattle.json_reply.specs.Laws.{LinesTellReplies}
use Rattle.json_reply.specs.Line.{reply_fields, reply_json}
use Rattle.json_reply.specs.Rows.{best_data, fault_data}
use Rattle.json_reply.specs.declared.reply.BestResult.{BestResult}
use Rattle.json_reply.specs.declared.reply.Reply.{Reply}
use Rattle.json_reply.proofs.Back.{Parts, parts, parts_kept, at_fields, value_shown, results_data, results_shown, faults_data, faults_shown, reply_in, read_back}
use Rattle.json_reply.proofs.Elements.{faults_tell, results_tell}
use Rattle.json_reply.proofs.Shallow.{reply_shallow}
use Rattle.json_reply.proofs.Whole.{reply_whole}

-- ---- parts with one JSON are one

some_same : {A : Type 0} (a b : A) → Some a ≡ Some b → a ≡ b
some_same a b e = cc

module _ {A : Type 0} (shown : A → Data) (Holds : A → Type 0) (tells : (x y : A) → Holds x → Holds y → shown x ≡ shown y → x ≡ y) where
  option_tells : (o p : Option A) → IfSome o Holds → IfSome p Holds → option_map shown o ≡ option_map shown p → o ≡ p
  option_tells None None h k e = refl
  option_tells None (Some y) h k e = absurd (cc)
  option_tells (Some x) None h k e = absurd (cc)
  option_tells (Some x) (Some y) h k e = ap Some (tells x y h k (some_same (shown x) (shown y) e))

-- arrays of them
items_same : (ds es : Items) → array ds ≡ array es → ds ≡ es
items_same ds es e = cc

all_results_tell : (these those : List BestResult) → AllByRecursion IsKeptResult these → AllByRecursion IsKeptResult those
    → results_data these ≡ results_data those → these ≡ those
all_results_tell these those p q e = results_tell these those p q (items_same (items_of (map best_data these)) (items_of (map best_data those)) e)

all_faults_tell : (these those : List SetFault) → AllByRecursion IsKeptFault these → AllByRecursion IsKeptFault those
    → faults_data these ≡ faults_data those → these ≡ those
all_faults_tell these those p q e = faults_tell these those p q (items_same (items_of (map fault_data these)) (items_of (map fault_data those)) e)

members_same : (ms ns : Members) → object ms ≡ object ns → ms ≡ ns
members_same ms ns e = cc

same_parts : (p q : Parts) → p.value ≡ q.value → p.results ≡ q.results → p.faults ≡ q.faults → p ≡ q
same_parts p q v r f = λ i. record { value = v i; results = r i; faults = f i }

-- ---- the law

-- the members of replies with one JSON are the same at each name
same_at : (this that : Reply) → reply_json this ≡ reply_json that → (name : List ℕ)
    → at_fields this.area.0 this.line this.body name ≡ at_fields that.area.0 that.line that.body name
same_at this that e name =
    sym (get-members_of name (reply_fields this))
    ∙ ap (get_member name) (members_same (members_of (reply_fields this)) (members_of (reply_fields that)) e)
    ∙ get-members_of name (reply_fields that)

json_tells_reply : (this that : Reply) → IsKept this → IsKept that → reply_json this ≡ reply_json that → this ≡ that
json_tells_reply this that p q e =
    let at = same_at this that e in
    let these = parts_kept this.body p.body in
    let those = parts_kept that.body q.body in
    let values = option_tells json value.IsKept json_tells (parts this.body).value (parts that.body).value these.value those.value
    (sym (value_shown this.area.0 this.line this.body) ∙ at (codes "result") ∙ value_shown that.area.0 that.line that.body) in
    let results = option_tells results_data (AllByRecursion IsKeptResult) all_results_tell (parts this.body).results (parts that.body).results these.results those.results
    (sym (results_shown this.area.0 this.line this.body) ∙ at (codes "results") ∙ results_shown that.area.0 that.line that.body) in
    let faults = option_tells faults_data (AllByRecursion IsKeptFault) all_faults_tell (parts this.body).faults (parts that.body).faults these.faults those.faults
    (sym (faults_shown this.area.0 this.line this.body) ∙ at (codes "faults") ∙ faults_shown that.area.0 that.line that.body) in
    let known = same_parts (parts this.body) (parts that.body) values results faults in
    sym (read_back this.area.0 this.line this.body p.body)
    ∙ ap₂ reply_in (λ i name. at name i) known
    ∙ read_back that.area.0 that.line that.body q.body

pub lines_tell : LinesTellReplies
lines_tell this that p q low flat same =
    let texts = append_cancel_right (compact_text (reply_json this)) (compact_text (reply_json that)) (10 ∷ []) same in
    json_tells_reply this that p q
    (text_tells (reply_json this) (reply_json that) (reply_whole this p) (reply_whole that q) (omega (arith, reply_shallow this low)) (omega (arith, reply_shallow that flat)) texts)
