-- The JSON of a reply nests three levels deeper than its values, at most.
use Rattle.std.proofs.Common.{ℕ, ◌≤◌, ◌==◌, List, [], ◌∷◌, map, Bool, true, false, if◌then◌else◌, Option, Some, None, option_map, IfSome, arith}
use Rattle.std.specs.List.{AllByRecursion}
use Rattle.serde_json.specs.Data.{Data, string, depth, items_depth, members_depth}
use Rattle.serde_json.specs.View.{items_of}
use Rattle.uri_links.specs.Faults.{fault_name}
use Rattle.uri_links.specs.declared.fault.UriFault.{UriFault}
use Rattle.vg_base.specs.declared.numbers.VersionNo.{VersionNo}
use Rattle.script_value.proofs.Shown.{json_shallow}
use Rattle.linker.specs.declared.set_fault.SetFault.{SetFault}
use Rattle.command_reader.specs.Written.{Field, members_of, number_data, area_field}
use Rattle.json_reply.specs.Kept.{IsShallow, IsShallowBody, IsShallowResult}
use Rattle.json_reply.specs.Line.{reply_json}
use Rattle.json_reply.specs.Rows.{best_data, fault_data, fields_of}
use Rattle.json_reply.specs.declared.reply.BestResult.{BestResult}
use Rattle.json_reply.specs.declared.reply.BestResult.TheVariants.{Given, Fault}
use Rattle.json_reply.specs.declared.reply.Body.{Body}
use Rattle.json_reply.specs.declared.reply.Body.TheVariants.{Staged, Dropped, Opened, Closed, Ran, Memory, Published, Activated, Deactivated, Match, Best, NoMatch, TagFault, Refused, Faulty}
use Rattle.json_reply.specs.declared.reply.Reply.{Reply}

-- the value of a member nests at most so deep: the array of the results is two levels around a value
abbrev IsLow : Data → Type 0
IsLow d = depth d ≤ 66

abbrev AreLow : List Field → Type 0
AreLow fs = AllByRecursion (λ (f : Field). IfSome f.1 IsLow) fs

low_members : (fs : List Field) → AreLow fs → members_depth (members_of fs) ≤ 66
low_members [] h = omega arith
low_members ((name, None) ∷ fs) h = low_members fs h.1
low_members ((name, Some d) ∷ fs) h = omega (arith, h.0, low_members fs h.1)

low_count : (count : Option ℕ) → IfSome (option_map number_data count) IsLow
low_count None = tt
low_count (Some n) = omega arith

low_version : (version : Option VersionNo) → IfSome (option_map (λ (v : VersionNo). number_data v.0) version) IsLow
low_version None = tt
low_version (Some v) = omega arith

low_cause : (cause : Option UriFault) → IfSome (option_map (λ fault. string (fault_name fault)) cause) IsLow
low_cause None = tt
low_cause (Some fault) = omega arith

low_area : (first : Bool) (n : ℕ) → IfSome (if first then None else Some (number_data n)) IsLow
low_area true n = tt
low_area false n = omega arith

low_result : (r : BestResult) → IsShallowResult r → depth (best_data r) ≤ 65
low_result (Given meant) h = omega (arith, h, json_shallow meant)
low_result (Fault fault) h = omega arith

low_results : (rs : List BestResult) → AllByRecursion IsShallowResult rs → items_depth (items_of (map best_data rs)) ≤ 65
low_results [] h = omega arith
low_results (r ∷ rs) h = omega (arith, low_result r h.0, low_results rs h.1)

low_faults : (fs : List SetFault) → items_depth (items_of (map fault_data fs)) ≤ 65
low_faults [] = omega arith
low_faults (f ∷ fs) = omega (arith, low_faults fs)

-- a number or a text doesn't nest
flat : 0 ≤ 66
flat = omega arith

low_fields : (line : ℕ) (b : Body) → IsShallowBody b → AreLow (fields_of line b)
low_fields line Staged h = (flat, (flat, tt))
low_fields line Dropped h = (flat, (flat, tt))
low_fields line Opened h = (flat, (flat, tt))
low_fields line Closed h = (flat, (flat, tt))
low_fields line Ran h = (flat, (flat, tt))
low_fields line Memory h = (flat, (flat, tt))
low_fields line (Published version documents) h = (flat, (flat, (flat, (flat, tt))))
low_fields line (Activated version) h = (flat, (flat, (flat, tt)))
low_fields line (Deactivated version) h = (flat, (flat, (flat, tt)))
low_fields line (Match version uri rule meant missing) h =
    (low_count missing, (flat, (flat, (omega (arith, h, json_shallow meant), (flat, (flat, (flat, tt)))))))
low_fields line (Best version uri rule results missing) h =
    (low_count missing, (flat, (flat, (omega (arith, low_results results h), (flat, (flat, (flat, tt)))))))
low_fields line (NoMatch version missing) h = (low_count missing, (flat, (flat, (flat, tt))))
low_fields line (TagFault version uri rule tag missing) h = (flat, (low_count missing, (flat, (flat, (flat, (flat, (flat, tt)))))))
low_fields line (Refused why cause version) h = (low_cause cause, (flat, (flat, (flat, (low_version version, tt)))))
low_fields line (Faulty first count) h = (flat, (omega (arith, low_faults first), (flat, (flat, (flat, tt)))))

pub reply_shallow : (r : Reply) → IsShallow r → depth (reply_json r) ≤ 67
reply_shallow r h = omega (arith, low_members (area_field r.area.0 ∷ fields_of r.line r.body) (low_area (r.area.0 == 0) r.area.0, low_fields r.line r.body h))
