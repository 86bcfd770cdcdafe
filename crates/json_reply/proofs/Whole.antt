-- The JSON of a kept reply has whole numbers alone, so no float.
use Rattle.std.proofs.Common.{◌≡◌, ℕ, ◌==◌, List, [], ◌∷◌, map, Bool, true, false, if◌then◌else◌, ◌||◌, Option, Some, None, option_map, IfSome, refl, ap₂}
use Rattle.std.specs.List.{AllByRecursion}
use Rattle.serde_json.specs.Data.{Num, unsigned, negative, float, Data, null, boolean, number, string, array, object, Items, no_items, item, Members, no_members, member}
use Rattle.serde_json.specs.Find.{is_float}
use Rattle.serde_json.specs.View.{items_of}
use Rattle.serde_json.specs.Written.{has_float, items_have_float, members_have_float}
use Rattle.uri_links.specs.Faults.{fault_name}
use Rattle.uri_links.specs.declared.fault.UriFault.{UriFault}
use Rattle.vg_base.specs.declared.numbers.VersionNo.{VersionNo}
use Rattle.script_value.proofs.Shown.{json_whole}
use Rattle.script_value.proofs.Whole.{IsWholeNumber, IsWhole, ItemsAreWhole, MembersAreWhole}
use Rattle.linker.specs.declared.set_fault.SetFault.{SetFault}
use Rattle.command_reader.specs.Written.{Field, members_of, number_data, area_field}
use Rattle.json_reply.specs.Kept.{IsCount, IsKept, IsKeptBody, IsKeptFault, IsKeptResult, IsNumber}
use Rattle.json_reply.specs.Line.{reply_json}
use Rattle.json_reply.specs.Rows.{best_data, fault_data, fields_of}
use Rattle.json_reply.specs.declared.reply.BestResult.{BestResult}
use Rattle.json_reply.specs.declared.reply.BestResult.TheVariants.{Given, Fault}
use Rattle.json_reply.specs.declared.reply.Body.{Body}
use Rattle.json_reply.specs.declared.reply.Body.TheVariants.{Staged, Dropped, Opened, Closed, Ran, Memory, Published, Activated, Deactivated, Match, Best, NoMatch, TagFault, Refused, Faulty}
use Rattle.json_reply.specs.declared.reply.Reply.{Reply}

-- ---- whole numbers are no floats

num_no_float : (n : Num) → IsWholeNumber n → is_float n ≡ false
num_no_float (unsigned n) h = refl
num_no_float (negative z) h = refl
num_no_float (float x) h = absurd h

neither : (a b : Bool) → a ≡ false → b ≡ false → (a || b) ≡ false
neither a b p q = ap₂ (λ x y. x || y) p q

mutual
  pub no_float : (d : Data) → IsWhole d → has_float d ≡ false
  no_float null h = refl
  no_float (boolean b) h = refl
  no_float (number n) h = num_no_float n h
  no_float (string s) h = refl
  no_float (array ds) h = items_no_float ds h
  no_float (object ms) h = members_no_float ms h

  items_no_float : (ds : Items) → ItemsAreWhole ds → items_have_float ds ≡ false
  items_no_float no_items h = refl
  items_no_float (item d ds) h = neither _ _ (no_float d h.0) (items_no_float ds h.1)

  members_no_float : (ms : Members) → MembersAreWhole ms → members_have_float ms ≡ false
  members_no_float no_members h = refl
  members_no_float (member k d ms) h = neither _ _ (no_float d h.0) (members_no_float ms h.1)

-- ---- fields

abbrev AreWhole : List Field → Type 0
AreWhole fs = AllByRecursion (λ (f : Field). IfSome f.1 IsWhole) fs

whole_members : (fs : List Field) → AreWhole fs → MembersAreWhole (members_of fs)
whole_members [] h = tt
whole_members ((name, None) ∷ fs) h = whole_members fs h.1
whole_members ((name, Some d) ∷ fs) h = (h.0, whole_members fs h.1)

whole_count : (count : Option ℕ) → IsCount count → IfSome (option_map number_data count) IsWhole
whole_count None h = tt
whole_count (Some n) h = h

whole_version : (version : Option VersionNo) → IfSome version (λ (v : VersionNo). IsNumber v.0)
    → IfSome (option_map (λ (v : VersionNo). number_data v.0) version) IsWhole
whole_version None h = tt
whole_version (Some v) h = h

whole_cause : (cause : Option UriFault) → IfSome (option_map (λ fault. string (fault_name fault)) cause) IsWhole
whole_cause None = tt
whole_cause (Some fault) = tt

whole_area : (first : Bool) (n : ℕ) → IsNumber n → IfSome (if first then None else Some (number_data n)) IsWhole
whole_area true n h = tt
whole_area false n h = h

whole_result : (r : BestResult) → IsKeptResult r → IsWhole (best_data r)
whole_result (Given meant) h = (json_whole meant h, tt)
whole_result (Fault fault) h = (tt, (tt, (tt, tt)))

whole_results : (rs : List BestResult) → AllByRecursion IsKeptResult rs → ItemsAreWhole (items_of (map best_data rs))
whole_results [] h = tt
whole_results (r ∷ rs) h = (whole_result r h.0, whole_results rs h.1)

whole_faults : (fs : List SetFault) → AllByRecursion IsKeptFault fs → ItemsAreWhole (items_of (map fault_data fs))
whole_faults [] h = tt
whole_faults (f ∷ fs) h = ((h.0.0, (tt, (h.0.1, (tt, tt)))), whole_faults fs h.1)

whole_fields : (line : ℕ) (b : Body) → IsNumber line → IsKeptBody b → AreWhole (fields_of line b)
whole_fields line Staged l h = (l, (tt, tt))
whole_fields line Dropped l h = (l, (tt, tt))
whole_fields line Opened l h = (l, (tt, tt))
whole_fields line Closed l h = (l, (tt, tt))
whole_fields line Ran l h = (l, (tt, tt))
whole_fields line Memory l h = (l, (tt, tt))
whole_fields line (Published version documents) l h = (h.0, (l, (tt, (h.1, tt))))
whole_fields line (Activated version) l h = (l, (tt, (h, tt)))
whole_fields line (Deactivated version) l h = (l, (tt, (h, tt)))
whole_fields line (Match version uri rule meant missing) l h = (whole_count missing h.0, (l, (tt, (json_whole meant h.1, (tt, (tt, (h.4, tt)))))))
whole_fields line (Best version uri rule results missing) l h = (whole_count missing h.0, (l, (tt, (whole_results results h.1, (tt, (tt, (h.4, tt)))))))
whole_fields line (NoMatch version missing) l h = (whole_count missing h.0, (l, (tt, (h.1, tt))))
whole_fields line (TagFault version uri rule tag missing) l h = (tt, (whole_count missing h.0, (l, (tt, (tt, (tt, (h.3, tt)))))))
whole_fields line (Refused why cause version) l h = (whole_cause cause, (l, (tt, (tt, (whole_version version h, tt)))))
whole_fields line (Faulty first count) l h = (h.0, (whole_faults first h.1, (l, (tt, (tt, tt)))))

pub reply_whole : (r : Reply) → IsKept r → IsWhole (reply_json r)
reply_whole r h = whole_members (area_field r.area.0 ∷ fields_of r.line r.body) (whole_area (r.area.0 == 0) r.area.0 h.area, whole_fields r.line r.body h.line h.body)
