-- Single values, faults and results of parses are told by their JSON.
use Rattle.std.proofs.Common.{◌≡◌, ℕ, List, [], ◌∷◌, map, Option, Some, None, chars, codes, refl, sym, ap, ap₂, ◌∙◌}
use Rattle.std.proofs.lemmas.Str.{chars-encodes}
use Rattle.std.specs.List.{AllByRecursion}
use Rattle.serde_json.specs.Data.{Num, unsigned, negative, float, Data, null, boolean, number, string, array, object, Items, no_items, item}
use Rattle.serde_json.specs.Find.{get}
use Rattle.serde_json.specs.View.{items_of}
use Rattle.script_value.proofs.SameJson.{json_tells}
use Rattle.script_value.specs.Json.{json}
use Rattle.linker.specs.declared.set_fault.SetFault.{SetFault}
use Rattle.json_reply.specs.Kept.{IsKeptFault, IsKeptResult}
use Rattle.json_reply.specs.Rows.{best_data, fault_data}
use Rattle.json_reply.specs.declared.reply.BestResult.{BestResult}
use Rattle.json_reply.specs.declared.reply.BestResult.TheVariants.{Given, Fault}
use Rattle.json_reply.specs.declared.reply.FaultText.{FaultText}
use Rattle.json_reply.proofs.Names.{fault_kind_in, fault_kind_back, tag_kind_in, tag_kind_back}

-- ---- what a member holds: a number, or the bytes of a string

abbrev number_of : Num → ℕ
number_of (unsigned n) = n
number_of (negative z) = 0
number_of (float x) = 0

abbrev pub number_in : Data → ℕ
number_in (number n) = number_of n
number_in null = 0
number_in (boolean b) = 0
number_in (string s) = 0
number_in (array ds) = 0
number_in (object ms) = 0

abbrev pub bytes_in : Data → List ℕ
bytes_in (string s) = s
bytes_in null = []
bytes_in (boolean b) = []
bytes_in (number n) = []
bytes_in (array ds) = []
bytes_in (object ms) = []

abbrev pub number_or : Option Data → ℕ
number_or None = 0
number_or (Some d) = number_in d

abbrev pub bytes_or : Option Data → List ℕ
bytes_or None = []
bytes_or (Some d) = bytes_in d

-- ---- faults of a publish

abbrev fault_in : Data → SetFault
fault_in d = record {
  uri = chars (bytes_or (get (codes "uri") d));
  place = record { line = number_or (get (codes "line") d); column = number_or (get (codes "column") d) };
  kind = fault_kind_in (bytes_or (get (codes "fault") d));
}

fault_back : (fault : SetFault) → IsKeptFault fault → fault_in (fault_data fault) ≡ fault
fault_back fault h = rw (chars-encodes fault.uri h.2, fault_kind_back fault.kind) refl

abbrev faults_in : Items → List SetFault
faults_in no_items = []
faults_in (item d ds) = fault_in d ∷ faults_in ds

faults_back : (faults : List SetFault) → AllByRecursion IsKeptFault faults → faults_in (items_of (map fault_data faults)) ≡ faults
faults_back [] h = refl
faults_back (fault ∷ faults) h = ap₂ (λ f fs. f ∷ fs) (fault_back fault h.0) (faults_back faults h.1)

pub faults_tell : (these those : List SetFault) → AllByRecursion IsKeptFault these → AllByRecursion IsKeptFault those
    → items_of (map fault_data these) ≡ items_of (map fault_data those) → these ≡ those
faults_tell these those p q e = sym (faults_back these p) ∙ ap faults_in e ∙ faults_back those q

-- ---- results of the best parses

abbrev text_in : Data → FaultText
text_in d = record {
  uri = chars (bytes_or (get (codes "uri") d));
  rule = chars (bytes_or (get (codes "rule") d));
  kind = tag_kind_in (bytes_or (get (codes "fault") d));
}

text_back : (fault : FaultText) → IsKeptResult (Fault fault) → text_in (best_data (Fault fault)) ≡ fault
text_back fault h = rw (chars-encodes fault.uri h.1, chars-encodes fault.rule h.0, tag_kind_back fault.kind) refl

some_same : (a b : Data) → Some a ≡ Some b → a ≡ b
some_same a b e = cc

result_tells : (this that : BestResult) → IsKeptResult this → IsKeptResult that → best_data this ≡ best_data that → this ≡ that
result_tells (Given v) (Given w) p q e = ap Given (json_tells v w p q (some_same (json v) (json w) (ap (get (codes "result")) e)))
result_tells (Given v) (Fault f) p q e = let none : Some (json v) ≡ None = ap (get (codes "result")) e in absurd (cc)
result_tells (Fault f) (Given w) p q e = let none : None ≡ Some (json w) = ap (get (codes "result")) e in absurd (cc)
result_tells (Fault f) (Fault g) p q e = ap Fault (sym (text_back f p) ∙ ap text_in e ∙ text_back g q)

pub results_tell : (these those : List BestResult) → AllByRecursion IsKeptResult these → AllByRecursion IsKeptResult those
    → items_of (map best_data these) ≡ items_of (map best_data those) → these ≡ those
results_tell [] [] p q e = refl
results_tell [] (s ∷ ss) p q e = absurd (cc)
results_tell (r ∷ rs) [] p q e = absurd (cc)
results_tell (r ∷ rs) (s ∷ ss) p q e = ap₂ (λ x xs. x ∷ xs) (result_tells r s p.0 q.0 (cc)) (results_tell rs ss p.1 q.1 (cc))
