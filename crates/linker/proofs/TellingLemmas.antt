-- Faults while more are told, and entries that aren't staged.
use Rattle.std.proofs.Common.{◌≡◌, ℕ, ◌+◌, ◌<◌, ◌≤◌, List, [], ◌∷◌, ◌++◌, length, get_or, take, min, ap, sym, ◌∙◌, append_assoc, arith, length-append}
use Rattle.std.proofs.lemmas.List.{length-take, take-append-le, take_all, map-append}
use Rattle.rule_reader.proofs.Rests.{front_next}
use Rattle.linker.specs.declared.set_fault.SetFault.{SetFault}
use Rattle.linker.specs.declared.faults.Faults.{Faults}
use Rattle.linker.specs.SetFaults.{entry_faults}
use Rattle.linker.specs.code.Tellings.{Keeps}

-- ---- one fault more

-- while there are few, it is kept
pub kept_more : {all : List SetFault} {old : Faults} (f : SetFault) (new : Faults) → Keeps all old → length old.first < 64 → (new.first ≡ old.first ++ f ∷ []) × (new.count ≡ old.count + 1) → Keeps (all ++ f ∷ []) new
kept_more {all} {old} f new keeps few e =
    let size : length old.first ≡ min 64 (length all) = ap length keeps.first ∙ length-take 64 all in
    let short : length all ≤ 64 = omega arith in
    let longer : length (all ++ f ∷ []) ≤ 64 = omega (arith, length-append all (f ∷ [])) in
    record {
      first = e.0 ∙ ap (λ front. front ++ f ∷ []) (keeps.first ∙ take_all 64 all short) ∙ sym (take_all 64 (all ++ f ∷ []) longer);
      count = omega (arith, e.1, keeps.count, length-append all (f ∷ []));
    }

-- else it is counted
pub counted_more : {all : List SetFault} {old : Faults} (f : SetFault) (new : Faults) → Keeps all old → 64 ≤ length old.first → (new.first ≡ old.first) × (new.count ≡ old.count + 1) → Keeps (all ++ f ∷ []) new
counted_more {all} {old} f new keeps many e =
    let size : length old.first ≡ min 64 (length all) = ap length keeps.first ∙ length-take 64 all in
    let long : 64 ≤ length all = omega arith in
    record { first = e.0 ∙ keeps.first ∙ sym (take-append-le 64 all (f ∷ []) long); count = omega (arith, e.1, keeps.count, length-append all (f ∷ [])) }

-- ---- entries that aren't staged

-- the fault of one more follows those of the entries before it
pub entries_more : (keys : List (List ℕ)) (i : ℕ) (key : List ℕ) (all : List SetFault) → i < length keys → key ≡ get_or keys i key
    → (all ++ entry_faults (take i keys)) ++ entry_faults (key ∷ []) ≡ all ++ entry_faults (take (i + 1) keys)
entries_more keys i key all below e =
    append_assoc all (entry_faults (take i keys)) (entry_faults (key ∷ []))
    ∙ ap (λ faults. all ++ faults) (sym (ap entry_faults (front_next keys i key below e) ∙ map-append _ (take i keys) (key ∷ [])))
