-- Late faults, rule by rule. Sizes that stop past the limit tell the same as the true sums (`not_past`, `past`).
use Rattle.std.proofs.Common.{◌≡◌, inl, inr, ℕ, ◌+◌, ◌<◌, ◌≤◌, Bool, true, false, cond, List, [], ◌∷◌, ◌++◌, length, get_or, drop, min, Option, Some, None, refl, ap, sym, subst, ◌∙◌, append_assoc, arith}
use Rattle.std.specs.Prelude.{nat_le, nat_lt, ◌&&◌, slice_get}
use Rattle.std.specs.Option.{option_map}
use Rattle.std.proofs.lemmas.Bool.Decides.{same_from_decides}
use Rattle.std.proofs.lemmas.Bool.{false≢true, leb-true, le-leb, ltb-true, lt-ltb}
use Rattle.std.proofs.lemmas.Option.{same_Some, slice_get-map, slice_get_within, get_or_from_slice_get}
use Rattle.std.proofs.lemmas.List.{append-nil}
use Rattle.grammar_tree.specs.declared.doc_set.DocText.{DocText}
use Rattle.grammar_tree.specs.Alone as alone
use Rattle.grammar_tree.specs.Links.{Rules}
use Rattle.grammar_tree.specs.Size.{size_of}
use Rattle.rule_reader.proofs.Rests.{rest_next, rest_none}
use Rattle.vg_base.specs.declared.place.Place.{Place}
use Rattle.vg_base.specs.declared.link_fault.LinkKind.{LinkKind}
use Rattle.vg_base.specs.declared.link_fault.LinkKind.TheVariants.{SelfDerive, NodesOver}
use Rattle.linker.specs.declared.defined.Defined.{Defined}
use Rattle.linker.specs.declared.faults.Faults.{Faults}
use Rattle.linker.specs.declared.set_fault.SetFault.{SetFault}
use Rattle.linker.specs.Numbers.{Definition}
use Rattle.linker.specs.declared.set_fault.FaultKind.TheVariants.{Link}
use Rattle.linker.specs.SetFaults.{Told, LateFaults, fault_at, rule_fault, over}
use Rattle.linker.specs.code.Tellings.{Keeps}
use Rattle.linker.specs.code.Wholes.{defined_of}
use Rattle.linker.specs.code.Late.{AreDefined, StandsIn, TellsLate, TellsSoFar}

-- ---- the definition of a rule

pub record IsRule (set : List DocText) (definitions : List Definition) (r : ℕ) (rule : Defined) : Type 0 where
  pub d : Definition
  pub rest : drop r definitions ≡ d ∷ drop (r + 1) definitions
  pub is : rule ≡ defined_of d
  pub stands : StandsIn set d

pub rule_at : {set : List DocText} {definitions : List Definition} {defined : List Defined} (r : ℕ) (rule : Defined) → AreDefined set definitions defined → slice_get defined r ≡ Some rule
    → IsRule set definitions r rule
rule_at {set} {definitions} {defined} r rule are there = at (slice_get definitions r) refl
  where
    mapped : option_map defined_of (slice_get definitions r) ≡ Some rule
    mapped = sym (slice_get-map defined_of definitions r) ∙ ap (λ all. slice_get all r) (sym are.kept) ∙ there

    at : (o : Option Definition) → slice_get definitions r ≡ o → IsRule set definitions r rule
    at (Some d) is =
        let within : r < length definitions = slice_get_within definitions r d is in
        let here : get_or definitions r d ≡ d = get_or_from_slice_get definitions r d d is in
        record {
          d = d;
          rest = rest_next definitions r d within (sym here);
          is = same_Some rule (defined_of d) (sym mapped ∙ ap (option_map defined_of) is);
          stands = subst (StandsIn set) here (are.stand r d within);
        }
    at None is = let none : Some rule ≡ None = sym mapped ∙ ap (option_map defined_of) is in cc

-- the key under which it stands
pub key_of : {set : List DocText} {definitions : List Definition} {r : ℕ} {rule : Defined} (doc : DocText) (is : IsRule set definitions r rule) → slice_get set rule.doc.0 ≡ Some doc → doc.key ≡ is.d.key
key_of {set} {definitions} {r} {rule} doc is there =
    let place : rule.doc.0 ≡ is.d.x = ap (λ rule. rule.doc.0) is.is in
    ap (λ doc. doc.key) (same_Some doc is.stands.doc (sym there ∙ ap (slice_get set) place ∙ is.stands.there)) ∙ is.stands.key

-- ---- sizes that stop

not_past : (n total before : ℕ) → before ≡ min total (n + 1) → nat_le before n ≡ nat_le total n
not_past n total before e =
    same_from_decides {P = total ≤ n} (nat_le before n) (nat_le total n)
    ((λ t. let low : before ≤ n = leb-true before n t in omega arith), (λ low. let le : before ≤ n = omega arith in le-leb before n le)) (leb-true total n, le-leb total n)

past : (n sum next : ℕ) → next ≡ min sum (n + 1) → nat_lt n next ≡ nat_lt n sum
past n sum next e =
    same_from_decides {P = n < sum} (nat_lt n next) (nat_lt n sum)
    ((λ t. let high : n < next = ltb-true n next t in omega arith), (λ high. let lt : n < next = omega arith in lt-ltb n next lt)) (ltb-true n sum, lt-ltb n sum)

-- a sum of sizes that stop is a true sum that stops
pub sum_stops : {before own next : ℕ} (past total size : ℕ) → before ≡ min total past → own ≡ min size past → next ≡ min (before + own) past → next ≡ min (total + size) past
sum_stops past total size e f g = omega arith

-- the fault of sizes that stop is that of the true ones
pub over_same : (total before next : ℕ) (d : Definition) → before ≡ min total 65537 → next ≡ min (total + size_of d.rule.body) 65537
    → cond (nat_le before 65536 && nat_lt 65536 next) (rule_fault d NodesOver ∷ []) [] ≡ over total d
over_same total before next d e f =
    ap (λ b. cond (b && nat_lt 65536 next) (rule_fault d NodesOver ∷ []) []) (not_past 65536 total before e)
    ∙ ap (λ b. cond (nat_le total 65536 && b) (rule_fault d NodesOver ∷ []) []) (past 65536 (total + size_of d.rule.body) next f)

-- ---- one rule more

-- told under this key and at this place, it is told where the rule is defined
pub told_there : {key : List ℕ} {place : Place} (b : Bool) (d : Definition) (kind : LinkKind) → key ≡ d.key → place ≡ d.rule.place → cond b (fault_at key place (Link kind) ∷ []) [] ≡ cond b (rule_fault d kind ∷ []) []
told_there b d kind e f = λ i. cond b (fault_at (e i) (f i) (Link kind) ∷ []) []

-- a mark that says whether it holds tells it
pub told_by : {P : Type 0} (mark : Bool) (d : Definition) (kind : LinkKind) → (mark ≡ true → P) → (P → mark ≡ true) → Told P d kind (cond mark (rule_fault d kind ∷ []) [])
told_by true d kind to from = inl (to refl, refl)
told_by false d kind to from = inr ((λ p. false≢true (from p)), refl)

-- what is told of a rule before which rules of this size stand
pub record TellsOne (L : Rules) (d : Definition) (r total : ℕ) (now new : Faults) : Type 0 where
  pub own : List SetFault
  pub is : Told (alone.SelfDerive L (record { 0 = r })) d SelfDerive own
  pub keeps : (all : List SetFault) → Keeps all now → Keeps ((all ++ own) ++ over total d) new

pub late_none : (L : Rules) (definitions : List Definition) (faults : Faults) → TellsSoFar L definitions faults 0 0 faults
late_none L definitions faults = record { late = []; total = 0; size = omega arith; goes_on = λ others h. h; keeps = λ all keeps. subst (λ fs. Keeps fs faults) (sym (append-nil all)) keeps }

pub late_next : {L : Rules} {definitions : List Definition} {old now new : Faults} {r before next : ℕ} (d : Definition) (so : TellsSoFar L definitions old r before now) → drop r definitions ≡ d ∷ drop (r + 1) definitions
    → TellsOne L d r so.total now new → next ≡ min (so.total + size_of d.rule.body) 65537 → TellsSoFar L definitions old (r + 1) next new
late_next {L} {definitions} {old} {now} {new} {r} d so rest one size =
    let mine = one.own in
    let theirs = over so.total d in
    record {
      late = so.late ++ (mine ++ theirs);
      total = so.total + size_of d.rule.body;
      size = size;
      goes_on = λ others h.
          let on : LateFaults L r so.total (d ∷ drop (r + 1) definitions) (mine ++ (theirs ++ others)) = (mine, others, one.is, h, refl) in
          let all = so.goes_on (mine ++ (theirs ++ others)) (subst (λ ds. LateFaults L r so.total ds (mine ++ (theirs ++ others))) (sym rest) on) in
          subst (λ fs. LateFaults L 0 0 definitions fs) (sym (append_assoc so.late (mine ++ theirs) others ∙ ap (λ fs. so.late ++ fs) (append_assoc mine theirs others))) all;
      keeps = λ all keeps.
          subst (λ fs. Keeps fs new) (append_assoc (all ++ so.late) mine theirs ∙ append_assoc all so.late (mine ++ theirs)) (one.keeps (all ++ so.late) (so.keeps all keeps));
    }

pub late_all : {L : Rules} {definitions : List Definition} {old new : Faults} {r before : ℕ} → TellsSoFar L definitions old r before new → length definitions ≤ r → TellsLate L definitions old new
late_all {L} {definitions} {r = r} so end =
    let whole = so.goes_on [] (subst (λ ds. LateFaults L r so.total ds []) (sym (rest_none definitions r end)) refl) in
    (so.late, subst (λ fs. LateFaults L 0 0 definitions fs) (append-nil so.late) whole, so.keeps)
