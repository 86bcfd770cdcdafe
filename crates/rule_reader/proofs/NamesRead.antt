-- The names of rules, read one after another into a map.
use Rattle.std.proofs.Common.{◌≡◌, ◌⊎◌, inl, inr, ℕ, zero, suc, ◌<◌, Bool, true, false, List, [], ◌∷◌, ◌++◌, length, get_or, Option, Some, None, refl, sym, ap, subst, ◌∙◌, append_assoc, arith}
use Rattle.std.specs.Prelude.{Contains, MatchBool, not, is_some, bytes_eq}
use Rattle.std.specs.declared.cmp.Ordering.{Ordering}
use Rattle.std.specs.declared.cmp.Ordering.TheVariants.{Less, Equal, Greater}
use Rattle.std.specs.Ordering.{is_eq}
use Rattle.std.proofs.lemmas.Bool.{false≢true}
use Rattle.std.proofs.lemmas.List.{append-nil}
use Rattle.std.proofs.lemmas.List.Elements.{Contains-append_left, Contains-append_right, Contains-append_cases}
use Rattle.std.proofs.lemmas.Map.Text.{is_eq-slice_cmp}
use Rattle.std.proofs.lemmas.Slice.Eq.{bytes_eq-Decides}
use Rattle.vg_base.specs.Pairs.{find, put}
use Rattle.vg_base.specs.declared.doc_fault.DocKind.TheVariants.{RuleTwice, Reserved, RootMissing}
use Rattle.vg_base.specs.declared.doc_fault.DocFault.{DocFault}
use Rattle.abnf_lexer.specs.declared.lexemes.Spanned.{Spanned}
use Rattle.abnf_parser.specs.declared.written.WrittenRule.{WrittenRule}
use Rattle.rule_reader.specs.Leaves.{HasInside}
use Rattle.rule_reader.specs.References.{specials}
use Rattle.rule_reader.specs.LeafFaults.{Told}
use Rattle.rule_reader.specs.Meaning.{IsThere}
use Rattle.rule_reader.specs.DocumentFaults.{NamesFaults, RootFaults}
use Rattle.rule_reader.specs.code.Walks.{told, Adds, IsReadAs, AreKept, NamesSoFar, NamesRead}
use Rattle.rule_reader.proofs.Puts.{order, itself, find-put, find-put_other}
use Rattle.rule_reader.proofs.Told.{adds_none, adds_both, told_where, told_unless}

-- ---- names in the map

same_name : (name other : List ℕ) → order name other ≡ Equal → name ≡ other
same_name name other e = (bytes_eq-Decides name other).0 (sym (is_eq-slice_cmp name other) ∙ ap is_eq e)

none_contained : (name : List ℕ) → Contains {X = List ℕ} [] name → ⊥
none_contained name h = omega (arith, h.1)

one_contained : (name other : List ℕ) → Contains (name ∷ []) other → name ≡ other
one_contained name other h = at h.0 h.1 h.2
  where
    at : (k : ℕ) → k < 1 → get_or (name ∷ []) k other ≡ other → name ≡ other
    at zero below e = e
    at (suc k) below e = absurd (omega arith)

other_kept : (names : List (List ℕ)) (map : List (List ℕ × Unit {0})) (name other : List ℕ) → AreKept names map → (order other name ≡ Equal → ⊥)
    → (Contains (names ++ name ∷ []) other → is_some (find other (put name tt map)) ≡ true) × (is_some (find other (put name tt map)) ≡ true → Contains (names ++ name ∷ []) other)
other_kept names map name other kept apart =
    let same = ap is_some (find-put_other name other tt map apart) in
    ((λ h. same ∙ (kept other).0 (in_names (Contains-append_cases names (name ∷ []) other h))), (λ h. Contains-append_left names (name ∷ []) other ((kept other).1 (sym same ∙ h))))
  where
    in_names : Contains names other ⊎ Contains (name ∷ []) other → Contains names other
    in_names (inl h) = h
    in_names (inr h) = absurd (apart (subst (λ (n : List ℕ). order other n ≡ Equal) (sym (one_contained name other h)) (itself other)))

same_kept : (names : List (List ℕ)) (map : List (List ℕ × Unit {0})) (name other : List ℕ) → name ≡ other
    → (Contains (names ++ name ∷ []) other → is_some (find other (put name tt map)) ≡ true) × (is_some (find other (put name tt map)) ≡ true → Contains (names ++ name ∷ []) other)
same_kept names map name other same = (
  (λ h. subst (λ (n : List ℕ). is_some (find n (put name tt map)) ≡ true) same (ap is_some (find-put name tt map))),
  (λ h. Contains-append_right names (name ∷ []) other (subst (λ (n : List ℕ). Contains (name ∷ []) n) same (0, omega arith, refl))),
)

kept_more : (names : List (List ℕ)) (map : List (List ℕ × Unit {0})) (name : List ℕ) → AreKept names map → AreKept (names ++ name ∷ []) (put name tt map)
kept_more names map name kept other = by_order (order other name) refl
  where
    by_order : (o : Ordering) → order other name ≡ o
        → (Contains (names ++ name ∷ []) other → is_some (find other (put name tt map)) ≡ true) × (is_some (find other (put name tt map)) ≡ true → Contains (names ++ name ∷ []) other)
    by_order Equal e = same_kept names map name other (sym (same_name other name e))
    by_order Less e = other_kept names map name other kept (λ (f : order other name ≡ Equal). let g : Less ≡ Equal = sym e ∙ f in cc)
    by_order Greater e = other_kept names map name other kept (λ (f : order other name ≡ Equal). let g : Greater ≡ Equal = sym e ∙ f in cc)

kept_decides : (names : List (List ℕ)) (map : List (List ℕ × Unit {0})) (name : List ℕ) → AreKept names map → (b : Bool) → b ≡ is_some (find name map)
    → MatchBool b (Contains names name) (Contains names name → ⊥)
kept_decides names map name kept true e = (kept name).1 (sym e)
kept_decides names map name kept false e = λ h. false≢true (e ∙ (kept name).0 h)

-- ---- one name after another

pub names_none : (text : List ℕ) (all : List WrittenRule) (found : Option DocFault) → NamesSoFar text all all [] found found
names_none text all found = record { names = []; faults = []; adds = adds_none found; kept = λ name. ((λ h. absurd (none_contained name h)), (λ h. absurd (false≢true h))); goes_on = λ more others h. h }

pub names_next : {text : List ℕ} {all rest : List WrittenRule} {map : List (List ℕ × Unit {0})} {old mid first new : Option DocFault} {twice : Bool} (special : Bool) (rule : WrittenRule) (name : List ℕ)
    → NamesSoFar text all (rule ∷ rest) map old mid → HasInside text rule.name name
    → (twice ≡ is_some (find name map)) × MatchBool special (Contains specials name) (Contains specials name → ⊥)
    → Adds (told twice rule.name RuleTwice) mid first × Adds (told special rule.name Reserved) first new → NamesSoFar text all rest (put name tt map) old new
names_next {text} {all} {rest} {map} {old} {mid} {first} {new} {twice} special rule name h has tests adds =
    let again = told twice rule.name RuleTwice in
    let reserved = told special rule.name Reserved in
    record {
      names = h.names ++ name ∷ [];
      faults = h.faults ++ (again ++ reserved);
      adds = adds_both h.faults (again ++ reserved) old mid new h.adds (adds_both again reserved mid first new adds.0 adds.1);
      kept = kept_more h.names map name h.kept;
      goes_on = λ more others k.
          let on = h.goes_on (name ∷ more) ((again ++ reserved) ++ others) (
            again,
            reserved,
            others,
            has,
            told_where (Contains h.names name) twice rule.name RuleTwice (kept_decides h.names map name h.kept twice tests.0),
            told_where (Contains specials name) special rule.name Reserved tests.1,
            k,
            append_assoc again reserved others,
          ) in
          subst (λ (ns : List (List ℕ)). NamesFaults text [] all ns ((h.faults ++ (again ++ reserved)) ++ others)) (sym (append_assoc h.names (name ∷ []) more))
          (subst (λ (fs : List DocFault). NamesFaults text [] all (h.names ++ name ∷ more) fs) (sym (append_assoc h.faults (again ++ reserved) others)) on);
    }

pub names_all : (text : List ℕ) (all rest : List WrittenRule) (map : List (List ℕ × Unit {0})) (old new : Option DocFault) → rest ≡ [] → NamesSoFar text all rest map old new → NamesRead text all map old new
names_all text all rest map old new e h =
    let whole = h.goes_on [] [] (subst (λ (rs : List WrittenRule). NamesFaults text h.names rs [] []) (sym e) refl) in
    record {
      names = h.names;
      faults = h.faults;
      are = subst (λ (ns : List (List ℕ)). NamesFaults text [] all ns h.faults) (append-nil h.names) (subst (λ (fs : List DocFault). NamesFaults text [] all (h.names ++ []) fs) (append-nil h.faults) whole);
      adds = h.adds;
      kept = h.kept;
    }

-- ---- the root rule

pub root_read : {text root : List ℕ} {old new : Option DocFault} {b : Bool} (span : Spanned) (names : List (List ℕ)) (map : List (List ℕ × Unit {0})) → HasInside text span root
    → AreKept names map → b ≡ is_some (find root map) → Adds (told (not b) span RootMissing) old new
    → IsReadAs (RootFaults text names (Some span)) (IsThere text (Some span)) old new (Some root)
root_read {text} {root} {old} {new} {b} span names map has kept e adds =
    record { faults = told (not b) span RootMissing; are = (root, has, told_unless (Contains names root) b span RootMissing (kept_decides names map root kept b e)); adds = adds; is = λ n. has }
