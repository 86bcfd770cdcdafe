-- What a reference by URI refers to, or that it refers to nothing.
use Rattle.std.proofs.Common.{◌≡◌, ℕ, true, List, Option, Some, None, Result, Ok, Err, codes, refl, sym, ap, subst, ◌∙◌}
use Rattle.std.specs.Prelude.{MatchOption}
use Rattle.vg_base.proofs.Plain.{same_Ok}
use Rattle.uri_links.specs.declared.fault.UriFault.{UriFault}
use Rattle.uri_links.specs.Allowed.{are_allowed, is_reference, is_absent_or}
use Rattle.uri_links.specs.Faults.{reading_fault, unless}
use Rattle.uri_links.specs.Parts.{parts}
use Rattle.uri_links.specs.Split.{before, hash}
use Rattle.uri_links.proofs.FaultLemmas.{reading_none}
use Rattle.uri_links.proofs.ReferenceLemmas.{reference_good}
use Rattle.grammar_tree.specs.declared.expansion.Goal.{Goal}
use Rattle.rule_reader.specs.References.{GoalIs, IsGoal}

-- ---- the text is read

read_whole : (o : Option UriFault) (inside uri : List ℕ) → unless o inside ≡ Ok uri → (o ≡ None) × (inside ≡ uri)
read_whole None inside uri h = (refl, same_Ok h)
read_whole (Some fault) inside uri h = absurd cc

unread : (o : Option UriFault) (inside : List ℕ) (fault : UriFault) → unless o inside ≡ Err fault → o ≡ None → ⊥
unread None inside fault h e = cc
unread (Some f) inside fault h e = cc

pub is_reference_of : (inside uri : List ℕ) → unless (reading_fault inside) inside ≡ Ok uri → is_reference uri ≡ true
is_reference_of inside uri h =
    let r = read_whole (reading_fault inside) inside uri h in subst (λ (u : List ℕ). is_reference u ≡ true) r.1 (reading_none inside r.0)

pub fragment_allowed : (uri fragment : List ℕ) → is_reference uri ≡ true → Some fragment ≡ (parts uri).fragment → are_allowed (codes "/?") fragment ≡ true
fragment_allowed uri fragment h e = subst (λ (f : Option (List ℕ)). is_absent_or (are_allowed (codes "/?")) f ≡ true) (sym e) (reference_good uri h).fragment

-- ---- what it refers to

pub goal_decided : (inside uri : List ℕ) (o : Option Goal) → unless (reading_fault inside) inside ≡ Ok uri
    → MatchOption o ((g : Goal) → GoalIs (parts uri).fragment (before hash uri) g → ⊥) (λ g. GoalIs (parts uri).fragment (before hash uri) g)
    → MatchOption o ((g : Goal) → IsGoal inside g → ⊥) (λ g. IsGoal inside g)
goal_decided inside uri None h k =
    let r = read_whole (reading_fault inside) inside uri h in
    λ g is. k g (subst (λ (u : List ℕ). GoalIs (parts u).fragment (before hash u) g) r.1 is.refers)
goal_decided inside uri (Some g) h k =
    let r = read_whole (reading_fault inside) inside uri h in
    record { readable = r.0; refers = subst (λ (u : List ℕ). GoalIs (parts u).fragment (before hash u) g) (sym r.1) k }

pub no_goal : (inside : List ℕ) (fault : UriFault) → unless (reading_fault inside) inside ≡ Err fault → (g : Goal) → IsGoal inside g → ⊥
no_goal inside fault h g is = unread (reading_fault inside) inside fault h is.readable
