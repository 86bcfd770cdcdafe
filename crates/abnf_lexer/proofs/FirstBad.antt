-- Bad characters: of several fronts together (`bad_characters-append`), and the first of all where the walk stops at it (`first_bad`).
use Rattle.std.proofs.Common.{◌≡◌, ℕ, zero, suc, ◌+◌, Bool, true, false, not, cond, List, [], ◌∷◌, ◌++◌, length, take, Option, Some, None, refl, sym, ap, subst, ◌∙◌, arith, append_assoc}
use Rattle.std.specs.Prelude.{All, Contains, nat_lt}
use Rattle.std.specs.List.{prefix_len, list_all}
use Rattle.std.proofs.lemmas.Bool.{and_parts}
use Rattle.std.proofs.lemmas.Bool.Decides.{nat_tests}
use Rattle.std.proofs.lemmas.List.{append-nil}
use Rattle.std.proofs.lemmas.List.Elements.{All-append, Contains-append_left}
use Rattle.vg_base.specs.declared.doc_fault.DocFault.{DocFault}
use Rattle.vg_base.specs.declared.doc_fault.DocKind.TheVariants.{BadCharacter}
use Rattle.vg_base.specs.Characters.{is_char}
use Rattle.vg_base.specs.Faults.{doc_fault_order}
use Rattle.vg_base.specs.First.{IsFirst}
use Rattle.abnf_lexer.specs.Faults.{told, bad_characters}
use Rattle.abnf_lexer.proofs.Later.{fault, NotBefore, bad_later, settled_here}

pub bad_characters-append : (front xs ys : List ℕ) → bad_characters front (xs ++ ys) ≡ bad_characters front xs ++ bad_characters (front ++ xs) ys
bad_characters-append front [] ys = ap (λ (l : List ℕ). bad_characters l ys) (sym (append-nil front))
bad_characters-append front (c ∷ xs) ys =
    ap (λ (fs : List DocFault). told (not (is_char c)) front BadCharacter ++ fs)
    (bad_characters-append (front ++ c ∷ []) xs ys ∙ ap (λ (l : List ℕ). bad_characters (front ++ c ∷ []) xs ++ bad_characters l ys) (append_assoc front (c ∷ []) xs))
    ∙ sym (append_assoc (told (not (is_char c)) front BadCharacter) (bad_characters (front ++ c ∷ []) xs) (bad_characters (front ++ c ∷ xs) ys))

-- characters that a document may have
pub none_bad : (front xs : List ℕ) → list_all is_char xs ≡ true → bad_characters front xs ≡ []
none_bad front [] e = refl
none_bad front (c ∷ xs) e =
    let both = and_parts (is_char c) (list_all is_char xs) e in
    (λ i. told (not (both.0 i)) front BadCharacter ++ none_bad (front ++ c ∷ []) xs both.1 i)

pub contains_one : (f g : DocFault) → Contains (g ∷ []) f → f ≡ g
contains_one f g (zero, h, e) = sym e
contains_one f g (suc k, h, e) = absurd (omega arith)

-- the first of one fault, before others that are no sooner
pub before_others : (f : DocFault) (later : List DocFault) (r : Option DocFault) → All (NotBefore f) later → IsFirst doc_fault_order (f ∷ []) r → IsFirst doc_fault_order (f ∷ later) r
before_others f later None all h = absurd cc
before_others f later (Some g) all h =
    (Contains-append_left (f ∷ []) later g h.0, All-append (NotBefore g) (f ∷ []) later h.1 (subst (λ (x : DocFault). All (NotBefore x) later) (sym (contains_one g f h.0)) all))

abbrev Stop : (front text : List ℕ) (n : ℕ) → List DocFault
Stop front text n = told (nat_lt n (length text)) (front ++ take n text) BadCharacter

one : (n : ℕ) → 1 + n ≡ suc n
one n = omega arith

longer : (m n : ℕ) → nat_lt (suc m) (suc n) ≡ nat_lt m n
longer m n = grind (arith, nat_tests)

-- one character before a text whose first fault is known
one_more : (front cs : List ℕ) (c : ℕ) (r : Option DocFault) (b : Bool)
    → (IsFirst doc_fault_order (Stop (front ++ c ∷ []) cs (prefix_len is_char cs)) r → IsFirst doc_fault_order (bad_characters (front ++ c ∷ []) cs) r)
    → IsFirst doc_fault_order (Stop front (c ∷ cs) (cond b (1 + prefix_len is_char cs) 0)) r → IsFirst doc_fault_order (told (not b) front BadCharacter ++ bad_characters (front ++ c ∷ []) cs) r
one_more front cs c r true others h =
    let n = prefix_len is_char cs in
    let at_n : IsFirst doc_fault_order (Stop front (c ∷ cs) (suc n)) r = subst (λ m. IsFirst doc_fault_order (Stop front (c ∷ cs) m) r) (one n) h in
    let by_n : IsFirst doc_fault_order (told (nat_lt n (length cs)) (front ++ c ∷ take n cs) BadCharacter) r = subst (λ b. IsFirst doc_fault_order (told b (front ++ c ∷ take n cs) BadCharacter) r) (longer n (length cs)) at_n in
    others (subst (λ (xs : List ℕ). IsFirst doc_fault_order (told (nat_lt n (length cs)) xs BadCharacter) r) (sym (append_assoc front (c ∷ []) (take n cs))) by_n)
one_more front cs c r false others h =
    before_others (fault front BadCharacter) (bad_characters (front ++ c ∷ []) cs) r (bad_later front (c ∷ []) cs (fault front BadCharacter) (settled_here front))
    (subst (λ (xs : List ℕ). IsFirst doc_fault_order (told true xs BadCharacter) r) (append-nil front) (subst (λ b. IsFirst doc_fault_order (told b (front ++ []) BadCharacter) r) (some (length cs)) h))
  where
    some : (n : ℕ) → nat_lt 0 (suc n) ≡ true
    some n = grind (arith, nat_tests)

pub first_bad : (front text : List ℕ) (r : Option DocFault) → IsFirst doc_fault_order (Stop front text (prefix_len is_char text)) r → IsFirst doc_fault_order (bad_characters front text) r
first_bad front [] r h = subst (λ b. IsFirst doc_fault_order (told b (front ++ []) BadCharacter) r) none h
  where
    none : nat_lt 0 0 ≡ false
    none = refl
first_bad front (c ∷ cs) r h = one_more front cs c r (is_char c) (first_bad (front ++ c ∷ []) cs r) h
