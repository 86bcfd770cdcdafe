-- Faults that are told: the first so far, part by part.
use Rattle.std.proofs.Common.{◌≡◌, ◌⊎◌, inl, inr, ℕ, Bool, true, false, List, [], ◌∷◌, ◌++◌, Option, Some, refl, sym, ap, subst, append_assoc, ◌∙◌}
use Rattle.std.specs.Prelude.{MatchBool, not}
use Rattle.std.proofs.lemmas.List.{append-nil}
use Rattle.vg_base.specs.Faults.{doc_fault_order}
use Rattle.vg_base.specs.First.{IsFirst, sooner}
use Rattle.vg_base.specs.declared.doc_fault.DocKind.{DocKind}
use Rattle.vg_base.specs.declared.doc_fault.DocFault.{DocFault}
use Rattle.vg_base.proofs.Firsts.{first-append, first-one}
use Rattle.abnf_lexer.specs.declared.lexemes.Spanned.{Spanned}
use Rattle.abnf_lexer.proofs.OneAnswer.{faults_total}
use Rattle.rule_reader.specs.LeafFaults.{Told}
use Rattle.rule_reader.specs.code.Walks.{told, Adds, IsReadAs}

-- ---- the first so far

pub adds_none : (found : Option DocFault) → Adds [] found found
adds_none found = record { first = λ before h. subst (λ (fs : List DocFault). IsFirst doc_fault_order fs found) (sym (append-nil before)) h }

pub adds_both : (fs gs : List DocFault) (old mid new : Option DocFault) → Adds fs old mid → Adds gs mid new → Adds (fs ++ gs) old new
adds_both fs gs old mid new h k = record {
  first = λ before b. subst (λ (xs : List DocFault). IsFirst doc_fault_order xs new) (append_assoc before fs gs) (k.first (before ++ fs) (h.first before b));
}

pub adds_one : (old : Option DocFault) (f : DocFault) → Adds (f ∷ []) old (sooner doc_fault_order old (Some f))
adds_one old f = record { first = λ before h. first-append doc_fault_order faults_total before (f ∷ []) old (Some f) h (first-one doc_fault_order faults_total f) }

-- ---- one fault or none

pub is_told : (P : Type 0) (span : Spanned) (kind : DocKind) → P → Told P span kind (told true span kind)
is_told P span kind p = inl (p, refl)

pub is_untold : (P : Type 0) (span : Spanned) (kind : DocKind) → (P → ⊥) → Told P span kind (told false span kind)
is_untold P span kind n = inr (n, refl)

-- what is read without a fault
pub quiet : {A : Type 0} (P : Type 0) (span : Spanned) (kind : DocKind) (Is : A → Type 0) (found : Option DocFault) (x : A) → (P → ⊥) → Is x → IsReadAs (Told P span kind) Is found found x
quiet P span kind Is found x n is = record { faults = []; are = inr (n, refl); adds = adds_none found; is = λ e. is }

some_not_none : (f : DocFault) → ◌≡◌ {A = List DocFault} (f ∷ []) [] → ⊥
some_not_none f e = cc

-- and with one
pub loud : {A : Type 0} (P : Type 0) (span : Spanned) (kind : DocKind) (Is : A → Type 0) (old new : Option DocFault) (x : A) → P → Adds (told true span kind) old new → IsReadAs (Told P span kind) Is old new x
loud P span kind Is old new x p adds = record { faults = told true span kind; are = inl (p, refl); adds = adds; is = λ e. absurd (some_not_none (record { place = span.place; kind = kind }) e) }

-- decided whether there is a fault: told where the check fails
pub told_unless : (P : Type 0) (good : Bool) (span : Spanned) (kind : DocKind) → MatchBool good P (P → ⊥) → Told (P → ⊥) span kind (told (not good) span kind)
told_unless P true span kind p = inr ((λ n. n p), refl)
told_unless P false span kind n = inl (n, refl)

pub told_where : (P : Type 0) (bad : Bool) (span : Spanned) (kind : DocKind) → MatchBool bad P (P → ⊥) → Told P span kind (told bad span kind)
told_where P true span kind p = inl (p, refl)
told_where P false span kind n = inr (n, refl)
