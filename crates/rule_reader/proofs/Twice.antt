-- Whether a declaration of a kind stands among some, which are looked at from the last one on.
use Rattle.std.proofs.Common.{arith, ◌≡◌, refl, sym, ap, ◌∙◌, ℕ, zero, suc, ◌+◌, ◌-◌, ◌<◌, Bool, true, false, ◌||◌, List, [], ◌∷◌, length, get_or, drop, Option, Some, None, subst}
use Rattle.std.specs.List.{list_any}
use Rattle.abnf_parser.specs.declared.written.Declaration.{Declaration}
use Rattle.rule_reader.specs.Context.{once, same}
use Rattle.rule_reader.specs.code.Contexts.{stands_among}
use Rattle.rule_reader.proofs.Rests.{rest_next}

no_one : (one : Option ℕ) → same one None ≡ false
no_one None = refl
no_one (Some kind) = refl

-- what may stand often is of no kind
pub no_kind : (before : List Declaration) → stands_among None before ≡ false
no_kind [] = refl
no_kind (d ∷ before) = ap (λ b. b || stands_among None before) (no_one (once d.keyword)) ∙ no_kind before

pub among : (kind : ℕ) (before : List Declaration) (at : ℕ) (d : Declaration) → at < length before → d ≡ get_or before at d → same (once d.keyword) (Some kind) ≡ true
    → stands_among (Some kind) before ≡ true
among kind [] at d lt is h = absurd (omega arith)
among kind (first ∷ before) zero d lt is h =
    ap (λ b. b || stands_among (Some kind) before) (ap (λ (e : Declaration). same (once e.keyword) (Some kind)) (sym is) ∙ h)
among kind (first ∷ before) (suc at) d lt is h = by (same (once first.keyword) (Some kind)) (among kind before at d (omega arith) is h)
  where
    by : (b : Bool) → stands_among (Some kind) before ≡ true → (b || stands_among (Some kind) before) ≡ true
    by true more = refl
    by false more = more

pub none_more : (kind : ℕ) (before : List Declaration) (at : ℕ) (d : Declaration) → at < length before → d ≡ get_or before at d
    → (same (once d.keyword) (Some kind) ≡ false) × (stands_among (Some kind) (drop (at + 1) before) ≡ false) → stands_among (Some kind) (drop at before) ≡ false
none_more kind before at d lt is h =
    ap (stands_among (Some kind)) (rest_next before at d lt is) ∙ ap (λ b. b || stands_among (Some kind) (drop (at + 1) before)) h.0 ∙ h.1
