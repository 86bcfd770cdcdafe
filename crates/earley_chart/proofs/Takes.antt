-- One that is to be looked at again is taken.
use Rattle.std.proofs.Common.{ℕ, ◌+◌, ◌-◌, ◌<◌, ◌≤◌, ◌≡◌, ◌⊎◌, inl, inr, List, [], ◌∷◌, ◌++◌, Option, Some, None, length, refl, sym, ap, ◌∙◌, subst, ⊎_elim, arith, length-append, true≢false}
use Rattle.std.specs.Prelude.{IfSome, IfNone, IsSome, ◌↔◌, nat_eq}
use Rattle.std.specs.List.{Contains, IsDistinct}
use Rattle.std.proofs.lemmas.List.Elements.{Contains-append_left, Contains-push, Contains-push_cases}
use Rattle.earley_chart.specs.declared.board.Board.{Board}
use Rattle.earley_chart.specs.code.Boards.{IsWhole, IsDue, IsIdle, Takes, due}

module _ (old now : Board) (spots : now.spots ≡ old.spots) (seen : now.seen ≡ old.seen) where
  pub taken : (r : Option ℕ) → IsWhole old → length old.spots.keys ≤ old.seen → IfSome r (λ at. old.again.keys ≡ now.again.keys ++ at ∷ []) → IfSome r (Takes old now)
  taken None whole le e = tt
  taken (Some at) whole le e = record {
    within = whole.again at (subst (λ l. Contains l at) (sym e) (Contains-push now.again.keys at));
    others = λ other h. ⊎_elim (λ new. inr (inl (subst (λ n. n ≤ other) (sym seen) new)))
        (λ again. ⊎_elim (λ kept. inr (inr kept)) (λ same. inl (sym same)) (Contains-push_cases now.again.keys at other (subst (λ l. Contains l other) e again))) h;
    fewer = omega (arith, ap length e ∙ length-append now.again.keys (at ∷ []), ap (λ s. length s.keys) spots, seen);
  }

-- who is left was there
pub kept : (r : Option ℕ) (old now : List ℕ) → IfSome r (λ at. old ≡ now ++ at ∷ []) → IfNone r (now ≡ old) → (at : ℕ) → Contains now at → Contains old at
kept None old now e same at h = subst (λ l. Contains l at) same h
kept (Some last) old now e same at h = subst (λ l. Contains l at) (sym e) (Contains-append_left now (last ∷ []) at h)

-- where none was there to be taken, none is to be looked at
pub idle : (b : Board) (r : Option ℕ) → length b.spots.keys ≤ b.seen → IsSome r ↔ (0 < length b.again.keys) → IfNone r (IsIdle b)
idle b (Some at) le some = tt
idle b None le some = λ at lt due. ⊎_elim (λ new. omega (arith, new, le, lt)) (λ again. true≢false (sym (some.1 (omega (arith, again.1))))) due
