-- The schedule's steps are enabled, and it ends where the state is finished.
use Rattle.std.proofs.Common.{◌≡◌, ℕ, zero, suc, ◌+◌, ◌<◌, ◌≤◌, Bool, true, false, List, [], ◌∷◌, length, None, Some, cond, inl, inr, refl, sym, ap, ◌∙◌, subst, arith}
use Rattle.std.specs.Prelude.{Option, position, find, ◌⊎◌}
use Rattle.std.proofs.lemmas.List.Quantifiers.{position-Some}
use Rattle.std.specs.List.{Contains, position_from}
use Rattle.std.proofs.lemmas.Iterator.Adapters.{position_from-zero}
use Rattle.vg_base.specs.declared.numbers.DocIx.{DocIx}
use Rattle.vg_base.specs.declared.numbers.LoaderNo.{LoaderNo}
use Rattle.build_core.specs.declared.event.DocState.{DocState}
use Rattle.build_core.specs.declared.event.DocState.TheVariants.{Unseen, Wanted, Held, Done}
use Rattle.build_core.specs.declared.event.Event.TheVariants.{Claim}
use Rattle.build_core.specs.Rows.{ByRows, IsClosed, ix, row}
use Rattle.build_core.specs.Core.{Core, at, Enabled, Finished, HoldsNone, IsStanding}
use Rattle.build_core.proofs.Opens.{inside_or_past}
use Rattle.build_core.specs.Next.{holder, is_held, is_unseen, is_unseen_in, is_wanted, step_by, step_of}

-- what a first element that passes is, and where there is none
found_by : (p : DocIx → Bool) (x : DocIx) (xs : List DocIx) (y : DocIx) → ((e : find p xs ≡ Some y) → (p y ≡ true) × Contains xs y) → (b : Bool) → p x ≡ b → cond b (Some x) (find p xs) ≡ Some y
    → (p y ≡ true) × Contains (x ∷ xs) y
found_by p x xs y rest true is e = let same : x ≡ y = cc in (ap p (sym same) ∙ is, (0, omega arith, same))
found_by p x xs y rest false is e = let (passes, (i, low, at_i)) = rest e in (passes, (suc i, omega arith, at_i))

found : (p : DocIx → Bool) (xs : List DocIx) (y : DocIx) → find p xs ≡ Some y → (p y ≡ true) × Contains xs y
found p [] y e = cc
found p (x ∷ xs) y e = found_by p x xs y (found p xs y) (p x) refl e

none_here : (p : DocIx → Bool) (x : DocIx) (xs : List DocIx) (b : Bool) → p x ≡ b → cond b (Some x) (find p xs) ≡ None → p x ≡ false
none_here p x xs true holds f = cc
none_here p x xs false fails f = fails

none_behind : (p : DocIx → Bool) (x : DocIx) (xs : List DocIx) (b : Bool) → cond b (Some x) (find p xs) ≡ None → find p xs ≡ None
none_behind p x xs true f = cc
none_behind p x xs false f = f

none_found : (p : DocIx → Bool) (xs : List DocIx) → find p xs ≡ None → (y : ℕ) → Contains xs (ix y) → p (ix y) ≡ false
none_found p [] e y (i, low, is) = absurd (omega arith)
none_found p (x ∷ xs) e y (zero, low, is) = ap p (sym is) ∙ none_here p x xs (p x) refl e
none_found p (x ∷ xs) e y (suc i, low, is) = none_found p xs (none_behind p x xs (p x) e) y (i, omega arith, is)

held_by : (s : DocState) → is_held s ≡ true → s ≡ Held (holder s)
held_by Unseen h = cc
held_by Wanted h = cc
held_by (Held k) h = refl
held_by (Done k) h = cc

wanted_is : (s : DocState) → is_wanted s ≡ true → s ≡ Wanted
wanted_is Unseen h = cc
wanted_is Wanted h = refl
wanted_is (Held k) h = cc
wanted_is (Done k) h = cc

unseen_is : (s : DocState) → is_unseen s ≡ true → s ≡ Unseen
unseen_is Unseen h = refl
unseen_is Wanted h = cc
unseen_is (Held k) h = cc
unseen_is (Done k) h = cc

-- the first held document
pub first_held : (docs : List DocState) (d : ℕ) → position is_held docs ≡ Some d → (d < length docs) × (at docs d ≡ Held (holder (at docs d)))
first_held docs d e = let (low, passes, before) = position-Some is_held docs d Unseen e in (low, held_by (at docs d) passes)

pub first_wanted : (docs : List DocState) (d : ℕ) → position is_wanted docs ≡ Some d → (d < length docs) × (at docs d ≡ Wanted)
first_wanted docs d e = let (low, passes, before) = position-Some is_wanted docs d Unseen e in (low, wanted_is (at docs d) passes)

state_here : (p : DocState → Bool) (n : ℕ) (x : DocState) (xs : List DocState) (b : Bool) → p x ≡ b → cond b (Some n) (position_from p (n + 1) xs) ≡ None → p x ≡ false
state_here p n x xs true holds f = cc
state_here p n x xs false fails f = fails

states_behind : (p : DocState → Bool) (n : ℕ) (xs : List DocState) (b : Bool) → cond b (Some n) (position_from p (n + 1) xs) ≡ None → position_from p (n + 1) xs ≡ None
states_behind p n xs true f = cc
states_behind p n xs false f = f

none_from : (p : DocState → Bool) (n : ℕ) (xs : List DocState) → position_from p n xs ≡ None → (k : ℕ) → k < length xs → p (at xs k) ≡ false
none_from p n [] e k low = absurd (omega arith)
none_from p n (x ∷ xs) e zero low = state_here p n x xs (p x) refl e
none_from p n (x ∷ xs) e (suc k) low = none_from p (n + 1) xs (states_behind p n xs (p x) e) k (omega arith)

past_end : (docs : List DocState) (d : ℕ) → length docs ≤ d → at docs d ≡ Unseen
past_end [] d h = refl
past_end (x ∷ xs) zero h = absurd (omega arith)
past_end (x ∷ xs) (suc d) h = past_end xs d (omega arith)

is_held_of : (s : DocState) (k : LoaderNo) → s ≡ Held k → is_held s ≡ true
is_held_of s k e = ap is_held e

-- where none is held, no loader holds one
pub none_held : (docs : List DocState) → position is_held docs ≡ None → (k : LoaderNo) → HoldsNone docs k
none_held docs e k d held = elim (inside_or_past d (length docs)) [
  | inl low ↦ let fails = none_from is_held 0 docs (sym (position_from-zero is_held docs) ∙ e) d low in let holds = is_held_of (at docs d) k held in cc
  | inr past ↦ let unseen = past_end docs d past in cc
]

finished_by : (s : DocState) → is_held s ≡ false → is_wanted s ≡ false → (s ≡ Unseen) ⊎ ((k : LoaderNo) × (s ≡ Done k))
finished_by Unseen h w = inl refl
finished_by Wanted h w = cc
finished_by (Held k) h w = cc
finished_by (Done k) h w = inr (k, refl)

-- where none is held and none wanted, the state is finished
pub is_finished : (docs : List DocState) → position is_held docs ≡ None → position is_wanted docs ≡ None → Finished docs
is_finished docs e f d = elim (inside_or_past d (length docs)) [
  | inl low ↦ finished_by (at docs d) (none_from is_held 0 docs (sym (position_from-zero is_held docs) ∙ e) d low) (none_from is_wanted 0 docs (sym (position_from-zero is_wanted docs) ∙ f) d low)
  | inr past ↦ inl (past_end docs d past)
]

-- a finished state has none that is held or wanted
pub held_not_finished : (docs : List DocState) (d : ℕ) → position is_held docs ≡ Some d → Finished docs → ⊥
held_not_finished docs d e end = let (low, is) = first_held docs d e in elim (end d) [ inl u ↦ cc | inr (k, w) ↦ cc ]

pub wanted_not_finished : (docs : List DocState) (d : ℕ) → position is_wanted docs ≡ Some d → Finished docs → ⊥
wanted_not_finished docs d e end = let (low, is) = first_wanted docs d e in elim (end d) [ inl u ↦ cc | inr (k, w) ↦ cc ]

-- the step of the least held document is enabled
pub step_enabled : (rows : List (List DocIx)) (c : Core) (d : ℕ) → IsClosed rows → length c.docs ≡ length rows → IsStanding c.loaders c.docs → position is_held c.docs ≡ Some d
    → Enabled (ByRows rows) c (step_of rows c.docs d)
step_enabled rows c d closed sized standing e = by (find (is_unseen_in c.docs) (row rows d)) refl where
  by : (o : Option DocIx) → find (is_unseen_in c.docs) (row rows d) ≡ o → Enabled (ByRows rows) c (step_by (holder (at c.docs d)) d o)
  by (Some y) f =
      let (low, held) = first_held c.docs d e in
      let (unseen, there) = found (is_unseen_in c.docs) (row rows d) y f in
      ((standing.held d (holder (at c.docs d)) held, subst (λ (n : ℕ). y.0 < n) (sym sized) (closed.inside d y.0 there), unseen_is (at c.docs y.0) unseen), (d, held, there))
  by None f =
      let (low, held) = first_held c.docs d e in
      ((standing.held d (holder (at c.docs d)) held, low, held), λ y im u. let fails = none_found (is_unseen_in c.docs) (row rows d) f y im in let holds : is_unseen (at c.docs y) ≡ true = ap is_unseen u in cc)

pub claim_enabled : (rows : List (List DocIx)) (c : Core) (d : ℕ) → 1 ≤ c.loaders → position is_held c.docs ≡ None → position is_wanted c.docs ≡ Some d
    → Enabled (ByRows rows) c (Claim (record { 0 = 1 }) (ix d))
claim_enabled rows c d some e f = let (low, wanted) = first_wanted c.docs d f in (((omega arith, some), low, wanted, none_held c.docs e (record { 0 = 1 })), tt)
