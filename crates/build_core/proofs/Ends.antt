-- A sound state at its end, and how many events come before.
use Rattle.std.proofs.Common.{◌≡◌, ◌≢◌, ℕ, zero, suc, ◌+◌, ◌*◌, ◌-◌, ◌<◌, ◌≤◌, List, [], ◌∷◌, ◌++◌, length, take, get_or, length-take, length-append, subst, refl, sym, ap, ◌∙◌, arith, ⊎_elim}
use Rattle.std.specs.Prelude.{slice_set}
use Rattle.std.proofs.Math.ListN.{length-set}
use Rattle.std.proofs.lemmas.List.{take_more}
use Rattle.vg_base.specs.declared.numbers.DocIx.{DocIx}
use Rattle.vg_base.specs.declared.numbers.LoaderNo.{LoaderNo}
use Rattle.build_core.specs.declared.event.DocState.{DocState}
use Rattle.build_core.specs.declared.event.DocState.TheVariants.{Unseen, Wanted, Held, Done}
use Rattle.build_core.specs.declared.event.Event.{Event}
use Rattle.build_core.specs.declared.event.Event.TheVariants.{Want, Claim, Finish}
use Rattle.build_core.specs.Rows.{Reached, entry, import}
use Rattle.build_core.specs.Core.{Core, at, Sound, Opening, Finished, Enabled, after, IsRun, after_all, rank, spent, RunsTo, IsDone, DoneIsClosure}
use Rattle.build_core.proofs.Keeps.{event_keeps}

pub opening_sound : (imp : ℕ → ℕ → Type 0) (size : ℕ) (entries : List DocIx) (docs : List DocState) → Opening size entries docs → Sound imp entries docs
opening_sound imp size entries docs o = record {
  holds_one = λ k d e p q. ⊎_elim (λ u. cc) (λ w. let w0 = w.0 in cc) (o.others_unseen d);
  reached = λ d n. ⊎_elim (λ u. absurd (n u)) (λ w. entry w.1) (o.others_unseen d);
  entries_seen = λ d st u. let w = o.entries_wanted d st in cc;
  imports_seen = λ k d e p im. ⊎_elim (λ u. cc) (λ w. let w0 = w.0 in cc) (o.others_unseen d);
}

module _ (imp : ℕ → ℕ → Type 0) (entries : List DocIx) (docs : List DocState) (s : Sound imp entries docs) (end : Finished docs) where
  seen_is_done : (d : ℕ) → at docs d ≢ Unseen → IsDone docs d
  seen_is_done d n = ⊎_elim (λ u. absurd (n u)) (λ w. w) (end d)

  reached_is_done : {d : ℕ} → Reached imp entries d → IsDone docs d
  reached_is_done {d} (entry st) = seen_is_done d (s.entries_seen d st)
  reached_is_done {d} (import {x} {y} r im) = let h = reached_is_done r in seen_is_done y (s.imports_seen h.0 x y h.1 im)

  pub done_is_closure : DoneIsClosure imp entries docs
  done_is_closure d = ((λ h. s.reached d (λ u. let w = h.1 in cc)), (λ r. reached_is_done r))

-- one state up is one event more
spent_set : (docs : List DocState) (d : ℕ) (v : DocState) → d < length docs → spent (slice_set docs d v) + rank (at docs d) ≡ spent docs + rank v
spent_set [] d v h = absurd (omega arith)
spent_set (x ∷ xs) zero v h = omega arith
spent_set (x ∷ xs) (suc d) v h = let i = spent_set xs d v (omega arith) in omega arith

spent_most : (docs : List DocState) → spent docs ≤ 3 * length docs
spent_most [] = omega arith
spent_most (Unseen ∷ xs) = let i = spent_most xs in omega arith
spent_most (Wanted ∷ xs) = let i = spent_most xs in omega arith
spent_most (Held k ∷ xs) = let i = spent_most xs in omega arith
spent_most (Done k ∷ xs) = let i = spent_most xs in omega arith

pub event_spends : (imp : ℕ → ℕ → Type 0) (c : Core) (e : Event) → Enabled imp c e → spent (after c e).docs ≡ spent c.docs + 1
event_spends imp c (Want k d) h = let i = spent_set c.docs d.0 Wanted h.0.1 in let r = ap rank h.0.2 in omega arith
event_spends imp c (Claim k d) h = let i = spent_set c.docs d.0 (Held k) h.0.1 in let r = ap rank h.0.2 in omega arith
event_spends imp c (Finish k d) h = let i = spent_set c.docs d.0 (Done k) h.0.1 in let r = ap rank h.0.2 in omega arith

pub run_spends : (imp : ℕ → ℕ → Type 0) (c : Core) (es : List Event) → IsRun imp c es → length es + spent c.docs ≡ spent (after_all c es).docs
run_spends imp c [] h = omega arith
run_spends imp c (e ∷ es) h = let i = run_spends imp (after c e) es h.1 in let j = event_spends imp c e h.0 in omega arith

pub run_keeps : (imp : ℕ → ℕ → Type 0) (entries : List DocIx) (c : Core) (es : List Event) → IsRun imp c es → Sound imp entries c.docs → Sound imp entries (after_all c es).docs
run_keeps imp entries c [] h s = s
run_keeps imp entries c (e ∷ es) h s = run_keeps imp entries (after c e) es h.1 (event_keeps imp c e h.0 entries s)

pub run_more : (imp : ℕ → ℕ → Type 0) (c : Core) (es : List Event) (e : Event) → IsRun imp c es → Enabled imp (after_all c es) e → IsRun imp c (es ++ e ∷ [])
run_more imp c [] e r h = (h, tt)
run_more imp c (x ∷ xs) e r h = (r.0, run_more imp (after c x) xs e r.1 h)

pub after_more : (c : Core) (es : List Event) (e : Event) → after_all c (es ++ e ∷ []) ≡ after (after_all c es) e
after_more c [] e = refl
after_more c (x ∷ xs) e = after_more (after c x) xs e

pub spent_few : (imp : ℕ → ℕ → Type 0) (c : Core) (es : List Event) → IsRun imp c es → length es ≤ 3 * length (after_all c es).docs
spent_few imp c es r = omega (arith, run_spends imp c es r, spent_most (after_all c es).docs)

pub length_after : (c : Core) (e : Event) → length (after c e).docs ≡ length c.docs
length_after c (Want k d) = length-set c.docs d.0 Wanted
length_after c (Claim k d) = length-set c.docs d.0 (Held k)
length_after c (Finish k d) = length-set c.docs d.0 (Done k)

pub length_after_all : (c : Core) (es : List Event) → length (after_all c es).docs ≡ length c.docs
length_after_all c [] = refl
length_after_all c (e ∷ es) = length_after_all (after c e) es ∙ length_after c e

pub loaders_after_all : (c : Core) (es : List Event) → (after_all c es).loaders ≡ c.loaders
loaders_after_all c [] = refl
loaders_after_all c (e ∷ es) = loaders_after_all (after c e) es

-- a run of the first i events has few of them
pub few_taken : (imp : ℕ → ℕ → Type 0) (c : Core) (es : List Event) (i n : ℕ) → i ≤ length es → IsRun imp c (take i es) → length c.docs ≡ n → i ≤ 3 * n
few_taken imp c es i n within r sized = omega (arith, spent_few imp c (take i es) r, length_after_all c (take i es), length-take i es)

-- one event more
pub run_taken : (imp : ℕ → ℕ → Type 0) (c : Core) (es : List Event) (i : ℕ) (d : Event) → i < length es → IsRun imp c (take i es) → Enabled imp (after_all c (take i es)) (get_or es i d) → IsRun imp c (take (i + 1) es)
run_taken imp c es i d low r h = subst (IsRun imp c) (sym (take_more es i d low)) (run_more imp c (take i es) (get_or es i d) r h)

pub after_taken : (c : Core) (es : List Event) (i : ℕ) (d : Event) → i < length es → after_all c (take (i + 1) es) ≡ after (after_all c (take i es)) (get_or es i d)
after_taken c es i d low = ap (after_all c) (take_more es i d low) ∙ after_more c (take i es) (get_or es i d)

-- a run of no events, and one of one event more
pub runs_nowhere : (imp : ℕ → ℕ → Type 0) (c : Core) → RunsTo imp c 0 c
runs_nowhere imp c = record { events = []; counted = refl; ran = tt; moved = refl }

pub runs_on : (imp : ℕ → ℕ → Type 0) (c : Core) (n : ℕ) (d : Core) (e : Event) → RunsTo imp c n d → Enabled imp d e → RunsTo imp c (n + 1) (after d e)
runs_on imp c n d e r h = record {
  events = r.events ++ e ∷ [];
  counted = length-append r.events (e ∷ []) ∙ ap (λ (k : ℕ). k + 1) r.counted;
  ran = run_more imp c r.events e r.ran (subst (λ (s : Core). Enabled imp s e) r.moved h);
  moved = ap (λ (s : Core). after s e) r.moved ∙ sym (after_more c r.events e);
}

module _ (imp : ℕ → ℕ → Type 0) (c : Core) (n : ℕ) (d : Core) (r : RunsTo imp c n d) where
  pub runs_sized : length d.docs ≡ length c.docs
  runs_sized = ap (λ (s : Core). length s.docs) r.moved ∙ length_after_all c r.events

  pub runs_loaders : d.loaders ≡ c.loaders
  runs_loaders = ap (λ (s : Core). s.loaders) r.moved ∙ loaders_after_all c r.events

  pub runs_few : n ≤ 3 * length c.docs
  runs_few = omega (arith, spent_few imp c r.events r.ran, length_after_all c r.events, r.counted)

  pub runs_sound : (entries : List DocIx) → Sound imp entries c.docs → Sound imp entries d.docs
  runs_sound entries s = subst (λ (x : Core). Sound imp entries x.docs) (sym r.moved) (run_keeps imp entries c r.events r.ran s)

-- how many events may still come
abbrev pub left : List DocState → ℕ
left docs = 3 * length docs - spent docs

pub left_falls : (imp : ℕ → ℕ → Type 0) (c : Core) (e : Event) → Enabled imp c e → left (after c e).docs < left c.docs
left_falls imp c e h = omega (arith, event_spends imp c e h, length_after c e, spent_most (after c e).docs)
