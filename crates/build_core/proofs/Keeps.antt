-- Each event that is enabled keeps a sound state sound.
use Rattle.std.proofs.Common.{◌≡◌, ◌≢◌, ℕ, ◌<◌, List, length, sym, subst}
use Rattle.std.specs.Prelude.{slice_set}
use Rattle.std.proofs.lemmas.List.{get_or-set_same, get_or-set_other}
use mathlib.Core.Logic.{dite}
use native.Mathlib.Decide.{ℕ_discrete}
use Rattle.vg_base.specs.declared.numbers.DocIx.{DocIx}
use Rattle.vg_base.specs.declared.numbers.LoaderNo.{LoaderNo}
use Rattle.build_core.specs.declared.event.DocState.{DocState}
use Rattle.build_core.specs.declared.event.DocState.TheVariants.{Unseen, Wanted, Held, Done}
use Rattle.build_core.specs.declared.event.Event.{Event}
use Rattle.build_core.specs.declared.event.Event.TheVariants.{Want, Claim, Finish}
use Rattle.build_core.specs.Rows.{Reached, import}
use Rattle.build_core.specs.Core.{Core, at, Sound, HoldsImporter, HoldsNone, Enabled, after}

-- the state of a after d has changed to s
pub changed : (docs : List DocState) (d : ℕ) (s : DocState) → d < length docs → (P : DocState → Type 0) (a : ℕ) → (a ≡ d → P s) → (a ≢ d → P (at docs a)) → P (at (slice_set docs d s) a)
changed docs d s h P a hit miss =
    dite (ℕ_discrete a d)
    (λ e. subst (λ (k : ℕ). P (at (slice_set docs d s) k)) (sym e) (subst P (sym (get_or-set_same docs d s Unseen h)) (hit e)))
    (λ n. subst P (sym (get_or-set_other docs d a s Unseen n)) (miss n))

module _ (imp : ℕ → ℕ → Type 0) (entries : List DocIx) (docs : List DocState) (k : LoaderNo) (d : ℕ) (here : d < length docs) (sound : Sound imp entries docs) where
  pub want_keeps : at docs d ≡ Unseen → HoldsImporter imp docs k d → Sound imp entries (slice_set docs d Wanted)
  want_keeps unseen by = record {
    holds_one = λ j a b.
        changed docs d Wanted here (λ v. v ≡ Held j → at (slice_set docs d Wanted) b ≡ Held j → a ≡ b) a (λ e p q. cc)
        (λ n p. changed docs d Wanted here (λ v. v ≡ Held j → a ≡ b) b (λ e q. cc) (λ m q. sound.holds_one j a b p q));
    reached = λ a.
        changed docs d Wanted here (λ v. v ≢ Unseen → Reached imp entries a) a
        (λ e p. subst (λ (i : ℕ). Reached imp entries i) (sym e) (import (sound.reached by.0 (λ q. let x = by.1 in cc)) by.2))
        (λ n p. sound.reached a p);
    entries_seen = λ a st. changed docs d Wanted here (λ v. v ≢ Unseen) a (λ e p. cc) (λ n. sound.entries_seen a st);
    imports_seen = λ j a b.
        changed docs d Wanted here (λ v. v ≡ Done j → imp a b → at (slice_set docs d Wanted) b ≢ Unseen) a (λ e p. cc)
        (λ n p im. changed docs d Wanted here (λ v. v ≢ Unseen) b (λ e q. cc) (λ m. sound.imports_seen j a b p im));
  }

  pub claim_keeps : at docs d ≡ Wanted → HoldsNone docs k → Sound imp entries (slice_set docs d (Held k))
  claim_keeps wanted none = record {
    holds_one = λ j a b.
        changed docs d (Held k) here (λ v. v ≡ Held j → at (slice_set docs d (Held k)) b ≡ Held j → a ≡ b) a
        (λ e p. changed docs d (Held k) here (λ v. v ≡ Held j → a ≡ b) b (λ f q. cc) (λ m q. absurd (none b cc)))
        (λ n p. changed docs d (Held k) here (λ v. v ≡ Held j → a ≡ b) b (λ f q. absurd (none a cc)) (λ m q. sound.holds_one j a b p q));
    reached = λ a.
        changed docs d (Held k) here (λ v. v ≢ Unseen → Reached imp entries a) a
        (λ e p. subst (λ (i : ℕ). Reached imp entries i) (sym e) (sound.reached d (λ q. cc)))
        (λ n p. sound.reached a p);
    entries_seen = λ a st. changed docs d (Held k) here (λ v. v ≢ Unseen) a (λ e p. cc) (λ n. sound.entries_seen a st);
    imports_seen = λ j a b.
        changed docs d (Held k) here (λ v. v ≡ Done j → imp a b → at (slice_set docs d (Held k)) b ≢ Unseen) a (λ e p. cc)
        (λ n p im. changed docs d (Held k) here (λ v. v ≢ Unseen) b (λ e q. cc) (λ m. sound.imports_seen j a b p im));
  }

  pub finish_keeps : at docs d ≡ Held k → ((y : ℕ) → imp d y → at docs y ≢ Unseen) → Sound imp entries (slice_set docs d (Done k))
  finish_keeps held all = record {
    holds_one = λ j a b.
        changed docs d (Done k) here (λ v. v ≡ Held j → at (slice_set docs d (Done k)) b ≡ Held j → a ≡ b) a (λ e p q. cc)
        (λ n p. changed docs d (Done k) here (λ v. v ≡ Held j → a ≡ b) b (λ e q. cc) (λ m q. sound.holds_one j a b p q));
    reached = λ a.
        changed docs d (Done k) here (λ v. v ≢ Unseen → Reached imp entries a) a
        (λ e p. subst (λ (i : ℕ). Reached imp entries i) (sym e) (sound.reached d (λ q. cc)))
        (λ n p. sound.reached a p);
    entries_seen = λ a st. changed docs d (Done k) here (λ v. v ≢ Unseen) a (λ e p. cc) (λ n. sound.entries_seen a st);
    imports_seen = λ j a b.
        changed docs d (Done k) here (λ v. v ≡ Done j → imp a b → at (slice_set docs d (Done k)) b ≢ Unseen) a
        (λ e p im. changed docs d (Done k) here (λ v. v ≢ Unseen) b (λ f q. cc) (λ m. all b (subst (λ (i : ℕ). imp i b) e im)))
        (λ n p im. changed docs d (Done k) here (λ v. v ≢ Unseen) b (λ f q. cc) (λ m. sound.imports_seen j a b p im));
  }

pub event_keeps : (imp : ℕ → ℕ → Type 0) (c : Core) (e : Event) → Enabled imp c e → (entries : List DocIx) → Sound imp entries c.docs → Sound imp entries (after c e).docs
event_keeps imp c (Want k d) h entries s = want_keeps imp entries c.docs k d.0 h.0.1 s h.0.2 h.1
event_keeps imp c (Claim k d) h entries s = claim_keeps imp entries c.docs k d.0 h.0.1 s h.0.2 h.0.3
event_keeps imp c (Finish k d) h entries s = finish_keeps imp entries c.docs k d.0 h.0.1 s h.0.2 h.1
