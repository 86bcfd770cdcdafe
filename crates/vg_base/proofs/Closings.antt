-- The search for the next closing: what it finds is one (`closed_at`), each is found (`found_end`), and where it finds none there is none
-- (`closes_none`). The first lemmas are steps of the loop.
use Rattle.std.proofs.Common.{◌≡◌, ℕ, ◌+◌, ◌-◌, ◌<◌, ◌≤◌, Bool, true, false, cond, Option, Some, None, List, [], ◌∷◌, ◌++◌, length, get_or, take, drop, refl, sym, ap, subst, ◌∙◌, arith, length-append, append_assoc, length-drop, nat_eq}
use Rattle.std.specs.List.{starts_with}
use Rattle.std.proofs.lemmas.List.{drop_more, take_all, nil_from_length}
use Rattle.std.proofs.lemmas.Bool.{cond_both, both_ways}
use Rattle.std.proofs.lemmas.Bool.Decides.{Decides-eqb}
use Rattle.std.proofs.lemmas.Option.{none-some, same_Some}
use Rattle.std.proofs.lemmas.Slice.Eq.{starts_is}
use Rattle.vg_base.specs.Runs.{ReachesFirst, further, closing_end, ClosesAt, ClosesNowhere}

pub further_on : (n : ℕ) (o : Option ℕ) → further n (further 1 o) ≡ further (n + 1) o
further_on n None = refl
further_on n (Some m) = ap Some (omega arith)

-- one character on, unless the closing stands here
pub closing_end-step : (close xs ys : List ℕ) (x : ℕ) → xs ≡ x ∷ ys → closing_end close xs ≡ cond (starts_with nat_eq xs close) (Some (length close)) (further 1 (closing_end close ys))
unfolding closing_end
closing_end-step close xs ys x e = subst (λ (zs : List ℕ). closing_end close zs ≡ cond (starts_with nat_eq zs close) (Some (length close)) (further 1 (closing_end close ys))) (sym e) refl

at_step : (close text : List ℕ) (at : ℕ) → at < length text → closing_end close (drop at text) ≡ cond (starts_with nat_eq (drop at text) close) (Some (length close)) (further 1 (closing_end close (drop (at + 1) text)))
at_step close text at h = closing_end-step close (drop at text) (drop (at + 1) text) (get_or text at 0) (drop_more text at 0 h)

pub closes_here : (close text : List ℕ) (at : ℕ) (t : Option ℕ) → at < length text → starts_with nat_eq (drop at text) close ≡ true → further at (closing_end close (drop at text)) ≡ t → Some (at + length close) ≡ t
closes_here close text at t h e so_far =
    ap (λ b. further at (cond b (Some (length close)) (further 1 (closing_end close (drop (at + 1) text))))) (sym e) ∙ ap (further at) (sym (at_step close text at h)) ∙ so_far

pub closes_later : (close text : List ℕ) (at : ℕ) (t : Option ℕ) → at < length text → starts_with nat_eq (drop at text) close ≡ false → further at (closing_end close (drop at text)) ≡ t → further (at + 1) (closing_end close (drop (at + 1) text)) ≡ t
closes_later close text at t h e so_far =
    sym (further_on at (closing_end close (drop (at + 1) text))) ∙ ap (λ b. further at (cond b (Some (length close)) (further 1 (closing_end close (drop (at + 1) text))))) (sym e) ∙ ap (further at) (sym (at_step close text at h)) ∙ so_far

nothing : (close xs : List ℕ) → length xs ≤ 0 → closing_end close xs ≡ None
unfolding closing_end
nothing close [] h = refl
nothing close (x ∷ xs) h = absurd (omega arith)

pub closes_nowhere : (close text : List ℕ) (at : ℕ) (t : Option ℕ) → length text ≤ at → further at (closing_end close (drop at text)) ≡ t → None ≡ t
closes_nowhere close text at t h so_far = ap (further at) (sym (nothing close (drop at text) (omega (arith, length-drop at text)))) ∙ so_far

pub rest_is : (text : List ℕ) (at : ℕ) → take (length text - at) (drop at text) ≡ drop at text
rest_is text at = take_all (length text - at) (drop at text) (omega (arith, length-drop at text))

-- ---- what is found is the next closing

-- two fronts of one text, of which the first is no longer
pub front_of : (short more long rest : List ℕ) → short ++ more ≡ long ++ rest → length short ≤ length long → (after : List ℕ) × (long ≡ short ++ after)
front_of [] more long rest e h = (long, refl)
front_of (x ∷ short) more [] rest e h = absurd (omega arith)
front_of (x ∷ short) more (y ∷ long) rest e h =
    let heads : y ≡ x = heads_same x y (short ++ more) (long ++ rest) e in
    let tails = front_of short more long rest (tails_same x y (short ++ more) (long ++ rest) e) (omega arith) in
    (tails.0, (λ i. heads i ∷ tails.1 i))
  where
    heads_same : (x y : ℕ) (xs ys : List ℕ) → x ∷ xs ≡ y ∷ ys → y ≡ x
    heads_same x y xs ys e = cc

    tails_same : (x y : ℕ) (xs ys : List ℕ) → x ∷ xs ≡ y ∷ ys → xs ≡ ys
    tails_same x y xs ys e = cc

pub begins_so : (text front : List ℕ) → starts_with nat_eq text front ≡ true → text ≡ front ++ drop (length front) text
begins_so text front e = (starts_is Decides-eqb text front (starts_with nat_eq text front) refl).0 e

pub so_begins : (text front rest : List ℕ) → text ≡ front ++ rest → starts_with nat_eq text front ≡ true
so_begins text front rest e = (starts_is Decides-eqb text front (starts_with nat_eq text front) refl).1 rest e

alone : (close : List ℕ) → ReachesFirst close []
alone close before after e = nil_from_length after (omega (arith, ap length e, length-append before (close ++ after), length-append close after))

later_first : (close inside rest : List ℕ) (c : ℕ) → starts_with nat_eq (c ∷ (inside ++ (close ++ rest))) close ≡ false → ReachesFirst close inside → ReachesFirst close (c ∷ inside)
later_first close inside rest c absent h [] after e =
    let whole : c ∷ (inside ++ (close ++ rest)) ≡ close ++ (after ++ rest) = ap (λ (l : List ℕ). c ∷ l) (sym (append_assoc inside close rest)) ∙ (ap (λ (l : List ℕ). l ++ rest) e ∙ append_assoc close after rest) in
    absurd (both_ways _ absent (so_begins (c ∷ (inside ++ (close ++ rest))) close (after ++ rest) whole))
later_first close inside rest c absent h (b ∷ before) after e = h before after (tail c b (inside ++ close) (before ++ (close ++ after)) e)
  where
    tail : (x y : ℕ) (xs ys : List ℕ) → x ∷ xs ≡ y ∷ ys → xs ≡ ys
    tail x y xs ys e = cc

-- what is found of a closing
abbrev pub ClosedAt : (close text : List ℕ) → Option ℕ → Type 0
ClosedAt close text None = Unit {0}
ClosedAt close text (Some n) = ClosesAt close text n

closed_here : (close text : List ℕ) → starts_with nat_eq text close ≡ true → ClosesAt close text (length close)
closed_here close text e = record { inside = []; rest = drop (length close) text; parts = begins_so text close e; long = omega arith; first = alone close }

closed_later : (close cs : List ℕ) (c : ℕ) (o : Option ℕ) → starts_with nat_eq (c ∷ cs) close ≡ false → ClosedAt close cs o → ClosedAt close (c ∷ cs) (further 1 o)
closed_later close cs c None absent h = tt
closed_later close cs c (Some n) absent h = record {
  inside = c ∷ h.inside;
  rest = h.rest;
  parts = ap (λ (l : List ℕ). c ∷ l) h.parts;
  long = let long = h.long in omega arith;
  first = later_first close h.inside h.rest c (ap (λ (l : List ℕ). starts_with nat_eq (c ∷ l) close) (sym h.parts) ∙ absent) h.first;
}

pub closed_at : (close text : List ℕ) → ClosedAt close text (closing_end close text)
unfolding closing_end
closed_at close [] = tt
closed_at close (c ∷ cs) =
    cond_both (starts_with nat_eq (c ∷ cs) close) (Some (length close)) (further 1 (closing_end close cs)) (ClosedAt close (c ∷ cs))
    (closed_here close (c ∷ cs)) (λ absent. closed_later close cs c (closing_end close cs) absent (closed_at close cs))

-- ---- and the next closing is found

-- a closing that begins here is the first only where it alone is left
not_yet : (close inside rest : List ℕ) (c : ℕ) → 0 < length close → ReachesFirst close (c ∷ inside) → starts_with nat_eq (c ∷ (inside ++ (close ++ rest))) close ≡ false
not_yet close inside rest c some h = by_case (starts_with nat_eq (c ∷ (inside ++ (close ++ rest))) close) refl
  where
    by_case : (b : Bool) → starts_with nat_eq (c ∷ (inside ++ (close ++ rest))) close ≡ b → b ≡ false
    by_case false e = refl
    by_case true e =
        let begun = begins_so (c ∷ (inside ++ (close ++ rest))) close e in
        let long : List ℕ = c ∷ (inside ++ close) in
        let front = front_of close (drop (length close) (c ∷ (inside ++ (close ++ rest)))) long rest (sym begun ∙ ap (λ (l : List ℕ). c ∷ l) (sym (append_assoc inside close rest))) (omega (arith, length-append inside close)) in
        let none : front.0 ≡ [] = h [] front.0 front.1 in
        absurd (omega (arith, ap length front.1, ap length none, length-append inside close, length-append close front.0))

pub found_end : (close inside rest : List ℕ) → 0 < length close → ReachesFirst close inside → closing_end close (inside ++ (close ++ rest)) ≡ Some (length inside + length close)
unfolding closing_end
found_end [] [] rest some h = absurd (omega arith)
found_end (k ∷ ks) [] rest some h =
    ap (λ b. cond b (Some (length (k ∷ ks))) (further 1 (closing_end (k ∷ ks) (ks ++ rest)))) (so_begins (k ∷ (ks ++ rest)) (k ∷ ks) rest refl) ∙ ap Some (omega arith)
found_end close (c ∷ inside) rest some h =
    ap (λ b. cond b (Some (length close)) (further 1 (closing_end close (inside ++ (close ++ rest))))) (not_yet close inside rest c some h)
    ∙ (ap (further 1) (found_end close inside rest some (λ before after e. h (c ∷ before) after (ap (λ (l : List ℕ). c ∷ l) e))) ∙ ap Some (omega arith))

-- where none is found, none stands
pub closes_none : (close text : List ℕ) → 0 < length close → closing_end close text ≡ None → ClosesNowhere close text
unfolding closing_end
closes_none close [] some e before after whole = absurd (omega (arith, ap length whole, length-append before (close ++ after), length-append close after))
closes_none close (c ∷ cs) some e before after whole = by_case (starts_with nat_eq (c ∷ cs) close) refl (closing_end close cs) refl (closes_none close cs some) before after whole
  where
    tail : (x y : ℕ) (xs ys : List ℕ) → x ∷ xs ≡ y ∷ ys → xs ≡ ys
    tail x y xs ys e = cc

    by_case : (b : Bool) → starts_with nat_eq (c ∷ cs) close ≡ b → (o : Option ℕ) → closing_end close cs ≡ o → (closing_end close cs ≡ None → ClosesNowhere close cs) → (before after : List ℕ) → c ∷ cs ≡ before ++ (close ++ after) → ⊥
    by_case true b o more_is more before after whole = absurd (none-some (length close) (sym e ∙ ap (λ t. cond t (Some (length close)) (further 1 (closing_end close cs))) b))
    by_case false b (Some n) more_is more before after whole = absurd (none-some (1 + n) (sym e ∙ (ap (λ t. cond t (Some (length close)) (further 1 (closing_end close cs))) b ∙ ap (further 1) more_is)))
    by_case false b None more_is more [] after whole = both_ways _ b (so_begins (c ∷ cs) close after whole)
    by_case false b None more_is more (x ∷ before) after whole = more more_is before after (tail c x cs (before ++ (close ++ after)) whole)

pub closed_of : (close text : List ℕ) (n : ℕ) → closing_end close text ≡ Some n → ClosesAt close text n
closed_of close text n e = by_result (closing_end close text) (closed_at close text) e
  where
    by_result : (o : Option ℕ) → ClosedAt close text o → o ≡ Some n → ClosesAt close text n
    by_result None h e = absurd (none-some n e)
    by_result (Some m) h e = subst (ClosesAt close text) (same_Some m n e) h
