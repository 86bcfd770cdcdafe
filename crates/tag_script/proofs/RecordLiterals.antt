-- A record's literal that keeps what fits, and of equal keys the last alone, gives what one that keeps all gives.
-- `record_gives` carries the clause of `evaluate_record`.
use Rattle.std.proofs.Common.{◌≡◌, ℕ, ◌+◌, ◌==◌, ◌≤◌, List, [], ◌∷◌, map, Bool, true, false, not, ◌||◌, if◌then◌else◌, is_none, Option, Some, None, Ok, Err, refl, sym, ap, ap₂, ◌∙◌, arith}
use Rattle.std.proofs.lemmas.Bool.{or_parts, or_right}
use Rattle.std.proofs.lemmas.Bool.Decides.{nat_tests}
use Rattle.std.specs.Map.{keys_of}
use Rattle.std.specs.Ordering.{is_eq}
use Rattle.std.specs.declared.cmp.Ordering.{Ordering}
use Rattle.std.specs.declared.cmp.Ordering.TheVariants.{Less, Equal, Greater}
use Rattle.vg_base.specs.Characters.{byte_len}
use Rattle.vg_base.specs.Pairs.{find, put}
use Rattle.vg_base.specs.declared.script.Expr.{Expr}
use Rattle.script_value.specs.declared.measures.Measures.{Measures}
use Rattle.script_value.specs.declared.limits.Limit.{Limit}
use Rattle.script_value.specs.declared.value.Value.{Value}
use Rattle.script_value.specs.declared.value.Value.TheVariants as v
use Rattle.script_value.specs.Limits.{limit_of}
use Rattle.script_value.specs.Measures.{measures, of_members, both, with_key, around}
use Rattle.script_value.proofs.Together.{members-more, measures-Record, limit-measures}
use Rattle.tag_script.specs.declared.env.Env.{Env}
use Rattle.tag_script.specs.declared.literals.RecordParts.{RecordParts}
use Rattle.tag_script.specs.Outcomes.{Outcome, and_then, within, tested}
use Rattle.tag_script.specs.Evaluation.{Meaning, meaning, members}
use Rattle.tag_script.specs.code.Literals.{fit, no_members, members_of, with_member, with_last, places, is_at, members_kept, record_of}
use Rattle.tag_script.proofs.ListLiterals.{fit-fewer, fit-key}
use Rattle.tag_script.proofs.Putting.{same_key}
use Rattle.tag_script.proofs.Puts.{order, itself, turned, put-put, put-swap, find-put, find-put_other}

-- whether the key stands among these
abbrev stands : List ℕ → List (List ℕ) → Bool
stands key [] = false
stands key (k ∷ more) = is_eq (order key k) || stands key more

is_equal : (o : Ordering) → is_eq o ≡ true → o ≡ Equal
is_equal Less e = absurd (cc)
is_equal Equal e = refl
is_equal Greater e = absurd (cc)

differ : (o : Ordering) → is_eq o ≡ false → o ≡ Equal → ⊥
differ o e f = let t : true ≡ false = sym (ap is_eq f) ∙ e in absurd (cc)

stands_behind : (key k : List ℕ) (more : List (List ℕ)) → stands key more ≡ true → stands key (k ∷ more) ≡ true
stands_behind key k more h = or_right (is_eq (order key k)) (stands key more) h

stands_here : (key : List ℕ) (more : List (List ℕ)) → stands key (key ∷ more) ≡ true
stands_here key more = ap (λ o. is_eq o || stands key more) (itself key)

-- ---- the places of the last pairs

not_placed : (key : List ℕ) (ks : List (List ℕ)) (at : ℕ) (m : List (List ℕ × ℕ)) → stands key ks ≡ false → find key (places ks at m) ≡ find key m
not_placed key [] at m h = refl
not_placed key (k ∷ ks) at m h =
    let parts = or_parts (is_eq (order key k)) (stands key ks) h in
    not_placed key ks (at + 1) (put k at m) parts.1 ∙ find-put_other k key at m (differ (order key k) parts.0)

record IsPlaced (key : List ℕ) (all : List (List ℕ × ℕ)) (at : ℕ) : Type 0 where
  last : ℕ
  found : find key all ≡ Some last
  behind : at ≤ last

placed_at : (b : Bool) (key k : List ℕ) (ks : List (List ℕ)) (at : ℕ) (m : List (List ℕ × ℕ)) → stands key ks ≡ b → (is_eq (order key k) || b) ≡ true
    → ((m : List (List ℕ × ℕ)) → stands key ks ≡ true → IsPlaced key (places ks (at + 1) m) (at + 1)) → IsPlaced key (places (k ∷ ks) at m) at
placed_at true key k ks at m e h more =
    let later = more (put k at m) e in record { last = later.last; found = later.found; behind = let low = later.behind in omega arith }
placed_at false key k ks at m e h more =
    let same = same_key key k (is_equal (order key k) (or_false (is_eq (order key k)) h)) in
    record { last = at; found = not_placed key ks (at + 1) (put k at m) e ∙ ap (λ q. find q (put k at m)) same ∙ find-put k at m; behind = omega arith }
  where
    or_false : (b : Bool) → (b || false) ≡ true → b ≡ true
    or_false true e = refl
    or_false false e = e

placed : (key : List ℕ) (ks : List (List ℕ)) (at : ℕ) (m : List (List ℕ × ℕ)) → stands key ks ≡ true → IsPlaced key (places ks at m) at
placed key [] at m h = absurd (cc)
placed key (k ∷ ks) at m h = placed_at (stands key ks) key k ks at m refl h (placed key ks (at + 1))

same_place : (n : ℕ) → (n == n) ≡ true
same_place n = grind (arith, nat_tests)

other_place : (n at : ℕ) → at + 1 ≤ n → (n == at) ≡ false
other_place n at h = grind (arith, nat_tests)

is_last : (key : List ℕ) (ks : List (List ℕ)) (at : ℕ) (m : List (List ℕ × ℕ)) → stands key ks ≡ false → is_at (find key (places (key ∷ ks) at m)) at ≡ true
is_last key ks at m h = ap (λ o. is_at o at) (not_placed key ks (at + 1) (put key at m) h ∙ find-put key at m) ∙ same_place at

is_not_last : (key : List ℕ) (ks : List (List ℕ)) (at : ℕ) (m : List (List ℕ × ℕ)) → stands key ks ≡ true → is_at (find key (places (key ∷ ks) at m)) at ≡ false
is_not_last key ks at m h =
    let later = placed key ks (at + 1) (put key at m) h in
    ap (λ o. is_at o at) later.found ∙ other_place later.last at later.behind

-- ---- a member whose key stands again changes nothing

each_next : {A : Type 0} (o : Outcome Value) (f g : Value → Outcome A) → ((x : Value) → f x ≡ g x) → and_then o f ≡ and_then o g
each_next (Ok x) f g h = h x
each_next (Err fault) f g h = refl

module _ (key : List ℕ) (x : Value) (m : List ℕ × Meaning) (ps : List (List ℕ × Meaning)) (env : Env) where
  skip_other : (all : List (List ℕ × Value)) (y : Value) → (order m.0 key ≡ Equal → ⊥) → members ps env (put key x (put m.0 y all)) ≡ members ps env (put m.0 y all)
      → members ps env (put m.0 y (put key x all)) ≡ members ps env (put m.0 y all)
  skip_other all y apart more = ap (members ps env) (put-swap key m.0 x y all apart) ∙ more

  skip_at : (o : Ordering) (all : List (List ℕ × Value)) (y : Value) → order key m.0 ≡ o → (is_eq o || stands key (keys_of ps)) ≡ true
      → ((all : List (List ℕ × Value)) → stands key (keys_of ps) ≡ true → members ps env (put key x all) ≡ members ps env all)
      → members ps env (put m.0 y (put key x all)) ≡ members ps env (put m.0 y all)
  skip_at Less all y e h more = skip_other all y (λ f. let g = turned key m.0 Less e in absurd (cc)) (more (put m.0 y all) h)
  skip_at Equal all y e h more =
      ap (λ q. members ps env (put m.0 y (put q x all))) (same_key key m.0 e) ∙ ap (members ps env) (put-put m.0 x y all)
  skip_at Greater all y e h more = skip_other all y (λ f. let g = turned key m.0 Greater e in absurd (cc)) (more (put m.0 y all) h)

skip : (key : List ℕ) (x : Value) (ps : List (List ℕ × Meaning)) (env : Env) (all : List (List ℕ × Value)) → stands key (keys_of ps) ≡ true
    → members ps env (put key x all) ≡ members ps env all
skip key x [] env all h = absurd (cc)
skip key x (m ∷ ps) env all h =
    each_next (m.1 env) (λ y. members ps env (put m.0 y (put key x all))) (λ y. members ps env (put m.0 y all))
    (λ y. skip_at key x m ps env (order key m.0) all y refl h (skip key x ps env))

-- ---- one member more

abbrev kept : Bool → List (List ℕ × Value) → List (List ℕ × Value)
kept b all = if b then all else []

kept_more : (after before : Bool) (key : List ℕ) (x : Value) (all : List (List ℕ × Value)) → (after ≡ true → before ≡ true)
    → kept after (put key x (kept before all)) ≡ kept after (put key x all)
kept_more false before key x all h = refl
kept_more true true key x all h = refl
kept_more true false key x all h = absurd (let e : false ≡ true = h refl in cc)

fit_before : (key : List ℕ) (m more : Measures) → fit (both (with_key key m) more) ≡ true → fit m ≡ true
fit_before key m more e = fit-key (byte_len key) m (fit-fewer (with_key key m) more e)

more_kept : (key : List ℕ) (x : Value) (all : List (List ℕ × Value)) → find key all ≡ None → with_member key x (members_of all) ≡ members_of (put key x all)
more_kept key x all absent =
    let large = members-more key x all absent in
    ap₂ (λ ms m. record { members = ms; measures = m })
    (kept_more (fit (both (with_key key (of_members all)) (measures x))) (fit (of_members all)) key x all (fit_before key (of_members all) (measures x))
    ∙ ap (λ m. kept (fit m) (put key x all)) large)
    large

-- ---- all of them

whole_at : (all : List (List ℕ × Value)) (limit : Option Limit) → within (v.Record (kept (is_none limit) all)) limit ≡ within (v.Record all) limit
whole_at all None = refl
whole_at all (Some l) = refl

whole : (all : List (List ℕ × Value)) → record_of (members_of all) ≡ tested (v.Record all)
whole all =
    whole_at all (limit_of (around (of_members all)))
    ∙ ap (within (v.Record all)) (ap limit_of (measures-Record all) ∙ limit-measures (v.Record all))

abbrev gives : Outcome (List (List ℕ × Value)) → Outcome Value
gives o = and_then o (λ all. tested (v.Record all))

next : (o : Outcome Value) (f : Value → Outcome RecordParts) (g : Value → Outcome (List (List ℕ × Value))) → ((x : Value) → and_then (f x) record_of ≡ gives (g x))
    → and_then (and_then o f) record_of ≡ gives (and_then o g)
next (Ok x) f g h = h x
next (Err fault) f g h = refl

-- none of the keys that come is among those that are kept
abbrev Apart : List (List ℕ × Value) → List (List ℕ) → Type 0
Apart all ks = (k : List ℕ) → stands k ks ≡ true → find k all ≡ None

apart_put : (key : List ℕ) (x : Value) (all : List (List ℕ × Value)) (ks : List (List ℕ)) → Apart all (key ∷ ks) → stands key ks ≡ false → Apart (put key x all) ks
apart_put key x all ks apart alone k h =
    find-put_other key k x all (λ e. let t : true ≡ false = sym h ∙ ap (λ q. stands q ks) (same_key k key e) ∙ alone in absurd (cc))
    ∙ apart k (stands_behind k key ks h)

module _ (last : List (List ℕ × ℕ)) (env : Env) where
  abbrev Goes : List (List ℕ × Meaning) → ℕ → List (List ℕ × Value) → Type 0
  Goes ps at all = and_then (members_kept last ps at env (members_of all)) record_of ≡ gives (members ps env all)

  turn : (b : Bool) (p : List ℕ × Meaning) (ps : List (List ℕ × Meaning)) (at : ℕ) (all : List (List ℕ × Value)) → stands p.0 (keys_of ps) ≡ b
      → is_at (find p.0 last) at ≡ not b → Apart all (p.0 ∷ keys_of ps) → ((all : List (List ℕ × Value)) → Apart all (keys_of ps) → Goes ps (at + 1) all) → (x : Value)
      → and_then (members_kept last ps (at + 1) env (with_last (is_at (find p.0 last) at) p.0 x (members_of all))) record_of ≡ gives (members ps env (put p.0 x all))
  turn true p ps at all again e apart more x =
      ap (λ b. and_then (members_kept last ps (at + 1) env (with_last b p.0 x (members_of all))) record_of) e
      ∙ more all (λ k h. apart k (stands_behind k p.0 (keys_of ps) h))
      ∙ ap gives (sym (skip p.0 x ps env all again))
  turn false p ps at all alone e apart more x =
      ap (λ b. and_then (members_kept last ps (at + 1) env (with_last b p.0 x (members_of all))) record_of) e
      ∙ ap (λ parts. and_then (members_kept last ps (at + 1) env parts) record_of) (more_kept p.0 x all (apart p.0 (stands_here p.0 (keys_of ps))))
      ∙ more (put p.0 x all) (apart_put p.0 x all (keys_of ps) apart alone)

  last_of : (b : Bool) (key : List ℕ) (ks : List (List ℕ)) (at : ℕ) (m : List (List ℕ × ℕ)) → last ≡ places (key ∷ ks) at m → stands key ks ≡ b → is_at (find key last) at ≡ not b
  last_of true key ks at m e h = ap (λ l. is_at (find key l) at) e ∙ is_not_last key ks at m h
  last_of false key ks at m e h = ap (λ l. is_at (find key l) at) e ∙ is_last key ks at m h

  go : (ps : List (List ℕ × Meaning)) (at : ℕ) (m : List (List ℕ × ℕ)) (all : List (List ℕ × Value)) → last ≡ places (keys_of ps) at m → Apart all (keys_of ps) → Goes ps at all
  go [] at m all e apart = whole all
  go (p ∷ ps) at m all e apart =
      next (p.1 env) (λ x. members_kept last ps (at + 1) env (with_last (is_at (find p.0 last) at) p.0 x (members_of all))) (λ x. members ps env (put p.0 x all))
      (turn (stands p.0 (keys_of ps)) p ps at all refl (last_of (stands p.0 (keys_of ps)) p.0 (keys_of ps) at m e refl) apart (λ all far. go ps (at + 1) (put p.0 at m) all e far))

abbrev meant : List (List ℕ × Expr) → List (List ℕ × Meaning)
meant pairs = map (λ pair. (pair.0, meaning pair.1)) pairs

keys_meant : (pairs : List (List ℕ × Expr)) → map (λ pair. pair.0) pairs ≡ keys_of (meant pairs)
keys_meant [] = refl
keys_meant (p ∷ pairs) = ap (λ ks. p.0 ∷ ks) (keys_meant pairs)

pub record_gives : (pairs : List (List ℕ × Expr)) (env : Env)
    → and_then (members_kept (places (map (λ pair. pair.0) pairs) 0 []) (meant pairs) 0 env no_members) record_of ≡ gives (members (meant pairs) env [])
record_gives pairs env =
    go (places (map (λ pair. pair.0) pairs) 0 []) env (meant pairs) 0 [] [] (ap (λ ks. places ks 0 []) (keys_meant pairs)) (λ k h. refl)

-- what the literal gives, once its parts are known
pub record_done : (pairs : List (List ℕ × Expr)) (env : Env) (last : List (List ℕ × ℕ)) (parts : Outcome RecordParts) → last ≡ places (map (λ pair. pair.0) pairs) 0 []
    → members_kept last (meant pairs) 0 env no_members ≡ parts → and_then parts record_of ≡ gives (members (meant pairs) env [])
record_done pairs env last parts e h =
    ap (λ o. and_then o record_of) (sym h) ∙ ap (λ l. and_then (members_kept l (meant pairs) 0 env no_members) record_of) e ∙ record_gives pairs env
