-- Reading a list of items. A list has one right answer at most (`one_answer`), whatever spells what; and the answer of an exact machine is right
-- (`reads`). So a reader that shows its machine exact owes nothing more. A clause can't range over all relations, so these are no contract of a
-- function here: a reader states them of its own relation and machine, as laws, and proves them by one name each from this file.
use Rattle.std.proofs.Common.{◌≡◌, ℕ, zero, suc, ◌+◌, ◌<◌, ◌≤◌, ◌⊎◌, inl, inr, List, [], ◌∷◌, ◌++◌, length, take, drop, Option, Some, None, Result, Ok, Err, refl, sym, ap, subst, ◌∙◌, arith, append_assoc, length-append}
use Rattle.std.proofs.lemmas.List.{append-nil, take_at, drop_at, drop_all}
use Rattle.std.specs.Option.{option_and_then, option_map_or, ok_or}
use Rattle.std.proofs.lemmas.Bool.{cases_lt, cases_order}
use Rattle.std.proofs.lemmas.Option.{none-some, same_Some}
use Rattle.std.proofs.Math.Nat.{eq-or-lt_of_le}
use Rattle.std.proofs.Math.Seq.{take-length}
use Rattle.vg_base.specs.Reading.{Begins, FitsNone, FirstUnfit, SpellsOnly, Reads, Machine, run, answer_from, answer, ReadsAs, IsExact}

module _ {X R : Type 0} (Spells : List X → R → Type 0) where
  -- ---- one answer

  -- fewer items begin what more items begin
  pub begins_less : (before more : List X) → Begins Spells (before ++ more) → Begins Spells before
  begins_less before more b = (more ++ b.0, b.1, subst (λ (l : List X). Spells l b.1) (append_assoc before more b.0) b.2)

  -- what spells something begins it
  pub spells_begins : (items : List X) (result : R) → Spells items result → Begins Spells items
  spells_begins items result h = ([], result, subst (λ (l : List X). Spells l result) (sym (append-nil items)) h)

  -- a front of some items, and a longer one
  record Longer (m n : ℕ) (items : List X) : Type 0 where
    item : X
    rest : List X
    more : List X
    next : drop m items ≡ item ∷ rest
    front : take n items ≡ (take m items ++ item ∷ []) ++ more

  longer : (m n : ℕ) (items : List X) → m < n → n ≤ length items → Longer m n items
  longer m n [] h k = absurd (omega arith)
  longer m zero (x ∷ xs) h k = absurd (omega arith)
  longer zero (suc n) (x ∷ xs) h k = record { item = x; rest = xs; more = take n xs; next = refl; front = refl }
  longer (suc m) (suc n) (x ∷ xs) h k =
      let l = longer m n xs (omega arith) (omega arith) in
      record { item = l.item; rest = l.rest; more = l.more; next = l.next; front = ap (λ (ys : List X). x ∷ ys) l.front }

  -- an unfit item ends all that begins something
  not_beyond : (items : List X) (m n : ℕ) → FirstUnfit Spells items m → n ≤ length items → Begins Spells (take n items) → m < n → ⊥
  not_beyond items m n u k b h =
      let l = longer m n items h k in
      subst (FitsNone Spells (take m items)) l.next u.unfit (begins_less (take m items ++ l.item ∷ []) l.more (subst (Begins Spells) l.front b))

  one_place : (items : List X) (m n : ℕ) → FirstUnfit Spells items m → FirstUnfit Spells items n → m ≡ n
  one_place items m n h k = by_order (cases_order m n)
    where
      by_order : (m ≡ n) ⊎ ((m < n) ⊎ (n < m)) → m ≡ n
      by_order (inl e) = e
      by_order (inr (inl l)) = absurd (not_beyond items m n h k.within k.begins l)
      by_order (inr (inr l)) = absurd (not_beyond items n m k h.within h.begins l)

  not_both : (items : List X) (result : R) (at : ℕ) → Spells items result → FirstUnfit Spells items at → ⊥
  not_both items result at h u = by_order (eq-or-lt_of_le u.within)
    where
      by_order : (at ≡ length items) ⊎ (at < length items) → ⊥
      by_order (inr l) = not_beyond items at (length items) u (omega arith) (subst (Begins Spells) (sym (take-length items)) (spells_begins items result h)) l
      by_order (inl e) =
          let at_end : FitsNone Spells (take (length items) items) (drop (length items) items) = subst (λ n. FitsNone Spells (take n items) (drop n items)) e u.unfit in
          let unfit : FitsNone Spells items [] = subst (λ (l : List X). FitsNone Spells items l) (drop_all (length items) items (omega arith)) (subst (λ (l : List X). FitsNone Spells l (drop (length items) items)) (take-length items) at_end) in
          unfit result h

  -- two right answers to one list of items are one
  pub one_answer : (items : List X) (a b : Result R ℕ) → Reads Spells items a → Reads Spells items b → a ≡ b
  one_answer items (Ok x) (Ok y) h k = ap Ok (k.only x h.spells)
  one_answer items (Ok x) (Err n) h k = absurd (not_both items x n h.spells k)
  one_answer items (Err m) (Ok y) h k = absurd (not_both items y m k.spells h)
  one_answer items (Err m) (Err n) h k = ap Err (one_place items m n h k)

-- ---- the answer of a machine

module _ {X R S : Type 0} (machine : Machine X R S) where
  -- items one after another
  pub run-append : (state : S) (items more : List X) → run machine state (items ++ more) ≡ option_and_then (λ next. run machine next more) (run machine state items)
  run-append state [] more = refl
  run-append state (x ∷ xs) more = by_step (machine.step state x) (λ next. run-append next xs more)
    where
      by_step : (o : Option S) → ((next : S) → run machine next (xs ++ more) ≡ option_and_then (λ last. run machine last more) (run machine next xs))
          → option_and_then (λ next. run machine next (xs ++ more)) o ≡ option_and_then (λ last. run machine last more) (option_and_then (λ next. run machine next xs) o)
      by_step None on = refl
      by_step (Some next) on = on next

  run-then : (state next : S) (items more : List X) → run machine state items ≡ Some next → run machine state (items ++ more) ≡ run machine next more
  run-then state next items more e = run-append state items more ∙ ap (λ o. option_and_then (λ s. run machine s more) o) e

  run-one : (state : S) (item : X) → run machine state (item ∷ []) ≡ machine.step state item
  run-one state item = by_step (machine.step state item)
    where
      by_step : (o : Option S) → option_and_then (λ next. Some next) o ≡ o
      by_step None = refl
      by_step (Some next) = refl

  module _ (Spells : List X → R → Type 0) (exact : IsExact machine Spells) where
    -- behind these items the machine is in this state
    module _ (items : List X) (state : S) (runs : run machine machine.start items ≡ Some state) where
      -- with one more item that stops it they begin nothing
      stuck : (item : X) → machine.step state item ≡ None → Begins Spells (items ++ item ∷ []) → ⊥
      stuck item e b =
          let c = exact.complete ((items ++ item ∷ []) ++ b.0) b.1 b.2 in
          let stops : run machine machine.start (items ++ item ∷ []) ≡ None = run-then machine.start state items (item ∷ []) runs ∙ (run-one state item ∙ e) in
          none-some c.last (sym (run-append machine.start (items ++ item ∷ []) b.0 ∙ ap (option_and_then (λ s. run machine s b.0)) stops) ∙ c.runs)

      -- what they spell is the result of the state
      result_is : (result : R) → Spells items result → machine.result_of state ≡ Some result
      result_is result h = let c = exact.complete items result h in ap machine.result_of (same_Some state c.last (sym runs ∙ c.runs)) ∙ c.ends

      spells_only : (result : R) → machine.result_of state ≡ Some result → SpellsOnly Spells items result
      spells_only result e = record {
        spells = exact.sound items result (record { last = state; runs = runs; ends = e });
        only = λ other h. same_Some other result (sym (result_is other h) ∙ e);
      }

      unfit_at : (rest : List X) → FitsNone Spells items rest → FirstUnfit Spells (items ++ rest) (length items)
      unfit_at rest none =
          let front : take (length items) (items ++ rest) ≡ items = take_at items rest (length items) refl in
          let back : drop (length items) (items ++ rest) ≡ rest = drop_at items rest (length items) refl in
          record {
            within = omega (arith, length-append items rest);
            begins = subst (Begins Spells) (sym front) (exact.viable items state runs);
            unfit = subst (λ (l : List X). FitsNone Spells l (drop (length items) (items ++ rest))) (sym front) (subst (FitsNone Spells items) (sym back) none);
          }

    -- from each state the answer is right
    reads_from : (items rest : List X) (state : S) → run machine machine.start items ≡ Some state → Reads Spells (items ++ rest) (answer_from machine (length items) state rest)
    reads_from items [] state runs = by_result (machine.result_of state) refl
      where
        by_result : (o : Option R) → machine.result_of state ≡ o → Reads Spells (items ++ []) (ok_or o (length items))
        by_result None e = unfit_at items state runs [] (λ result h. none-some result (sym e ∙ result_is items state runs result h))
        by_result (Some result) e = subst (λ (l : List X). SpellsOnly Spells l result) (sym (append-nil items)) (spells_only items state runs result e)
    reads_from items (x ∷ rest) state runs = by_step (machine.step state x) refl (λ next e. reads_from (items ++ x ∷ []) rest next e)
      where
        by_step : (o : Option S) → machine.step state x ≡ o
            → ((next : S) → run machine machine.start (items ++ x ∷ []) ≡ Some next → Reads Spells ((items ++ x ∷ []) ++ rest) (answer_from machine (length (items ++ x ∷ [])) next rest))
            → Reads Spells (items ++ x ∷ rest) (option_map_or (λ next. answer_from machine (suc (length items)) next rest) o (Err (length items)))
        by_step None e more = unfit_at items state runs (x ∷ rest) (stuck items state runs x e)
        by_step (Some next) e more =
            let long : length (items ++ x ∷ []) ≡ suc (length items) = omega (arith, length-append items (x ∷ [])) in
            let next_runs : run machine machine.start (items ++ x ∷ []) ≡ Some next = run-then machine.start state items (x ∷ []) runs ∙ (run-one state x ∙ e) in
            let read : Reads Spells ((items ++ x ∷ []) ++ rest) (answer_from machine (suc (length items)) next rest) = subst (λ n. Reads Spells ((items ++ x ∷ []) ++ rest) (answer_from machine n next rest)) long (more next next_runs) in
            subst (λ (l : List X). Reads Spells l (answer_from machine (suc (length items)) next rest)) (append_assoc items (x ∷ []) rest) read

    -- an exact machine answers rightly
    pub reads : (items : List X) → Reads Spells items (answer machine items)
    reads items = reads_from [] items machine.start refl

    -- and no other answer is right
    pub reads_only : (items : List X) (a : Result R ℕ) → Reads Spells items a → a ≡ answer machine items
    reads_only items a h = one_answer Spells items a (answer machine items) h (reads items)
