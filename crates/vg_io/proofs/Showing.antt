-- What a sink has shown: a front of what was written, which only grows.
use Rattle.std.proofs.Common.{◌≡◌, ℕ, ◌+◌, ◌-◌, ◌≤◌, List, [], ◌++◌, None, Some, length, take, drop, refl, sym, ap, ◌∙◌, take-append-drop, append-nil, arith, length-append, length-take}
use Rattle.std.specs.declared.option.Option.{Option}
use Rattle.std.specs.Io.KnownBytes.{Appends, Keeps}
use Rattle.std.proofs.KnownBytes.{Appends-nil, Appends-trans}
use Rattle.std.proofs.Math.Seq.{take-append-le, take-take, take-length, take_all}
use Rattle.vg_io.specs.Sinks.{IsFrontOf, all_but}

-- a front of a front
pub front_longer : (a b c : Option (List ℕ)) → IsFrontOf a b → IsFrontOf b c → IsFrontOf a c
front_longer a b c p q = record {
  rest = p.rest ++ q.rest;
  appends = Appends-trans a b c p.rest q.rest p.appends q.appends;
}

-- all of the bytes are a front
pub front_same : (a : Option (List ℕ)) → IsFrontOf a a
front_same a = record { rest = []; appends = Appends-nil a }

-- ---- the first bytes of a list, as the sink over memory has it

-- they are a front
pub front_taken : (n : ℕ) (xs : List ℕ) → IsFrontOf (Some (take n xs)) (Some xs)
front_taken n xs = record { rest = drop n xs; appends = sym (take-append-drop n xs) }

-- it stays so where bytes are appended
pub front_appended : (n : ℕ) (xs bs : List ℕ) → n ≤ length xs
    → IsFrontOf (Some (take n xs)) (Some (take n (xs ++ bs)))
front_appended n xs bs h = record {
  rest = [];
  appends = take-append-le n xs bs h
      ∙ sym (append-nil (take n xs));
}

-- and where all is shown
pub front_all : (n : ℕ) (xs : List ℕ) → IsFrontOf (Some (take n xs)) (Some (take (length xs) xs))
front_all n xs = record { rest = drop n xs; appends = take-length xs ∙ sym (take-append-drop n xs) }

-- ---- all but the last bytes, as the adapter has it

pub all_but_within : (n : ℕ) (a : Option (List ℕ)) → IsFrontOf (all_but n a) a
all_but_within n None = record { rest = []; appends = tt }
all_but_within n (Some xs) = front_taken (length xs - n) xs

Keeps-appends : (a b : Option (List ℕ)) → Keeps a b → Appends a b []
Keeps-appends None b p = tt
Keeps-appends (Some xs) None p = absurd p
Keeps-appends (Some xs) (Some ys) p = p ∙ sym (append-nil xs)

module _ (a b : Option (List ℕ)) (h k : ℕ) where
  -- where bytes are appended, and no more of them are held back besides, what was shown stays so
  pub all_but_appended : (bs : List ℕ) → Appends a b bs → k ≤ h + length bs
      → IsFrontOf (all_but h a) (all_but k b)
  all_but_appended bs p fits = longer a b p
    where
      longer : (a b : Option (List ℕ)) → Appends a b bs → IsFrontOf (all_but h a) (all_but k b)
      longer None b p = record { rest = []; appends = tt }
      longer (Some xs) None p = absurd p
      longer (Some xs) (Some ys) p =
          let m = length xs - h in
          let n = length ys - k in
          let longer : m ≤ n = omega (arith, ap length p, length-append xs bs, fits) in
          let small : m ≤ length xs = omega arith in
          let front = take-take m n ys longer ∙ ap (take m) p ∙ take-append-le m xs bs small in
          record {
            rest = drop m (take n ys);
            appends = sym (take-append-drop m (take n ys))
                ∙ ap (λ l. l ++ drop m (take n ys)) front;
          }

  -- the front of a piece was appended
  pub all_but_written : (n : ℕ) (piece : List ℕ) → Appends a b (take n piece) → (n ≤ length piece)
      × (k ≤ h + n)
      → IsFrontOf (all_but h a) (all_but k b)
  all_but_written n piece p fits = all_but_appended (take n piece) p
      (omega (arith, fits, length-take n piece))

  -- the same where no byte is appended
  pub all_but_kept : Keeps a b → k ≤ h → IsFrontOf (all_but h a) (all_but k b)
  all_but_kept p fits = all_but_appended [] (Keeps-appends a b p) (omega (arith, fits))

-- where none are held back all is shown
pub all_but_none : (a : Option (List ℕ)) → all_but 0 a ≡ a
all_but_none None = refl
all_but_none (Some xs) = ap Some (take_all (length xs - 0) xs (omega arith))

-- no byte was appended
pub none_appended : (a b : Option (List ℕ)) (n : ℕ) (piece : List ℕ) → Appends a b (take n piece)
    → n ≤ 0 → Keeps a b
none_appended None b n piece p none = tt
none_appended (Some xs) None n piece p none = absurd p
none_appended (Some xs) (Some ys) n piece p none =
    let zero : n ≡ 0 = omega arith in p ∙ ap (λ k. xs ++ take k piece) zero ∙ append-nil xs

-- what the sink over memory needs of these, and what the adapter needs
pub ruleset fronts = (
  front_same,
  front_taken,
  front_appended,
  front_all,
  take-append-le,
  take-length,
)

pub ruleset held_back = (all_but_within, all_but_written, all_but_kept, all_but_none, none_appended)
