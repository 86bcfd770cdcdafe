-- Lemmas on counts of bytes.
use Rattle.std.proofs.Common.{ℕ, ◌+◌, ◌<◌, ◌≤◌, List, ◌++◌, None, Some, length, ap, arith, length-append, IfSome}
use Rattle.std.specs.declared.option.Option.{Option}
use Rattle.std.proofs.KnownBytes.{Consumes-trans}
use Rattle.vg_io.specs.declared.limits.TheConstants.{INPUT_LIMIT}
use Rattle.vg_io.specs.Lines.{TakesBytes}
use Rattle.server_shell.specs.Served.{TakesOver, TakesAtMost}

module _ (a b c : Option (List ℕ)) (s t u : ℕ) where
  pub takes_more : TakesBytes a b s t → TakesBytes b c t u → TakesBytes a c s u
  takes_more (xs, p, m) (ys, q, n) = (
    xs ++ ys,
    Consumes-trans a b c xs ys p q,
    omega (arith, length-append xs ys),
  )

pub over_from : (a c : Option (List ℕ)) (t : ℕ) → TakesBytes a c 0 t → INPUT_LIMIT < t
    → IfSome a (λ _. TakesOver a c)
over_from None c t (bytes, p, n) h = tt
over_from (Some xs) None t (bytes, p, n) h = absurd p
over_from (Some xs) (Some ys) t (bytes, p, n) h = omega (arith, ap length p, length-append bytes ys)

pub over_is : (a c : Option (List ℕ)) (t : ℕ) → TakesBytes a c 0 t → TakesOver a c → INPUT_LIMIT < t
over_is None c t (bytes, p, n) h = absurd h
over_is (Some xs) None t (bytes, p, n) h = absurd p
over_is (Some xs) (Some ys) t (bytes, p, n) h = omega (arith, ap length p, length-append bytes ys)

pub at_most_from : (a c : Option (List ℕ)) (t : ℕ) → TakesBytes a c 0 t → t ≤ INPUT_LIMIT + 1
    → TakesAtMost a c
at_most_from None c t (bytes, p, n) h = tt
at_most_from (Some xs) None t (bytes, p, n) h = absurd p
at_most_from (Some xs) (Some ys) t (bytes, p, n) h = omega (
  arith,
  ap length p,
  length-append bytes ys,
)
