-- How much is left to do, by the vertices that were not met.
use Rattle.std.proofs.Common.{ℕ, zero, suc, ◌+◌, ◌≤◌, ◌≡◌, List, [], ◌∷◌, Some, length, arith}
use Rattle.std.specs.Prelude.{slice_get, slice_set, slice_index_or}
use Rattle.graph_cycles.specs.declared.search.Place.{Place}
use Rattle.graph_cycles.specs.declared.search.Place.TheVariants.{Unmet, Open, Closed}
use Rattle.graph_cycles.specs.Graphs.{Rows}
use Rattle.graph_cycles.specs.code.Sets.{set_all}
use Rattle.graph_cycles.specs.code.Searches.{unmet}

-- one vertex is met
pub one_met : (rows : Rows) (ps : List Place) (x n : ℕ) → length ps ≡ length rows → slice_get ps x ≡ Some Unmet
    → unmet rows (slice_set ps x (Open n)) + (length (slice_index_or rows x []) + 1) ≡ unmet rows ps
one_met [] [] x n e h = absurd (cc)
one_met [] (p ∷ ps) x n e h = absurd (omega (arith, e))
one_met (row ∷ rows) [] x n e h = absurd (cc)
one_met (row ∷ rows) (Unmet ∷ ps) zero n e h = omega arith
one_met (row ∷ rows) (Open k ∷ ps) zero n e h = absurd (cc)
one_met (row ∷ rows) (Closed ∷ ps) zero n e h = absurd (cc)
one_met (row ∷ rows) (Unmet ∷ ps) (suc x) n e h = let m = one_met rows ps x n (omega (arith, e)) h in omega (arith, m)
one_met (row ∷ rows) (Open k ∷ ps) (suc x) n e h = one_met rows ps x n (omega (arith, e)) h
one_met (row ∷ rows) (Closed ∷ ps) (suc x) n e h = one_met rows ps x n (omega (arith, e)) h

-- to close a vertex leaves no more to do
one_closed : (rows : Rows) (ps : List Place) (x : ℕ) → unmet rows (slice_set ps x Closed) ≤ unmet rows ps
one_closed [] ps x = omega arith
one_closed (row ∷ rows) [] x = omega arith
one_closed (row ∷ rows) (Unmet ∷ ps) zero = omega arith
one_closed (row ∷ rows) (Open k ∷ ps) zero = omega arith
one_closed (row ∷ rows) (Closed ∷ ps) zero = omega arith
one_closed (row ∷ rows) (Unmet ∷ ps) (suc x) = omega (arith, one_closed rows ps x)
one_closed (row ∷ rows) (Open k ∷ ps) (suc x) = one_closed rows ps x
one_closed (row ∷ rows) (Closed ∷ ps) (suc x) = one_closed rows ps x

-- nor do several
pub all_closed : (rows : Rows) (ks : List ℕ) (ps : List Place) → unmet rows (set_all ks Closed ps) ≤ unmet rows ps
all_closed rows [] ps = omega arith
all_closed rows (k ∷ ks) ps = omega (arith, all_closed rows ks (slice_set ps k Closed), one_closed rows ps k)
