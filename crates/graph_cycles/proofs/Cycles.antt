-- Walks: what is reached there and back lies on a cycle.
use Rattle.std.proofs.Common.{ℕ, ◌≢◌, List, [], ◌∷◌, refl}
use Rattle.graph_cycles.specs.Graphs.{Rows, LeadsTo, LeadsThrough, IsOnCycle}
use Rattle.graph_cycles.specs.code.Reaches.{Reaches}
use Rattle.graph_cycles.specs.code.Reaches.Reaches.{here, onward}

module _ (rows : Rows) where
  -- one edge more at the end
  pub reaches_on : {x y z : ℕ} → Reaches rows x y → LeadsTo rows y z → Reaches rows x z
  reaches_on here e = onward e here
  reaches_on (onward d r) e = onward d (reaches_on r e)

  -- an edge and a walk, as the list of the vertices between
  through : {x y z : ℕ} → LeadsTo rows x y → Reaches rows y z → (ms : List ℕ) × LeadsThrough rows x ms z
  through e here = ([], e)
  through {y = y} e (onward d r) = let w = through d r in (y ∷ w.0, (e, w.1))

  -- two walks, one behind the other
  pub reaches_from : {x y z : ℕ} → Reaches rows x y → Reaches rows y z → Reaches rows x z
  reaches_from here s = s
  reaches_from (onward d r) s = onward d (reaches_from r s)

  -- another vertex, there and back
  pub round_trip : {x y : ℕ} → Reaches rows x y → x ≢ y → Reaches rows y x → IsOnCycle rows x
  round_trip here ne back = absurd (ne refl)
  round_trip (onward d r) ne back = through d (reaches_from r back)

  -- what edges do not lead out of is not left on a walk
  pub stays_in : (In : ℕ → Type 0) → ((x y : ℕ) → In x → LeadsTo rows x y → In y) → (ms : List ℕ) (x z : ℕ) → In x → LeadsThrough rows x ms z → In z
  stays_in In next [] x z i e = next x z i e
  stays_in In next (m ∷ ms) x z i w = stays_in In next ms m z (next x m i w.0) w.1
