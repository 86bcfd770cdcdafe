-- One edge more stays within the graph; the marks before the search, vertex by vertex; and the marks at its end, where
-- no group is there, so nothing is open, and nothing is unmet.
use Rattle.std.proofs.Common.{arith, ◌≡◌, ◌⊎◌, ◌↔◌, ⊎_elim, sym, ap, subst, ◌∙◌, ℕ, ◌+◌, ◌<◌, ◌≤◌, ◌^◌, Bool, true, Some, List, [], ◌∷◌, ◌++◌, length, length-append}
use Rattle.std.specs.Prelude.{slice_get, slice_set, slice_index_or, Contains}
use Rattle.std.proofs.lemmas.Bool.{cases_eq, cases_lt}
use Rattle.std.proofs.lemmas.List.{get_or-set_same, get_or-set_other}
use Rattle.std.proofs.lemmas.List.Elements.{Contains-push_cases}
use Rattle.std.proofs.lemmas.Option.{slice_get_within, same_Some}
use Rattle.std.proofs.Math.ListN.{get_or-eq_default}
use Rattle.graph_cycles.specs.declared.search.Search.{Search}
use Rattle.graph_cycles.specs.declared.search.Place.{Place}
use Rattle.graph_cycles.specs.declared.search.Place.TheVariants.{Unmet, Open, Closed}
use Rattle.graph_cycles.specs.Graphs.{Rows, LeadsTo, IsOnCycle, IsWithin}
use Rattle.graph_cycles.specs.code.Searches.{IsClosed, AreLoops}
use Rattle.graph_cycles.specs.code.Steps.{HasRun}
use Rattle.graph_cycles.proofs.Lists.{push_cases, left_old, push_new, set_length, some_at}

-- ---- one edge more

-- an edge between vertices of the graph keeps it within
pub leads_within : (rows : Rows) (x y : ℕ) → IsWithin rows → x < length rows → y < length rows → IsWithin (slice_set rows x (slice_index_or rows x [] ++ y ∷ []))
leads_within rows x y w lx ly = record { few = subst (λ n. n ≤ 2 ^ 32) (sym size) w.few; inside = inside }
  where
    more : Rows
    more = slice_set rows x (slice_index_or rows x [] ++ y ∷ [])

    size : length more ≡ length rows
    size = set_length rows x (slice_index_or rows x [] ++ y ∷ [])

    at_x : (b : ℕ) → LeadsTo more x b → b < length rows
    at_x b e = ⊎_elim (λ old. w.inside x b old) (λ same. subst (λ n. n < length rows) same ly)
        (Contains-push_cases (slice_index_or rows x []) y b (subst (λ l. Contains l b) (get_or-set_same rows x (slice_index_or rows x [] ++ y ∷ []) [] lx) e))

    inside : (a b : ℕ) → LeadsTo more a b → b < length more
    inside a b e = subst (λ n. b < n) (sym size) (⊎_elim (λ same. at_x b (subst (λ n. LeadsTo more n b) same e))
        (λ ne. w.inside a b (subst (λ l. Contains l b) (get_or-set_other rows x a (slice_index_or rows x [] ++ y ∷ []) [] ne) e))
        (cases_eq a x))

-- ---- the beginning

-- past the last vertex there is no edge
no_edge : (rows : Rows) (x y : ℕ) → length rows ≤ x → LeadsTo rows x y → ⊥
no_edge rows x y past e = none (subst (λ l. Contains l y) (get_or-eq_default rows [] past) e)
  where
    none : Contains [] y → ⊥
    none c = omega (arith, c.1)

-- one vertex more is looked at
pub loops_more : (rows : Rows) (marks : List Bool) (b : Bool) → AreLoops rows marks → (b ≡ true) ↔ LeadsTo rows (length marks) (length marks) → AreLoops rows (marks ++ b ∷ [])
loops_more rows marks b loops last = record { each = each }
  where
    each : (x : ℕ) → x < length (marks ++ b ∷ []) → (slice_get (marks ++ b ∷ []) x ≡ Some true) ↔ LeadsTo rows x x
    each x lt = ⊎_elim
        (λ old. (
          (λ m. ⊎_elim (λ o. (loops.each x old).0 o) (λ n. absurd (omega (arith, n.0, old))) (push_cases marks b x true m)),
          (λ e. left_old marks (b ∷ []) x true ((loops.each x old).1 e)),
        ))
        (λ new.
        let e : length marks ≡ x = omega (arith, new, lt, length-append marks (b ∷ [])) in
        subst (λ x. (slice_get (marks ++ b ∷ []) x ≡ Some true) ↔ LeadsTo rows x x) e
        ((λ m. last.0 (same_Some b true (sym (push_new marks b) ∙ m))), (λ d. push_new marks b ∙ ap Some (last.1 d))))
        (cases_lt x (length marks))

-- all vertices were looked at
pub all_loops : (rows : Rows) (marks : List Bool) → length marks ≡ length rows → AreLoops rows marks → (x : ℕ) → (slice_get marks x ≡ Some true) ↔ LeadsTo rows x x
all_loops rows marks size loops x = ⊎_elim (λ lt. loops.each x lt)
    (λ past. ((λ m. let lt = slice_get_within marks x true m in absurd (omega (arith, lt, past))), (λ e. absurd (no_edge rows x x (omega (arith, past, size)) e))))
    (cases_lt x (length marks))

-- ---- the end

-- each vertex is closed
closed_by : (rows : Rows) (s : Search) (x : ℕ) (p : Place) → HasRun rows (length rows) s → slice_get s.places.items x ≡ Some p → x < length rows → IsClosed s x
closed_by rows s x Unmet run at lt = absurd (run.met x lt at)
closed_by rows s x Closed run at lt = at
closed_by rows s x (Open k) run at lt =
    let c = run.search.sound.path.covered k x ((run.search.sound.path.placed k x).1 at) in
    let some = slice_get_within s.groups.items c.0 c.1 c.2 in
    absurd (omega (arith, some, ap length run.idle))

past_cycle : (rows : Rows) (x : ℕ) → length rows ≤ x → IsOnCycle rows x → ⊥
past_cycle rows x past ([], e) = no_edge rows x x past e
past_cycle rows x past (m ∷ ms, w) = no_edge rows x m past w.0

-- the marks are those of the cycles
pub ended : (rows : Rows) (s : Search) → HasRun rows (length rows) s → (x : ℕ) → (slice_get s.marks.items x ≡ Some true) ↔ IsOnCycle rows x
ended rows s run x = ⊎_elim
    (λ lt. let p = some_at s.places.items x (omega (arith, lt, run.search.sound.sized)) in run.search.sound.marks.right x (closed_by rows s x p.0 run p.1 lt))
    (λ past. ((λ m. let lt = slice_get_within s.marks.items x true m in absurd (omega (arith, lt, past, run.search.sound.marked))), (λ c. absurd (past_cycle rows x past c))))
    (cases_lt x (length rows))
