-- Notes in a row, one of which has changed.
use Rattle.std.proofs.Common.{◌≡◌, ◌≢◌, ℕ, zero, suc, ◌+◌, ◌<◌, ◌≤◌, List, [], ◌∷◌, ◌++◌, map, length, sym, ◌∙◌, subst, refl, ap, arith, append_assoc, lt_of_not-le, max, drop, replicate, Option, Some, None}
use Rattle.std.specs.Prelude.{slice_index_or, slice_set}
use Rattle.std.proofs.lemmas.List.{get_or-set_same, get_or-set_other}
use Rattle.std.proofs.lemmas.List.{set-get_or}
use Rattle.std.proofs.Math.ListN.{length-replicate, length-map}
use Rattle.std.proofs.Math.Seq.{map-set_same}
use mathlib.Core.Logic.{dite}
use native.Mathlib.Decide.{ℕ_discrete, dec_le}
use Rattle.once_cell.specs.declared.race.note.Note.{Note}
use Rattle.std.specs.declared.alloc.Global.{Global}
use Rattle.std.specs.Prelude.{MatchOption}
use Rattle.std.specs.Borrow.{Bor}
use Rattle.once_cell.specs.Once.{cell_name, Agrees}
use Rattle.version_shelf.specs.Known.{facts, KnowsAt, KeepsFacts, pair_of, pairs}

module _ {X : Type 0} where
  abbrev pub empty : Option X
  empty = None

  pub facts_set : (notes : List (Note X)) (k : ℕ) (m : Note X) → facts (slice_set notes k m) ≡ slice_set (facts notes) k m.known
  facts_set [] k m = refl
  facts_set (x ∷ xs) zero m = refl
  facts_set (x ∷ xs) (suc k) m = ap (λ (t : List (Option X)). x.known ∷ t) (facts_set xs k m)

  pub names_set : (notes : List (Note X)) (k : ℕ) (m d : Note X) → k < length notes → m.cell ≡ (slice_index_or notes k d).cell → map (λ (n : Note X). n.cell) (slice_set notes k m) ≡ map (λ (n : Note X). n.cell) notes
  names_set [] k m d h e = refl
  names_set (x ∷ xs) zero m d h e = ap (λ (c : ℕ). c ∷ map (λ (n : Note X). n.cell) xs) e
  names_set (x ∷ xs) (suc k) m d h e = ap (λ (t : List ℕ). x.cell ∷ t) (names_set xs k m d (omega arith) e)

  -- the name at k
  pub name_at : (notes : List (Note X)) (k : ℕ) (d : Note X) → k < length notes → slice_index_or (map (λ (n : Note X). n.cell) notes) k 0 ≡ (slice_index_or notes k d).cell
  name_at [] k d h = absurd (omega arith)
  name_at (x ∷ xs) zero d h = refl
  name_at (x ∷ xs) (suc k) d h = name_at xs k d (omega arith)

  pub fact_at : (notes : List (Note X)) (k : ℕ) (d : Note X) → k < length notes → slice_index_or (facts notes) k None ≡ (slice_index_or notes k d).known
  fact_at [] k d h = absurd (omega arith)
  fact_at (x ∷ xs) zero d h = refl
  fact_at (x ∷ xs) (suc k) d h = fact_at xs k d (omega arith)

  pub knows_here : (notes : List (Note X)) (k : ℕ) (m : Note X) (x : X) → k < length notes → m.known ≡ Some x → KnowsAt (slice_set notes k m) k x
  knows_here [] k m x h e = absurd (omega arith)
  knows_here (y ∷ ys) zero m x h e = e
  knows_here (y ∷ ys) (suc k) m x h e = knows_here ys k m x (omega arith) e

  pub knows_else : (notes : List (Note X)) (k j : ℕ) (m : Note X) → j ≢ k → slice_index_or (facts (slice_set notes k m)) j None ≡ slice_index_or (facts notes) j None
  knows_else notes k j m n = ap (λ (t : List (Option X)). slice_index_or t j None) (facts_set notes k m) ∙ get_or-set_other (facts notes) k j m.known None n

  -- a note that keeps what it knew
  pub keeps_set : (notes : List (Note X)) (k : ℕ) (m d : Note X) → k < length notes → ((x : X) → (slice_index_or notes k d).known ≡ Some x → m.known ≡ Some x) → KeepsFacts notes (slice_set notes k m)
  keeps_set notes k m d h same j x e =
      dite (ℕ_discrete j k)
      (λ t. subst (λ (i : ℕ). KnowsAt (slice_set notes k m) i x) (sym t) (knows_here notes k m x h (same x (sym (fact_at notes k d h) ∙ (subst (λ (i : ℕ). KnowsAt notes i x) t e)))))
      (λ n. knows_else notes k j m n ∙ e)

  pub pairs_none : (n : ℕ) (os : List (Option X)) → ((k : ℕ) → slice_index_or os k None ≡ None) → pairs n os ≡ []
  pairs_none n [] all = refl
  pairs_none n (o ∷ os) all = ap (λ (p : Option X). pair_of n p ++ pairs (n + 1) os) (all 0) ∙ pairs_none (n + 1) os (λ k. all (suc k))

  -- one more pair at the end
  pub pairs_set : (n : ℕ) (os : List (Option X)) (k : ℕ) (x : X) → k < length os → ((j : ℕ) → k ≤ j → slice_index_or os j None ≡ None) → pairs n (slice_set os k (Some x)) ≡ pairs n os ++ (n + k, x) ∷ []
  pairs_set n [] k x h none = absurd (omega arith)
  pairs_set n (o ∷ os) zero x h none =
      let rest : pairs (n + 1) os ≡ [] = pairs_none (n + 1) os (λ j. none (suc j) (omega arith)) in
      let all : pairs n (o ∷ os) ≡ [] = pairs_none n (o ∷ os) (λ j. none j (omega arith)) in
      let at : n ≡ n + 0 = omega arith in
      ap (λ (t : List (ℕ × X)). (n, x) ∷ t) rest ∙ (ap (λ (k : ℕ). (k, x) ∷ []) at ∙ sym (ap (λ (t : List (ℕ × X)). t ++ (n + 0, x) ∷ []) all))
  pairs_set n (o ∷ os) (suc k) x h none =
      let r = pairs_set (n + 1) os k x (omega arith) (λ j le. none (suc j) (omega arith)) in
      let at : n + 1 + k ≡ n + suc k = omega arith in
      ap (λ (t : List (ℕ × X)). pair_of n o ++ t) (r ∙ ap (λ (i : ℕ). pairs (n + 1) os ++ (i, x) ∷ []) at) ∙ sym (append_assoc (pair_of n o) (pairs (n + 1) os) ((n + suc k, x) ∷ []))

  -- the note at k is of the cell at k
  pub of_cell : (notes : List (Note X)) (cells : List (Global × ℕ)) (k : ℕ) (m : Note X) (d : Global × ℕ) → map (λ (n : Note X). n.cell) notes ≡ map cell_name cells → k < length cells
      → m ≡ slice_index_or notes k m → d ≡ slice_index_or cells k d → m.cell ≡ cell_name d
  of_cell [] [] k m d e h p q = absurd (omega arith)
  of_cell [] (c ∷ cs) k m d e h p q = cc
  of_cell (n ∷ ns) [] k m d e h p q = absurd (omega arith)
  of_cell (n ∷ ns) (c ∷ cs) zero m d e h p q = ap (λ (t : Note X). t.cell) p ∙ (ap (λ (t : List ℕ). slice_index_or t 0 0) e ∙ sym (ap cell_name q))
  of_cell (n ∷ ns) (c ∷ cs) (suc k) m d e h p q = of_cell ns cs k m d (ap (λ (t : List ℕ). drop 1 t) e) (omega arith) p q

  -- a note that takes another's place, and knows x
  pub placed : (notes : List (Note X)) (k : ℕ) (m : Note X) (x : X) → m.known ≡ Some x → facts (slice_set notes k m) ≡ slice_set (facts notes) k (Some x)
  placed notes k m x e = facts_set notes k m ∙ ap (λ (o : Option X). slice_set (facts notes) k o) e

  -- a note is copied, and another takes its place
  pub kept : (notes : List (Note X)) (k : ℕ) (here copied : Note X) → here ≡ slice_index_or notes k here → copied ≡ here → slice_set notes k copied ≡ notes
  kept notes k here copied p q = ap (λ (n : Note X). slice_set notes k n) (q ∙ p) ∙ set-get_or notes k here

  pub names_after : (notes : List (Note X)) (k : ℕ) (here copied m : Note X) → here ≡ slice_index_or notes k here → copied ≡ here → m.cell ≡ here.cell
      → map (λ (n : Note X). n.cell) (slice_set (slice_set notes k copied) k m) ≡ map (λ (n : Note X). n.cell) notes
  names_after notes k here copied m p q e =
      ap (λ (l : List (Note X)). map (λ (n : Note X). n.cell) (slice_set l k m)) (kept notes k here copied p q) ∙ map-set_same (λ (n : Note X). n.cell) notes k m here (e ∙ ap (λ (n : Note X). n.cell) p)

  pub facts_after : (notes : List (Note X)) (k : ℕ) (here copied m : Note X) (x : X) → here ≡ slice_index_or notes k here → copied ≡ here → m.known ≡ Some x
      → facts (slice_set (slice_set notes k copied) k m) ≡ slice_set (facts notes) k (Some x)
  facts_after notes k here copied m x p q e = ap (λ (l : List (Note X)). facts (slice_set l k m)) (kept notes k here copied p q) ∙ placed notes k m x e

  none_replicate : (n k : ℕ) → slice_index_or (replicate n empty) k None ≡ None
  none_replicate zero k = refl
  none_replicate (suc n) zero = refl
  none_replicate (suc n) (suc k) = none_replicate n k

  -- the facts of a publisher that knows the base alone
  pub base_full : (fs : List (Option X)) (n : ℕ) (x : X) → fs ≡ slice_set (replicate (n + 1) None) 0 (Some x) → (k : ℕ) → k ≤ 0 → (y : X) × (slice_index_or fs k None ≡ Some y)
  base_full fs n x e k h =
      let z : k ≡ 0 = omega arith in
      (x, ap (λ (l : List (Option X)). slice_index_or l k None) e ∙ (ap (λ (i : ℕ). slice_index_or (slice_set (replicate (n + 1) empty) 0 (Some x)) i None) z ∙ get_or-set_same (replicate (n + 1) empty) 0 (Some x) None (rw length-replicate (omega arith))))

  pub base_empty : (fs : List (Option X)) (n : ℕ) (x : X) → fs ≡ slice_set (replicate (n + 1) None) 0 (Some x) → (k : ℕ) → 0 < k → slice_index_or fs k None ≡ None
  base_empty fs n x e k h = ap (λ (l : List (Option X)). slice_index_or l k None) e ∙ (get_or-set_other (replicate (n + 1) empty) 0 k (Some x) None (λ z. omega arith) ∙ none_replicate (n + 1) k)

  pub base_pairs : (number : ℕ) (fs : List (Option X)) (n : ℕ) (x : X) → fs ≡ slice_set (replicate (n + 1) None) 0 (Some x) → pairs number fs ≡ (number, x) ∷ []
  base_pairs number fs n x e =
      let none : pairs number (replicate (n + 1) empty) ≡ [] = pairs_none number (replicate (n + 1) None) (none_replicate (n + 1)) in
      let at : number + 0 ≡ number = omega arith in
      ap (λ (l : List (Option X)). pairs number l) e
      ∙ (pairs_set number (replicate (n + 1) None) 0 x (rw length-replicate (omega arith)) (λ j h. none_replicate (n + 1) j)
      ∙ (ap (λ (l : List (ℕ × X)). l ++ (number + 0, x) ∷ []) none ∙ ap (λ (i : ℕ). (i, x) ∷ []) at))

  pub facts_length : (notes : List (Note X)) (cells : List (Global × ℕ)) → map (λ (n : Note X). n.cell) notes ≡ map cell_name cells → length (facts notes) ≡ length cells
  facts_length notes cells e = length-map notes (λ (n : Note X). n.known) ∙ (sym (length-map notes (λ (n : Note X). n.cell)) ∙ (ap length e ∙ length-map cells cell_name))

  -- the publisher's facts after one more
  pub more_full : (old new : List (Option X)) (c : ℕ) (v : X) → new ≡ slice_set old (c + 1) (Some v) → c + 1 < length old → ((k : ℕ) → k ≤ c → (x : X) × (slice_index_or old k None ≡ Some x))
      → (k : ℕ) → k ≤ c + 1 → (x : X) × (slice_index_or new k None ≡ Some x)
  more_full old new c v e room full k h =
      dite (ℕ_discrete k (c + 1)) (λ z. (v, ap (λ (l : List (Option X)). slice_index_or l k None) e ∙ (ap (λ (i : ℕ). slice_index_or (slice_set old (c + 1) (Some v)) i None) z ∙ get_or-set_same old (c + 1) (Some v) None room)))
      (λ n. let f = full k (omega arith) in (f.0, ap (λ (l : List (Option X)). slice_index_or l k None) e ∙ (get_or-set_other old (c + 1) k (Some v) None n ∙ f.1)))

  pub more_empty : (old new : List (Option X)) (c : ℕ) (v : X) → new ≡ slice_set old (c + 1) (Some v) → ((k : ℕ) → c < k → slice_index_or old k None ≡ None) → (k : ℕ) → c + 1 < k → slice_index_or new k None ≡ None
  more_empty old new c v e none k h = ap (λ (l : List (Option X)). slice_index_or l k None) e ∙ (get_or-set_other old (c + 1) k (Some v) None (λ z. omega arith) ∙ none k (omega arith))

  pub more_pairs : (number : ℕ) (old new : List (Option X)) (c : ℕ) (v : X) → new ≡ slice_set old (c + 1) (Some v) → c + 1 < length old → ((k : ℕ) → c < k → slice_index_or old k None ≡ None)
      → pairs number new ≡ pairs number old ++ (number + (c + 1), v) ∷ []
  more_pairs number old new c v e room none = ap (λ (l : List (Option X)). pairs number l) e ∙ pairs_set number old (c + 1) v room (λ j h. none j (omega arith))

  pub notes_length : (notes : List (Note X)) (cells : List (Global × ℕ)) → map (λ (n : Note X). n.cell) notes ≡ map cell_name cells → length notes ≡ length cells
  notes_length notes cells e = sym (length-map notes (λ (n : Note X). n.cell)) ∙ (ap length e ∙ length-map cells cell_name)

  pub looked : (notes : List (Note X)) (k : ℕ) (here after : Note X) (r : Option (Bor X)) → here ≡ slice_index_or notes k here → k < length notes
      → MatchOption r ((here.known ≡ None) × (after.known ≡ None)) (λ r. (after.known ≡ Some r.now) × Agrees here.known r.now)
      → MatchOption r ((slice_index_or (facts notes) k None ≡ None) × (facts (slice_set notes k after) ≡ facts notes)) (λ r. Agrees (slice_index_or (facts notes) k None) r.now × (facts (slice_set notes k after) ≡ slice_set (facts notes) k (Some r.now)))
  looked notes k here after None p h e =
      let fact : slice_index_or (facts notes) k None ≡ None = fact_at notes k here h ∙ (ap (λ (n : Note X). n.known) (sym p) ∙ e.0) in
      (fact, facts_set notes k after ∙ (ap (λ (o : Option X). slice_set (facts notes) k o) (e.1 ∙ sym fact) ∙ set-get_or (facts notes) k None))
  looked notes k here after (Some r) p h e =
      let fact : slice_index_or (facts notes) k None ≡ here.known = fact_at notes k here h ∙ ap (λ (n : Note X). n.known) (sym p) in
      (subst (λ (o : Option X). Agrees o r.now) (sym fact) e.1, placed notes k after r.now e.0)

  pub bound_set : (old new : List (Option X)) (at c0 c1 : ℕ) (v : X) → new ≡ slice_set old at (Some v) → at ≤ c1 → c0 ≤ c1 → ((k : ℕ) (x : X) → slice_index_or old k None ≡ Some x → k ≤ c0)
      → (k : ℕ) (x : X) → slice_index_or new k None ≡ Some x → k ≤ c1
  bound_set old new at c0 c1 v e le up bound k x h =
      dite (ℕ_discrete k at) (λ z. omega arith)
      (λ n.
      let was : slice_index_or old k None ≡ Some x = sym (get_or-set_other old at k (Some v) None n) ∙ (ap (λ (l : List (Option X)). slice_index_or l k None) (sym e) ∙ h) in
      let b = bound k x was in
      omega arith)

  -- what the publisher's notes know is at most its count
  pub bound_by : (old new : List (Option X)) (c d : ℕ) → new ≡ old → d ≡ c → ((k : ℕ) → c < k → slice_index_or old k None ≡ None) → (k : ℕ) (x : X) → slice_index_or new k None ≡ Some x → k ≤ d
  bound_by old new c d e f empty_above k x h =
      dite (dec_le k d) (λ le. le)
      (λ n.
      let none : slice_index_or old k None ≡ None = empty_above k (let gt = lt_of_not-le n in omega arith) in
      let some_x : slice_index_or old k None ≡ Some x = ap (λ (l : List (Option X)). slice_index_or l k None) (sym e) ∙ h in
      cc)

  -- two rows of notes of the same cells
  pub same_cell : (a b : List (Note X)) (k : ℕ) (x y : Note X) → map (λ (n : Note X). n.cell) a ≡ map (λ (n : Note X). n.cell) b → k < length a → k < length b → x ≡ slice_index_or a k x → y ≡ slice_index_or b k y → y.cell ≡ x.cell
  same_cell a b k x y e ha hb p q =
      ap (λ (n : Note X). n.cell) q ∙ (sym (name_at b k y hb) ∙ (ap (λ (l : List ℕ). slice_index_or l k 0) (sym e) ∙ (name_at a k x ha ∙ ap (λ (n : Note X). n.cell) (sym p))))

  pub learnt_set : (mine theirs : List (Note X)) (k : ℕ) (m here : Note X) → k < length mine → k < length theirs → here ≡ slice_index_or theirs k here → m.known ≡ here.known
      → ((j : ℕ) → j < k → slice_index_or (facts mine) j None ≡ slice_index_or (facts theirs) j None)
      → (j : ℕ) → j < k + 1 → slice_index_or (facts (slice_set mine k m)) j None ≡ slice_index_or (facts theirs) j None
  learnt_set mine theirs k m here hm ht p e below j h =
      dite (ℕ_discrete j k)
      (λ z.
      ap (λ (i : ℕ). slice_index_or (facts (slice_set mine k m)) i None) z
      ∙ (ap (λ (l : List (Option X)). slice_index_or l k None) (facts_set mine k m)
      ∙ (get_or-set_same (facts mine) k m.known None (rw length-map hm)
      ∙ (e ∙ (ap (λ (n : Note X). n.known) p ∙ (sym (fact_at theirs k here ht) ∙ ap (λ (i : ℕ). slice_index_or (facts theirs) i None) (sym z)))))))
      (λ n. knows_else mine k j m n ∙ below j (omega arith))

  -- a reader's facts after it has met a publisher's
  pub met_seen : (old new theirs : List (Option X)) (last count top : ℕ) → top ≡ max last count → ((k : ℕ) (x : X) → slice_index_or old k None ≡ Some x → slice_index_or new k None ≡ Some x)
      → ((k : ℕ) → k < count + 1 → slice_index_or new k None ≡ slice_index_or theirs k None) → ((x : X) × (slice_index_or old last None ≡ Some x)) → ((x : X) × (slice_index_or theirs count None ≡ Some x))
      → (x : X) × (slice_index_or new top None ≡ Some x)
  met_seen old new theirs last count top e keeps learnt mine his =
      dite (dec_le last count)
      (λ le. let z : top ≡ count = omega arith in (his.0, ap (λ (i : ℕ). slice_index_or new i None) z ∙ (learnt count (omega arith) ∙ his.1)))
      (λ n. let gt = lt_of_not-le n in let z : top ≡ last = omega arith in (mine.0, ap (λ (i : ℕ). slice_index_or new i None) z ∙ keeps last mine.0 mine.1))

  pub met_bound : (old new : List (Option X)) (count c0 c1 : ℕ) → c1 ≡ max c0 count → ((k : ℕ) → count + 1 ≤ k → slice_index_or new k None ≡ slice_index_or old k None)
      → ((k : ℕ) (x : X) → slice_index_or old k None ≡ Some x → k ≤ c0) → (k : ℕ) (x : X) → slice_index_or new k None ≡ Some x → k ≤ c1
  met_bound old new count c0 c1 e others bound k x h =
      dite (dec_le k count) (λ le. omega arith) (λ n. let gt = lt_of_not-le n in let b = bound k x (sym (others k (omega arith)) ∙ h) in omega arith)
