-- What a trail says of the choices of all trees: it says so at the beginning (`begun`), and after each choice that
-- picks the least one possible and knows the next greater one (`chosen`, the main lemma). Before them stand lists
-- that go on from each other or differ at a place.
use Rattle.std.proofs.Common.{ℕ, ◌<◌, ◌≤◌, ◌≡◌, ◌⊎◌, inl, inr, List, [], ◌∷◌, ◌++◌, Option, Some, None, length, refl, sym, ap, ◌∙◌, subst, ⊎_elim, arith, append_assoc, length-append}
use Rattle.std.specs.Prelude.{slice_get}
use Rattle.std.proofs.Math.Seq.{take-append_seam}
use Rattle.std.proofs.lemmas.List.{take-append-le}
use Rattle.std.proofs.lemmas.Bool.{cases_eq}
use Rattle.grammar_tree.proofs.Orders.{Differs}
use Rattle.parse_choice.specs.declared.guide.Trail.{Trail}
use Rattle.parse_choice.specs.declared.guide.Fork.{Fork}
use Rattle.parse_choice.specs.code.Trails.{or_zero, bound_of, took, IsWithin, turned, IsPrefix, IsFrom, IsFromFork, IsBehind, HasFork, Stands, Picks}

-- what differs goes on differing
pub differs_more : (xs zs ys : List ℕ) → Differs xs ys → Differs (xs ++ zs) ys
differs_more [] zs ys d = absurd d
differs_more (x ∷ xs) zs [] d = absurd d
differs_more (x ∷ xs) zs (y ∷ ys) (inl lt) = inl lt
differs_more (x ∷ xs) zs (y ∷ ys) (inr d) = inr (d.0, differs_more xs zs ys d.1)

pub differs_trans : (xs ys zs : List ℕ) → Differs xs ys → Differs ys zs → Differs xs zs
differs_trans [] ys zs d e = absurd d
differs_trans (x ∷ xs) [] zs d e = absurd d
differs_trans (x ∷ xs) (y ∷ ys) [] d e = absurd e
differs_trans (x ∷ xs) (y ∷ ys) (z ∷ zs) (inl lt) (inl lt') = inl (omega arith)
differs_trans (x ∷ xs) (y ∷ ys) (z ∷ zs) (inl lt) (inr e) = inl (omega (arith, e.0))
differs_trans (x ∷ xs) (y ∷ ys) (z ∷ zs) (inr d) (inl lt) = inl (omega (arith, d.0))
differs_trans (x ∷ xs) (y ∷ ys) (z ∷ zs) (inr d) (inr e) = inr (d.0 ∙ e.0, differs_trans xs ys zs d.1 e.1)

-- no list differs from one that goes on from it
pub differs_never : (xs more : List ℕ) → Differs xs (xs ++ more) → ⊥
differs_never [] more d = d
differs_never (x ∷ xs) more (inl lt) = absurd (omega arith)
differs_never (x ∷ xs) more (inr d) = differs_never xs more d.1

pub never_differs : (xs more : List ℕ) → Differs (xs ++ more) xs → ⊥
never_differs [] [] d = d
never_differs [] (y ∷ more) d = d
never_differs (x ∷ xs) more (inl lt) = absurd (omega arith)
never_differs (x ∷ xs) more (inr d) = never_differs xs more d.1

-- behind the same choices, the lesser one
pub differs_here : (log : List ℕ) (c d : ℕ) (more others : List ℕ) → c < d → Differs (log ++ c ∷ more) (log ++ d ∷ others)
differs_here [] c d more others lt = inl lt
differs_here (x ∷ log) c d more others lt = inr (refl, differs_here log c d more others lt)

-- one choice more makes lists differ before it, or there
differs_last : (log : List ℕ) (c : ℕ) (ys : List ℕ) → Differs (log ++ c ∷ []) ys → Differs log ys ⊎ ((y : ℕ) × (more : List ℕ) × (ys ≡ log ++ y ∷ more) × (c < y))
differs_last [] c [] d = absurd d
differs_last [] c (y ∷ ys) (inl lt) = inr (y, ys, refl, lt)
differs_last [] c (y ∷ ys) (inr d) = absurd d.1
differs_last (x ∷ log) c [] d = absurd d
differs_last (x ∷ log) c (y ∷ ys) (inl lt) = inl (inl lt)
differs_last (x ∷ log) c (y ∷ ys) (inr d) = at (differs_last log c ys d.1)
  where
    at : Differs log ys ⊎ ((y : ℕ) × (more : List ℕ) × (ys ≡ log ++ y ∷ more) × (c < y)) → Differs (x ∷ log) (y ∷ ys) ⊎ ((z : ℕ) × (more : List ℕ) × (y ∷ ys ≡ x ∷ (log ++ z ∷ more)) × (c < z))
    at (inl e) = inl (inr (d.0, e))
    at (inr e) = inr (e.0, e.1, cc (e.2, d.0), e.3)

pub prefix_more : (log : List ℕ) (c : ℕ) (more : List ℕ) → IsPrefix (log ++ c ∷ []) (log ++ c ∷ more)
prefix_more log c more = (more, sym (append_assoc log (c ∷ []) more))

-- a list whose next choice is no less
from_here : (log : List ℕ) (c d : ℕ) (others : List ℕ) → c ≤ d → IsFrom (log ++ c ∷ []) (log ++ d ∷ others)
from_here log c d others le =
    ⊎_elim (λ e. inl (subst (λ x. IsPrefix (log ++ c ∷ []) (log ++ x ∷ others)) e (prefix_more log c others)))
    (λ ne. inr (differs_here log c d [] others (omega arith))) (cases_eq c d)

-- the guide says the next choice, or goes no further
pub bound_tells : (guide log : List ℕ) (d : ℕ) (ds more : List ℕ) → log ++ d ∷ ds ≡ guide ++ more →
    (or_zero (slice_get guide (length log)) ≡ d) ⊎ (IsPrefix guide log × (or_zero (slice_get guide (length log)) ≡ 0))
bound_tells [] log d ds more e = inr ((log, refl), refl)
bound_tells (g ∷ guide) [] d ds more e = inl (cc)
bound_tells (g ∷ guide) (x ∷ log) d ds more e =
    let e' : log ++ d ∷ ds ≡ guide ++ more = cc in
    let first : x ≡ g = cc in
    ⊎_elim (λ s. inl s) (λ p. inr ((p.0.0, cc (p.0.1, first)), p.1)) (bound_tells guide log d ds more e')

module _ (S : List ℕ → Type 0) where
  -- at the beginning, where some list goes on from the guide
  pub begun : (guide more : List ℕ) (t : Trail) → S (guide ++ more) → t.log ≡ [] → t.fork ≡ None → Stands S guide t
  begun guide more t s none no_fork =
      let empty : Trail = record { log = []; fork = None } in
      let same : empty ≡ t = λ i. record { log = sym none i; fork = sym no_fork i } in
      subst (λ (t : Trail). Stands S guide t) same
      (record {
        possible = (guide ++ more, s, (more, refl), (guide ++ more, refl));
        least = λ ys h p. inl (ys, refl);
        greater = λ ys h d. absurd d;
        fork = tt;
        behind = tt;
        within = tt;
      })

-- a fork that stands before the last choice is the same without it
turned_same : (log : List ℕ) (choice : ℕ) (fork : Option Fork) → IsWithin log fork → turned (log ++ choice ∷ []) fork ≡ turned log fork
turned_same log choice None h = refl
turned_same log choice (Some fork) h = ap (λ (xs : List ℕ). Some (xs ++ fork.choice ∷ [])) (take-append-le fork.at log (choice ∷ []) (omega arith))

turned_here : (log : List ℕ) (choice next : ℕ) → turned (log ++ choice ∷ []) (Some (record { at = length log; choice = next })) ≡ Some (log ++ next ∷ [])
turned_here log choice next = ap (λ (xs : List ℕ). Some (xs ++ next ∷ [])) (take-append_seam log (choice ∷ []))

longer : (log : List ℕ) (choice : ℕ) (fork : Option Fork) → IsWithin log fork → IsWithin (log ++ choice ∷ []) fork
longer log choice None h = tt
longer log choice (Some fork) h = omega (arith, length-append log (choice ∷ []))

behind_more : (log : List ℕ) (choice : ℕ) (to : Option (List ℕ)) → IsBehind log to → IsBehind (log ++ choice ∷ []) to
behind_more log choice None h = tt
behind_more log choice (Some xs) h = differs_more log (choice ∷ []) xs h

module _ (S : List ℕ → Type 0) (guide : List ℕ) (t : Trail) (choice : ℕ) where
  abbrev After : List ℕ → Type 0
  After ys = S (t.log ++ ys)

  -- what the next choice of some list is, where the list goes on from the choices so far
  record Next (ys : List ℕ) : Type 0 where
    pub next : ℕ
    pub more : List ℕ
    pub is : ys ≡ t.log ++ next ∷ more

  module _ (greater : Option ℕ) (st : Stands S guide t) (picks : Picks After (bound_of guide t) choice greater) where
    -- the list with its next choice
    next_of_list : (ys : List ℕ) → S ys → IsPrefix t.log ys → Next ys
    next_of_list ys h p =
        let here : After p.0 = subst S p.1 h in
        let n = picks.each p.0 here in
        record { next = n.0; more = n.1; is = p.1 ∙ ap (λ zs. t.log ++ zs) n.2 }

    no_less : (ys : List ℕ) → S ys → (n : Next ys) → bound_of guide t ≤ n.next → choice ≤ n.next
    no_less ys h n le =
        let p = picks.each (n.next ∷ n.more) (subst S n.is h) in
        let same : n.next ≡ p.0 = cc (p.2) in
        omega (arith, p.3 (omega (arith, le, same)), same)

    bound_at : (ys : List ℕ) → (n : Next ys) → (p : IsPrefix guide ys) → (bound_of guide t ≡ n.next) ⊎ (IsPrefix guide t.log × (bound_of guide t ≡ 0))
    bound_at ys n p = bound_tells guide t.log n.next n.more p.0 (sym n.is ∙ p.1)

    bound_below : (ys : List ℕ) → (n : Next ys) → (p : IsPrefix guide ys) → bound_of guide t ≤ n.next
    bound_below ys n p = ⊎_elim (λ e. omega (arith, e)) (λ e. omega (arith, e.1)) (bound_at ys n p)

    new_possible : (ys : List ℕ) × S ys × IsPrefix guide ys × IsPrefix (t.log ++ choice ∷ []) ys
    new_possible =
        let ys = st.possible.0 in
        let n = next_of_list ys st.possible.1 st.possible.3 in
        let le : choice ≤ n.next = no_less ys st.possible.1 n (bound_below ys n st.possible.2) in
        let kept : choice ≡ n.next → (ys : List ℕ) × S ys × IsPrefix guide ys × IsPrefix (t.log ++ choice ∷ []) ys =
        λ e. (ys, st.possible.1, st.possible.2, (n.more, n.is ∙ ap (λ c. t.log ++ c ∷ n.more) (sym e) ∙ sym (append_assoc t.log (choice ∷ []) n.more))) in
        let other : IsPrefix guide t.log → (ys : List ℕ) × S ys × IsPrefix guide ys × IsPrefix (t.log ++ choice ∷ []) ys =
        λ g. (
          t.log ++ choice ∷ picks.taken.0,
          picks.taken.1,
          (g.0 ++ choice ∷ picks.taken.0, ap (λ zs. zs ++ choice ∷ picks.taken.0) g.1 ∙ append_assoc guide g.0 (choice ∷ picks.taken.0)),
          prefix_more t.log choice picks.taken.0,
        ) in
        ⊎_elim kept
        (λ ne. ⊎_elim (λ b. absurd (ne (omega (arith, b, le, picks.bounded)))) (λ g. other g.0) (bound_at ys n st.possible.2))
        (cases_eq choice n.next)

    from_next : (ys : List ℕ) → (n : Next ys) → choice ≤ n.next → IsFrom (t.log ++ choice ∷ []) ys
    from_next ys n le = subst (λ zs. IsFrom (t.log ++ choice ∷ []) zs) (sym n.is) (from_here t.log choice n.next n.more le)

    new_least : (ys : List ℕ) → S ys → IsPrefix guide ys → IsFrom (t.log ++ choice ∷ []) ys
    new_least ys h p = ⊎_elim
        (λ on. (let n = next_of_list ys h on in from_next ys n (no_less ys h n (bound_below ys n p))))
        (λ d. inr (differs_more t.log (choice ∷ []) ys d))
        (st.least ys h p)

  -- a choice was picked: the trail with it says the same of all lists
  pub chosen : (greater : Option ℕ) → Stands S guide t → Picks After (bound_of guide t) choice greater → Stands S guide (took t choice greater)
  chosen None st picks =
      let same = turned_same t.log choice t.fork st.within in
      record {
        possible = new_possible None st picks;
        least = new_least None st picks;
        greater = λ ys h d. ⊎_elim
            (λ e. subst (λ to. IsFromFork to ys) (sym same) (st.greater ys h e))
            (λ e. (let n = picks.each (e.0 ∷ e.1) (subst S e.2 h) in
            let first : e.0 ≡ n.0 = cc (n.2) in
            absurd (let no : None ≡ Some (n.4 (omega (arith, e.3, first))).0 = (n.4 (omega (arith, e.3, first))).1 in cc (no))))
            (differs_last t.log choice ys d);
        fork = subst (HasFork S) (sym same) st.fork;
        behind = subst (IsBehind (t.log ++ choice ∷ [])) (sym same) (behind_more t.log choice (turned t.log t.fork) st.behind);
        within = longer t.log choice t.fork st.within;
      }
  chosen (Some next) st picks =
      let same = turned_here t.log choice next in
      let p = picks.next next refl in
      record {
        possible = new_possible (Some next) st picks;
        least = new_least (Some next) st picks;
        greater = λ ys h d. subst (λ to. IsFromFork to ys) (sym same) (⊎_elim
            (λ e. inr (differs_more t.log (next ∷ []) ys e))
            (λ e. (let n = picks.each (e.0 ∷ e.1) (subst S e.2 h) in
            let first : e.0 ≡ n.0 = cc (n.2) in
            let g = n.4 (omega (arith, e.3, first)) in
            let one : next ≡ g.0 = cc (g.1) in
            subst (λ zs. IsFrom (t.log ++ next ∷ []) zs) (sym e.2) (from_here t.log next e.0 e.1 (omega (arith, g.2, one, first)))))
            (differs_last t.log choice ys d));
        fork = subst (HasFork S) (sym same) (p.1.0, subst S (sym (append_assoc t.log (next ∷ []) p.1.0)) p.1.1);
        behind = subst (IsBehind (t.log ++ choice ∷ [])) (sym same) (differs_here t.log choice next [] [] p.0);
        within = omega (arith, length-append t.log (choice ∷ []));
      }
