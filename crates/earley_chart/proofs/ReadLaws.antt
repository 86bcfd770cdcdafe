-- Laws of leading: words that lead on are joined, and words that lead far are cut.
use Rattle.std.proofs.Common.{Bool, true, ℕ, ◌+◌, ◌-◌, ◌<◌, ◌≤◌, ◌≡◌, ◌≢◌, ◌⊎◌, inl, inr, List, [], ◌∷◌, ◌++◌, length, refl, sym, ap, ◌∙◌, subst, arith, append_assoc, length-append}
use Rattle.std.specs.Prelude.{slice_range}
use Rattle.grammar_tree.specs.Derives.{Words}
use Rattle.grammar_tree.proofs.Spans.{span_cut, span_empty, span_join, span_length}
use Rattle.earley_chart.specs.code.Reads.{Reads, between, past, beyond, IsPlace}

-- two ways to cut one list: the one cut stands before the other, or behind it
split : (us vs xs ys : Words) → us ++ vs ≡ xs ++ ys →
    ((cs : Words) × (xs ≡ us ++ cs) × (vs ≡ cs ++ ys)) ⊎ ((cs : Words) × (cs ≢ []) × (us ≡ xs ++ cs) × (ys ≡ cs ++ vs))
split [] vs xs ys e = inl (xs, refl, e)
split (u ∷ us) vs [] ys e = inr (u ∷ us, λ z. absurd (cc), refl, sym e)
split (u ∷ us) vs (x ∷ xs) ys e =
    let same : u ≡ x = cc in
    let tails : us ++ vs ≡ xs ++ ys = cc in
    longer (split us vs xs ys tails) same
  where
    longer : ((cs : Words) × (xs ≡ us ++ cs) × (vs ≡ cs ++ ys)) ⊎ ((cs : Words) × (cs ≢ []) × (us ≡ xs ++ cs) × (ys ≡ cs ++ vs)) → u ≡ x →
        ((cs : Words) × (x ∷ xs ≡ (u ∷ us) ++ cs) × (vs ≡ cs ++ ys)) ⊎ ((cs : Words) × (cs ≢ []) × (u ∷ us ≡ (x ∷ xs) ++ cs) × (ys ≡ cs ++ vs))
    longer (inl a) same = inl (a.0, ap (λ y. y ∷ xs) (sym same) ∙ ap (λ l. u ∷ l) a.1, a.2)
    longer (inr a) same = inr (a.0, a.1, ap (λ y. y ∷ us) same ∙ ap (λ l. x ∷ l) a.2, a.3)

module _ (ws : Words) (goes_on : Bool) where
  pub reads_on : (i : ℕ) (us : Words) (j : ℕ) → Reads ws goes_on i us j → i ≤ j
  reads_on i us j (between le within e) = le
  reads_on i us j (past more on le at some e) = omega (arith, le, at)
  reads_on i us j (beyond on from to) = omega (arith, from, to)

  pub reads_to : (i : ℕ) (us : Words) (j : ℕ) → Reads ws goes_on i us j → IsPlace ws goes_on j
  reads_to i us j (between le within e) = inl within
  reads_to i us j (past more on le at some e) = inr (on, at)
  reads_to i us j (beyond on from to) = inr (on, to)

  pub reads_from : (i : ℕ) (us : Words) (j : ℕ) → Reads ws goes_on i us j → IsPlace ws goes_on i
  reads_from i us j (between le within e) = inl (omega (arith, le, within))
  reads_from i us j (past more on le at some e) = inl le
  reads_from i us j (beyond on from to) = inr (on, from)

  -- no word leads nowhere else
  pub reads_none : (i : ℕ) (us : Words) (j : ℕ) → us ≡ [] → Reads ws goes_on i us j → i ≡ j
  reads_none i us j z (between le within e) = omega (arith, ap length (sym e ∙ z), span_length ws i j le within)
  reads_none i us j z (past more on le at some e) = absurd (some (nothing (slice_range ws i (length ws)) more (sym e ∙ z)))
    where
      nothing : (xs ys : Words) → xs ++ ys ≡ [] → ys ≡ []
      nothing [] ys h = h
      nothing (x ∷ xs) ys h = absurd (cc)
  reads_none i us j z (beyond on from to) = from ∙ sym to

  pub reads_here : (i : ℕ) → IsPlace ws goes_on i → Reads ws goes_on i [] i
  reads_here i (inl within) = between (omega arith) within (sym (span_empty ws i))
  reads_here i (inr a) = beyond a.0 a.1 a.1

  pub reads_join : (i m j : ℕ) (us vs : Words) → Reads ws goes_on i us m → Reads ws goes_on m vs j → Reads ws goes_on i (us ++ vs) j
  reads_join i m j us vs (between le within e) (between le' within' e') =
      between (omega (arith, le, le')) within' (ap (λ l. l ++ vs) e ∙ ap (λ l. slice_range ws i m ++ l) e' ∙ sym (span_join ws i m j le le'))
  reads_join i m j us vs (between le within e) (past more on le' at some e') =
      past more on (omega (arith, le, within)) at some
      (ap (λ l. l ++ vs) e ∙ ap (λ l. slice_range ws i m ++ l) e' ∙ sym (append_assoc (slice_range ws i m) (slice_range ws m (length ws)) more)
      ∙ ap (λ l. l ++ more) (sym (span_join ws i m (length ws) le within)))
  reads_join i m j us vs (between le within e) (beyond on from to) = absurd (omega (arith, within, from))
  reads_join i m j us vs (past more on le at some e) (between le' within' e') = absurd (omega (arith, at, le', within'))
  reads_join i m j us vs (past more on le at some e) (past more' on' le' at' some' e') = absurd (omega (arith, at, le'))
  reads_join i m j us vs (past more on le at some e) (beyond on' from to) =
      past (more ++ vs) on le to (λ z. some (front more vs z)) (ap (λ l. l ++ vs) e ∙ append_assoc (slice_range ws i (length ws)) more vs)
    where
      front : (xs ys : Words) → xs ++ ys ≡ [] → xs ≡ []
      front [] ys h = refl
      front (x ∷ xs) ys h = absurd (cc)
  reads_join i m j us vs (beyond on from to) (between le' within' e') = absurd (omega (arith, to, le', within'))
  reads_join i m j us vs (beyond on from to) (past more' on' le' at' some' e') = absurd (omega (arith, to, le'))
  reads_join i m j us vs (beyond on from to) (beyond on' from' to') = beyond on from to'

  pub reads_cut : (i j : ℕ) (us vs ts : Words) → ts ≡ us ++ vs → Reads ws goes_on i ts j → (m : ℕ) × Reads ws goes_on i us m × Reads ws goes_on m vs j
  reads_cut i j us vs ts h (between le within e) =
      let c = span_cut ws i j us vs le within (sym e ∙ h) in
      (c.place, between c.after (omega (arith, c.before, within)) c.is_front, between c.before within c.is_rest)
  reads_cut i j us vs ts h (beyond on from to) = (j, beyond on from to, beyond on to to)
  reads_cut i j us vs ts h (past more on le at some e) = at_split (split us vs (slice_range ws i (length ws)) more (sym h ∙ e))
    where
      at_split : ((cs : Words) × (slice_range ws i (length ws) ≡ us ++ cs) × (vs ≡ cs ++ more)) ⊎ ((cs : Words) × (cs ≢ []) × (us ≡ slice_range ws i (length ws) ++ cs) × (more ≡ cs ++ vs)) →
          (m : ℕ) × Reads ws goes_on i us m × Reads ws goes_on m vs j
      at_split (inl a) =
          let c = span_cut ws i (length ws) us a.0 le (omega arith) a.1 in
          (c.place, between c.after c.before c.is_front, past more on c.before at some (a.2 ∙ ap (λ l. l ++ more) c.is_rest))
      at_split (inr a) = (j, past a.0 on le at a.1 a.2, beyond on at at)

  -- what leads nowhere further leads nowhere further at a later place
  pub reads_stay : (m j : ℕ) (us : Words) → m ≤ j → IsPlace ws goes_on j → Reads ws goes_on m us m → Reads ws goes_on j us j
  reads_stay m j us le place (between le' within e) = subst (λ w. Reads ws goes_on j w j) (sym (e ∙ span_empty ws m)) (reads_here j place)
  reads_stay m j us le place (past more on le' at some e) = absurd (omega (arith, le', at))
  reads_stay m j us le (inl within) (beyond on from to) = absurd (omega (arith, le, within, from))
  reads_stay m j us le (inr a) (beyond on from to) = beyond on a.1 a.1
