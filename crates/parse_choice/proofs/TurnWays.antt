-- Turns of a repeat and the ways of which only turns with a word count. What derives turns gives a way of no more turns,
-- and of as many where no turn can be empty (`turns_lead`); a way gives turns, filled up with empty ones to the least
-- (`completes`).
use Rattle.std.proofs.Common.{ℕ, zero, suc, ◌+◌, ◌-◌, ◌<◌, ◌≤◌, ◌≡◌, ◌⊎◌, inl, inr, Bool, List, [], ◌∷◌, Some, length, max, refl, sym, ap, ◌∙◌, subst, ⊎_elim, arith}
use Rattle.std.specs.Prelude.{IsTrue, slice_range}
use Rattle.std.proofs.lemmas.Bool.{cases_lt}
use Rattle.vg_base.specs.declared.numbers.NodeIx.{NodeIx}
use Rattle.grammar_tree.specs.declared.linked.Node.TheVariants as node
use Rattle.grammar_tree.specs.declared.parse_tree.ParseTree.{ParseTree}
use Rattle.grammar_tree.specs.Links.{Rules, node_at}
use Rattle.grammar_tree.specs.Derives.{Words, IsAtMost, Derives, DerivesTurns, no_turn, turn, HasTree}
use Rattle.grammar_tree.specs.Reached.{DerivesSpan, Front, Reached, at_front}
use Rattle.grammar_tree.proofs.Decode.{fewer}
use Rattle.grammar_tree.proofs.Fronts.{one_more_turn}
use Rattle.grammar_tree.proofs.Spans.{span_length, span_join, span_empty, span_cut}
use Rattle.earley_chart.specs.declared.places.Places.{Places}
use Rattle.earley_chart.specs.Places.{Has}
use Rattle.earley_chart.specs.Chart.{Table, RanOn}
use Rattle.parse_choice.specs.declared.accepted.Turns.{Turns}
use Rattle.parse_choice.specs.code.Ways.{Lead, AreWays, ends_of, IsCompleted}
use Rattle.parse_choice.specs.code.Plans.{Spanned}
use Rattle.parse_choice.proofs.Choosing.{span_derived, derived_span}

module _ (L : Rules) (ws : Words) (p : NodeIx) where
  -- a turn, and those behind it
  pub record FirstTurn (free i j : ℕ) (ts : List ParseTree) : Type 0 where
    pub tree : ParseTree
    pub more : List ParseTree
    pub is : ts ≡ tree ∷ more
    pub place : ℕ
    pub after : i ≤ place
    pub before : place ≤ j
    pub derives : Derives L p (slice_range ws i place) tree
    pub word : free ≡ 0 → i < place
    pub rest : DerivesTurns L p (free - 1) (slice_range ws place j) more

  pub first_turn : (free i j : ℕ) (us : Words) (ts : List ParseTree) → DerivesTurns L p free us ts → us ≡ slice_range ws i j → i ≤ j → j ≤ length ws →
      ((ts ≡ []) × (i ≡ j)) ⊎ FirstTurn free i j ts
  first_turn free i j us _ (no_turn z) e le within = inl (refl, omega (arith, span_length ws i j le within, ap length (sym e ∙ z)))
  first_turn free i j us _ (turn {t = t} {ts = ts} front rest z ok d ds) e le within =
      let cut = span_cut ws i j front rest le within (sym e ∙ z) in
      inr (record {
        tree = t;
        more = ts;
        is = refl;
        place = cut.place;
        after = cut.after;
        before = cut.before;
        derives = subst (λ w. Derives L p w t) cut.is_front d;
        word = λ none. ⊎_elim (λ lt. lt)
            (λ ge. absurd (let same : i ≡ cut.place = omega (arith, cut.after, ge) in
            ok none (cut.is_front ∙ ap (λ k. slice_range ws k cut.place) same ∙ span_empty ws cut.place)))
            (cases_lt i cut.place);
        rest = subst (λ w. DerivesTurns L p (free - 1) w ts) cut.is_rest ds;
      })

  -- empty turns before others
  padded : (more free : ℕ) (us : Words) (ts : List ParseTree) → HasTree L p [] → more ≤ free → DerivesTurns L p (free - more) us ts →
      (vs : List ParseTree) × DerivesTurns L p free us vs × (length vs ≡ more + length ts)
  padded zero free us ts empty le d =
      let same : free - 0 ≡ free = omega arith in
      (ts, subst (λ k. DerivesTurns L p k us ts) same d, omega arith)
  padded (suc more) free us ts empty le d =
      let same : free - suc more ≡ (free - 1) - more = omega arith in
      let rest = padded more (free - 1) us ts empty (omega arith) (subst (λ k. DerivesTurns L p k us ts) same d) in
      (empty.0 ∷ rest.0, turn [] us refl (λ none. absurd (omega (arith, none, le))) empty.1 rest.1, omega (arith, rest.2))

module _ (L : Rules) (c : Table) (ran : RanOn L c) (p : NodeIx) (ends : Places) where
  -- so many turns from here to one of the ends
  pub record TurnsTo (free i count : ℕ) : Type 0 where
    pub last : ℕ
    pub trees : List ParseTree
    pub derive : DerivesTurns L p free (slice_range c.words i last) trees
    pub many : length trees ≡ count
    pub spanned : Spanned L c.words ends i last

  pub lead_turns : (words i free : ℕ) → Lead c p ends words i → i ≤ length c.words → TurnsTo free i words
  lead_turns zero i free has within = record {
    last = i;
    trees = [];
    derive = no_turn (span_empty c.words i);
    many = refl;
    spanned = record { order = omega arith; within = within; accepted = has };
  }
  lead_turns (suc words) i free h within =
      let d = span_derived L c ran p i h.0 h.2 in
      let rest = lead_turns words h.0 (free - 1) h.3 d.within in
      record {
        last = rest.last;
        trees = d.derives.0 ∷ rest.trees;
        derive = turn (slice_range c.words i h.0) (slice_range c.words h.0 rest.last) (span_join c.words i h.0 rest.last d.order rest.spanned.order)
            (λ none e. absurd (omega (arith, h.1, span_length c.words i h.0 d.order d.within, ap length e))) d.derives.1 rest.derive;
        many = ap suc rest.many;
        spanned = record { order = omega (arith, d.order, rest.spanned.order); within = rest.spanned.within; accepted = rest.spanned.accepted };
      }

module _ (L : Rules) (c : Table) (ran : RanOn L c) (t : Turns) where
  abbrev p : NodeIx
  p = t.repeat.inner

  abbrev Counts : ℕ → ℕ → Type 0
  Counts made i = Front L c.words (node.Rep t.repeat.least t.repeat.most p) made i i

  -- enough turns from here to one of the ends, behind so many
  pub record Completed (made i : ℕ) : Type 0 where
    pub last : ℕ
    pub trees : List ParseTree
    pub derive : DerivesTurns L p (t.repeat.least - made) (slice_range c.words i last) trees
    pub least : t.repeat.least ≤ made + length trees
    pub most : IsAtMost t.repeat.most (made + length trees)
    pub spanned : Spanned L c.words (ends_of t.ways) i last

  pub completes : (made i : ℕ) (empty : Bool) → AreWays c p (ends_of t.ways) t.ways → (IsTrue empty → HasTree L p []) → i ≤ length c.words → IsCompleted t made empty i → Completed made i
  completes made i empty are none within h = ⊎_elim enough filled (cases_lt (made + h.0) t.repeat.least)
    where
      lead : Lead c p (ends_of t.ways) h.0 i
      lead = are.from h.0 i h.1

      filled : t.repeat.least ≤ made + h.0 → Completed made i
      filled le =
          let turns = lead_turns L c ran p (ends_of t.ways) h.0 i (t.repeat.least - made) lead within in
          let all : max (made + h.0) t.repeat.least ≡ made + length turns.trees = omega (arith, turns.many, le) in
          record {
            last = turns.last;
            trees = turns.trees;
            derive = turns.derive;
            least = omega (arith, turns.many, le);
            most = subst (λ k. IsAtMost t.repeat.most k) all h.2.1;
            spanned = turns.spanned;
          }

      enough : made + h.0 < t.repeat.least → Completed made i
      enough lt =
          let wanting = t.repeat.least - made - h.0 in
          let can : HasTree L p [] = ⊎_elim none (λ le. absurd (omega (arith, le, lt))) h.2.0 in
          let turns = lead_turns L c ran p (ends_of t.ways) h.0 i ((t.repeat.least - made) - wanting) lead within in
          let all = padded L c.words p wanting (t.repeat.least - made) (slice_range c.words i turns.last) turns.trees can (omega arith) turns.derive in
          let count : max (made + h.0) t.repeat.least ≡ made + length all.0 = omega (arith, all.2, turns.many, lt) in
          record {
            last = turns.last;
            trees = all.0;
            derive = all.1;
            least = omega (arith, all.2, turns.many, lt);
            most = subst (λ k. IsAtMost t.repeat.most k) count h.2.1;
            spanned = turns.spanned;
          }

  module _ (above : NodeIx) (kind : node_at L above ≡ Some (node.Rep t.repeat.least t.repeat.most p)) (from : ℕ) (reached : Reached L c.words c.rule above from) where
    abbrev pub Made : ℕ → ℕ → Type 0
    Made made i = Front L c.words (node.Rep t.repeat.least t.repeat.most p) made from i

    pub turn_reached : (made i : ℕ) → Made made i → IsAtMost t.repeat.most (made + 1) → Reached L c.words c.rule p i
    turn_reached made i front more = at_front above (node.Rep t.repeat.least t.repeat.most p) made from reached kind (refl, more) front

    pub one_made : (made i j : ℕ) → Made made i → IsAtMost t.repeat.most (made + 1) → (t.repeat.least ≤ made → i < j) → DerivesSpan L c.words p i j → Made (made + 1) j
    one_made made i j front more word span =
        (one_more_turn L c.words t.repeat.least t.repeat.most p made from j).1 (i, more, (λ le e. absurd (omega (arith, word le, e))), front, span)

    -- a way of no more turns than there are, and of as many where no turn can be empty
    pub record Counted (i j count : ℕ) (ends : Places) : Type 0 where
      pub words : ℕ
      pub lead : Lead c p ends words i
      pub fewer : words ≤ count
      pub all : (words ≡ count) ⊎ HasTree L p []

    pub turns_lead : (ends : Places) (j : ℕ) → Has ends j → j ≤ length c.words → (ts : List ParseTree) (made i free : ℕ) → i ≤ j → DerivesTurns L p free (slice_range c.words i j) ts →
        free ≡ t.repeat.least - made → IsAtMost t.repeat.most (made + length ts) → Made made i → Counted i j (length ts) ends
    turns_lead ends j has within [] made i free le d same most front =
        at [] refl (first_turn L c.words p free i j (slice_range c.words i j) [] d refl le within)
      where
        at : (none : List ParseTree) → none ≡ [] → ((none ≡ []) × (i ≡ j)) ⊎ FirstTurn L c.words p free i j none → Counted i j 0 ends
        at none q (inl e) = record { words = 0; lead = subst (λ k. Has ends k) (sym e.1) has; fewer = omega arith; all = inl refl }
        at none q (inr f) = absurd (let no : f.tree ∷ f.more ≡ [] = sym f.is ∙ q in cc (no))
    turns_lead ends j has within (u ∷ ts) made i free le d same most front =
        at (λ made i free le d same most front. turns_lead ends j has within ts made i free le d same most front)
        (first_turn L c.words p free i j (slice_range c.words i j) (u ∷ ts) d refl le within)
      where
        at : ((made i free : ℕ) → i ≤ j → DerivesTurns L p free (slice_range c.words i j) ts → free ≡ t.repeat.least - made → IsAtMost t.repeat.most (made + length ts) → Made made i → Counted i j (length ts) ends) →
            ((u ∷ ts ≡ []) × (i ≡ j)) ⊎ FirstTurn L c.words p free i j (u ∷ ts) → Counted i j (suc (length ts)) ends
        at again (inl e) = absurd (let no = e.0 in cc (no))
        at again (inr f) =
            let rest_is : f.more ≡ ts = (let q = f.is in cc (q)) in
            let more : IsAtMost t.repeat.most (made + 1) = fewer t.repeat.most (made + 1) (made + suc (length ts)) (omega arith) most in
            let span : DerivesSpan L c.words p i f.place = record { order = f.after; within = omega (arith, f.before, within); derives = (f.tree, f.derives) } in
            let next : Made (made + 1) f.place = one_made made i f.place front more (λ enough. f.word (omega (arith, enough, same))) span in
            let count : made + suc (length ts) ≡ made + 1 + length ts = omega arith in
            let rest = again (made + 1) f.place (free - 1) f.before (subst (λ xs. DerivesTurns L p (free - 1) (slice_range c.words f.place j) xs) rest_is f.rest)
            (omega (arith, same)) (subst (λ k. IsAtMost t.repeat.most k) count most) next in
            ⊎_elim
            (λ lt. record {
              words = suc rest.words;
              lead = (f.place, lt, derived_span L c ran p i f.place (turn_reached made i front more) span, rest.lead);
              fewer = omega (arith, rest.fewer);
              all = ⊎_elim (λ e. inl (ap suc e)) (λ e. inr e) rest.all;
            })
            (λ ge. (let here : f.place ≡ i = omega (arith, f.after, ge) in record {
              words = rest.words;
              lead = subst (λ k. Lead c p ends rest.words k) here rest.lead;
              fewer = omega (arith, rest.fewer);
              all = inr (f.tree, subst (λ us. Derives L p us f.tree) (ap (λ k. slice_range c.words i k) here ∙ span_empty c.words i) f.derives);
            }))
            (cases_lt i f.place)
