-- How high a derivation is, and a bound where no rule derives itself.
use Rattle.std.proofs.Common.{ℕ, zero, suc, ◌+◌, ◌-◌, ◌*◌, ◌<◌, ◌≤◌, ◌≡◌, ◌≢◌, ◌⊎◌, max, List, [], ◌∷◌, ◌++◌, Option, Some, None, length, refl, sym, ap, ◌∙◌, subst, inl, inr, arith, length-append}
use Rattle.std.specs.Prelude.{slice_get}
use Rattle.std.proofs.lemmas.Option.{get_or_from_slice_get, slice_get_within}
use Rattle.std.proofs.lemmas.Bool.{cases_order}
use Rattle.vg_base.specs.declared.numbers.NodeIx.{NodeIx}
use Rattle.vg_base.specs.declared.numbers.RuleIx.{RuleIx}
use Rattle.grammar_tree.specs.declared.linked.Node.{Node}
use Rattle.grammar_tree.specs.declared.linked.Node.TheVariants as node
use Rattle.grammar_tree.specs.declared.parse_tree.ParseTree.{ParseTree}
use Rattle.grammar_tree.specs.Links.{Rules, IsLinked, node_at, parts}
use Rattle.grammar_tree.specs.Derives.{Words, IsAtMost, CanBeEmpty, Derives, by_token, by_seq, by_alt, by_rep, by_ref, by_tag, by_null, by_garbage, DerivesEach, no_part, part, DerivesTurns, no_turn, turn}
use Rattle.grammar_tree.specs.Alone.{Alone, at_ref, at_seq, at_alt, at_rep, NoSelfDerivation, Path, Shallow}
use Rattle.grammar_tree.proofs.EmptyParts.{each_empty, turns_empty}
use Rattle.grammar_tree.proofs.Paths.{path_short}
use Rattle.grammar_tree.proofs.Views.{is_node}

module _ (L : Rules) where
  abbrev mutual
    pub height : (n : NodeIx) (ws : Words) (t : ParseTree) → Derives L n ws t → ℕ
    height n ws t (by_token e q) = 1
    height n ws t (by_seq ps ts e q d) = suc (height_each ps ws ts d)
    height n ws t (by_alt ps k p u e g q d) = suc (height p ws u d)
    height n ws t (by_rep least most p ts e q lo hi d) = suc (height_turns p least ws ts d)
    height n ws t (by_ref r rule u e g q d) = suc (height rule.body ws u d)
    height n ws t (by_tag tag e z q) = 1
    height n ws t (by_null e z q) = 1
    height n ws t (by_garbage e q) = 1

    pub height_each : (ps : List NodeIx) (ws : Words) (ts : List ParseTree) → DerivesEach L ps ws ts → ℕ
    height_each _ ws _ (no_part z) = 0
    height_each _ ws _ (part {p = p} {ps = ps} {t = t} {ts = ts} u v z d ds) = max (height p u t d) (height_each ps v ts ds)

    pub height_turns : (p : NodeIx) (free : ℕ) (ws : Words) (ts : List ParseTree) → DerivesTurns L p free ws ts → ℕ
    height_turns p free ws _ (no_turn z) = 0
    height_turns p free ws _ (turn {t = t} {ts = ts} u v z ne d ds) = max (height p u t d) (height_turns p (free - 1) v ts ds)

-- what falls at each part and reference: the words, the rules still to come, the nodes above
abbrev pub rank : ℕ → ℕ → ℕ → ℕ → ℕ → ℕ
rank rules nodes words budget n = (words * suc rules + budget) * suc nodes + (nodes - n)

part_falls : (rules nodes words budget n p : ℕ) → n < p → p < nodes → rank rules nodes words budget p < rank rules nodes words budget n
part_falls rules nodes words budget n p up lt = omega arith

product_falls : (nodes a b c : ℕ) → a < b → c ≤ nodes → a * suc nodes + c < b * suc nodes
product_falls nodes a b c lt le = grind arith

pub rule_falls : (rules nodes words budget n p : ℕ) → 0 < budget → rank rules nodes words (budget - 1) p < rank rules nodes words budget n
rule_falls rules nodes words budget n p pos =
    let h = product_falls nodes (words * suc rules + (budget - 1)) (words * suc rules + budget) (nodes - p) (omega arith) (omega arith) in omega arith

words_fall : (rules nodes fewer words budget n p : ℕ) → fewer < words → rank rules nodes fewer rules p < rank rules nodes words budget n
words_fall rules nodes fewer words budget n p lt =
    let g = product_falls rules fewer words rules lt (omega arith) in
    let h = product_falls nodes (fewer * suc rules + rules) (words * suc rules + budget) (nodes - p) (omega arith) (omega arith) in omega arith

-- where a front or a rest is as long as all the words, nothing is left beside it
rest_nil : (ws u v : Words) → ws ≡ u ++ v → length u ≡ length ws → v ≡ []
rest_nil ws u [] z e = refl
rest_nil ws u (w ∷ v) z e = absurd (omega (arith, ap length z, length-append u (w ∷ v)))

front_nil : (ws u v : Words) → ws ≡ u ++ v → length v ≡ length ws → u ≡ []
front_nil ws [] v z e = refl
front_nil ws (w ∷ u) v z e = absurd (omega (arith, ap length z, length-append u v))

module _ (L : Rules) (linked : IsLinked L) (acyclic : NoSelfDerivation L) where
  -- a part's number is above its node's
  above : (n : NodeIx) (x : Node) → node_at L n ≡ Some x → (k : ℕ) (p : NodeIx) → slice_get (parts x) k ≡ Some p → n.0 < p.0
  above n x e k p g = subst (λ part. n.0 < part.0) (get_or_from_slice_get (parts x) k p p g) (linked.rises n.0 x e k p (slice_get_within (parts x) k p g)).0

  abbrev Lifts : NodeIx → NodeIx → Type 0
  Lifts n p = (q : RuleIx) → Alone L p q → Alone L n q

  lifted : (n p : NodeIx) (b : ℕ) → Lifts n p → Shallow L n b → Shallow L p b
  lifted n p b lift s = record { by = at }
    where
      at : (rs : List RuleIx) → Path L p rs → length rs ≤ b
      at [] path = omega arith
      at (r ∷ rs) path = s.by (r ∷ rs) (lift r path.0, path.1)

  abbrev pub rank_of : NodeIx → ℕ → ℕ → ℕ
  rank_of n words budget = rank (length L.rules) (length L.nodes) words budget n.0

  -- what is known of the parts that are left, at a list of parts
  abbrev EachLifts : NodeIx → ℕ → List NodeIx → Words → Type 0
  EachLifts n all ps ws = length ws ≡ all → (j : ℕ) (p : NodeIx) → slice_get ps j ≡ Some p →
      ((i : ℕ) (other : NodeIx) → i ≢ j → slice_get ps i ≡ Some other → CanBeEmpty L other) → Lifts n p

  -- the budget with which a part over these words is begun
  pick : (n p : NodeIx) (all budget : ℕ) (us : Words) → length us ≤ all → Shallow L n budget → (length us ≡ all → Lifts n p) → n.0 < p.0 → p.0 < length L.nodes →
      (b : ℕ) × Shallow L p b × (rank_of p (length us) b < rank_of n all budget)
  pick n p all budget us le s lift up lt = at (cases_order (length us) all)
    where
      at : (length us ≡ all) ⊎ ((length us < all) ⊎ (all < length us)) → (b : ℕ) × Shallow L p b × (rank_of p (length us) b < rank_of n all budget)
      at (inl e) = (budget, lifted n p budget (lift e) s, subst (λ k. rank_of p k budget < rank_of n all budget) (sym e) (part_falls _ _ all budget n.0 p.0 up lt))
      at (inr (inl l)) = (length L.rules, path_short L acyclic p, words_fall _ _ (length us) all budget n.0 p.0 l)
      at (inr (inr g)) = absurd (omega arith)

  mutual
    pub height-le : (n : NodeIx) (ws : Words) (t : ParseTree) (d : Derives L n ws t) (budget : ℕ) → Shallow L n budget → height L n ws t d ≤ suc (rank_of n (length ws) budget)
    height-le n ws t (by_token e q) budget s = omega arith
    height-le n ws t (by_seq ps ts e q d) budget s =
        let h = each-le n (length ws) budget s ps ws ts d (omega arith) (λ j p g. above n (node.Seq ps) e j p g) (λ full j p g others q a. at_seq ps j p e g a others) in
        omega arith
    height-le n ws t (by_alt ps k p u e g q d) budget s =
        let c = pick n p (length ws) budget ws (omega arith) s (λ full q a. at_alt ps k p e g a) (above n (node.Alt ps) e k p g) (is_node L p ws u d) in
        let h = height-le p ws u d c.0 c.1 in omega (arith, c.2)
    height-le n ws t (by_rep least most p ts e q lo hi d) budget s =
        let h = turns-le n (length ws) budget s least most p e 0 least ws ts d (omega arith) (λ full pos. absurd (omega arith)) (omega arith) (subst (IsAtMost most) (omega arith) hi) in
        omega arith
    height-le n ws t (by_ref r rule u e g q d) budget s =
        let pos : 0 < budget = s.by (r ∷ []) (at_ref e, (rule, g, tt)) in
        let s' : Shallow L rule.body (budget - 1) = record { by = λ rs path. let h = s.by (r ∷ rs) (at_ref e, (rule, g, path)) in omega arith } in
        let h = height-le rule.body ws u d (budget - 1) s' in
        omega (arith, rule_falls (length L.rules) (length L.nodes) (length ws) budget n.0 rule.body.0 pos)
    height-le n ws t (by_tag tag e z q) budget s = omega arith
    height-le n ws t (by_null e z q) budget s = omega arith
    height-le n ws t (by_garbage e q) budget s = omega arith

    each-le : (n : NodeIx) (all budget : ℕ) → Shallow L n budget → (ps : List NodeIx) (ws : Words) (ts : List ParseTree) (d : DerivesEach L ps ws ts) →
        length ws ≤ all → ((j : ℕ) (p : NodeIx) → slice_get ps j ≡ Some p → n.0 < p.0) → EachLifts n all ps ws → height_each L ps ws ts d ≤ rank_of n all budget
    each-le n all budget s _ ws _ (no_part z) le up lift = omega arith
    each-le n all budget s _ ws _ (part {p = p} {ps = ps} {t = t} {ts = ts} u v z d ds) le up lift =
        let len : length ws ≡ length u + length v = ap length z ∙ length-append u v in
        let mine : length u ≡ all → Lifts n p = λ full. lift (omega arith) 0 p refl (λ i other ne g. tail_empty i other ne g (rest_nil ws u v z (omega arith))) in
        let c = pick n p all budget u (omega arith) s mine (up 0 p refl) (is_node L p u t d) in
        let h = height-le p u t d c.0 c.1 in
        let h' = each-le n all budget s ps v ts ds (omega arith) (λ j m g. up (suc j) m g)
        (λ full j m g others. lift (omega arith) (suc j) m g (λ i other ne g'. front_empty i other j ne g' others (front_nil ws u v z (omega arith)))) in
        omega (arith, c.2)
      where
        tail_empty : (i : ℕ) (other : NodeIx) → i ≢ 0 → slice_get (p ∷ ps) i ≡ Some other → v ≡ [] → CanBeEmpty L other
        tail_empty zero other ne g e = absurd (ne refl)
        tail_empty (suc i) other ne g e = each_empty L ps v ts e ds i other g

        front_empty : (i : ℕ) (other : NodeIx) (j : ℕ) → i ≢ suc j → slice_get (p ∷ ps) i ≡ Some other →
            ((i : ℕ) (other : NodeIx) → i ≢ j → slice_get ps i ≡ Some other → CanBeEmpty L other) → u ≡ [] → CanBeEmpty L other
        front_empty zero other j ne g others e = let same : p ≡ other = cc in (t, subst (λ x. Derives L x [] t) same (subst (λ w. Derives L p w t) e d))
        front_empty (suc i) other j ne g others e = others i other (λ same. ne (ap suc same)) g

    turns-le : (n : NodeIx) (all budget : ℕ) → Shallow L n budget → (least : ℕ) (most : Option ℕ) (p : NodeIx) → node_at L n ≡ Some (node.Rep least most p) →
        (before free : ℕ) (ws : Words) (ts : List ParseTree) (d : DerivesTurns L p free ws ts) → length ws ≤ all →
        (length ws ≡ all → 0 < before → CanBeEmpty L p) → least ≤ before + length ts → IsAtMost most (before + length ts) → height_turns L p free ws ts d ≤ rank_of n all budget
    turns-le n all budget s least most p e before free ws _ (no_turn z) le empty lo hi = omega arith
    turns-le n all budget s least most p e before free ws _ (turn {t = t} {ts = ts} u v z ne d ds) le empty lo hi =
        let len : length ws ≡ length u + length v = ap length z ∙ length-append u v in
        let mine : length u ≡ all → Lifts n p = λ full q a. at_rep least most p e (some_turn most (before + length (t ∷ ts)) (omega arith) hi) a (alone_or_empty (cases_order (before + length ts) 0) full (rest_nil ws u v z (omega (arith, len)))) in
        let c = pick n p all budget u (omega arith) s mine (above n (node.Rep least most p) e 0 p refl) (is_node L p u t d) in
        let h = height-le p u t d c.0 c.1 in
        let h' = turns-le n all budget s least most p e (before + 1) (free - 1) v ts ds (omega arith)
        (λ full pos. (t, subst (λ w. Derives L p w t) (front_nil ws u v z (omega (arith, len))) d)) (omega arith) (subst (IsAtMost most) (omega arith) hi) in
        omega (arith, c.2)
      where
        some_turn : (most : Option ℕ) (k : ℕ) → 0 < k → IsAtMost most k → most ≢ Some 0
        some_turn None k pos h e = cc
        some_turn (Some m) k pos h e = let z : m ≡ 0 = cc in omega arith

        alone_or_empty : (before + length ts ≡ 0) ⊎ ((before + length ts < 0) ⊎ (0 < before + length ts)) → length u ≡ all → v ≡ [] → (least ≤ 1) ⊎ CanBeEmpty L p
        alone_or_empty (inl none) full e = inl (omega arith)
        alone_or_empty (inr (inl never)) full e = absurd (omega arith)
        alone_or_empty (inr (inr pos)) full e = inr (other (cases_order before 0))
          where
            other : (before ≡ 0) ⊎ ((before < 0) ⊎ (0 < before)) → CanBeEmpty L p
            other (inl none) = turns_empty L p (free - 1) v ts e (omega arith) ds
            other (inr (inl never)) = absurd (omega arith)
            other (inr (inr some)) = empty (omega (arith, ap length z, length-append u v)) some

  -- the same where the code chose the budget
  pub cut_falls : (n p : NodeIx) (all span budget left : ℕ) → span ≤ all → Shallow L n budget → (span ≡ all → (q : RuleIx) → Alone L p q → Alone L n q) → n.0 < p.0 → p.0 < length L.nodes →
      ((span < all) × (left ≡ length L.rules)) ⊎ ((all ≤ span) × (left ≡ budget)) → Shallow L p left × (rank_of p span left < rank_of n all budget)
  cut_falls n p all span budget left le s lift up lt (inl h) =
      (subst (Shallow L p) (sym h.1) (path_short L acyclic p), subst (λ b. rank_of p span b < rank_of n all budget) (sym h.1) (words_fall _ _ span all budget n.0 p.0 h.0))
  cut_falls n p all span budget left le s lift up lt (inr h) =
      let e : span ≡ all = omega (arith, h.0) in (
        subst (Shallow L p) (sym h.1) (lifted n p budget (lift e) s),
        subst (λ b. rank_of p span b < rank_of n all budget) (sym h.1) (subst (λ k. rank_of p k budget < rank_of n all budget) (sym e) (part_falls _ _ all budget n.0 p.0 up lt)),
      )
