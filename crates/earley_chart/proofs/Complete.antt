-- Where nothing is left to be followed up, each derivation that leads from a goal to a place is a fact (`complete`, by
-- recursion on the derivation), and what a derivation meets is a goal (`all_met`). Of turns those are counted that lead
-- to a further place; where others are left over, one of them can be made at the last place (`Turned`).
use Rattle.std.proofs.Common.{Bool, true, false, leb, ℕ, zero, suc, ◌+◌, ◌-◌, ◌<◌, ◌≤◌, ◌≡◌, ◌≢◌, ◌⊎◌, List, [], ◌∷◌, ◌++◌, Option, Some, None, length, take, refl, sym, ap, ◌∙◌, subst, ⊎_elim, arith, zero-add}
use Rattle.std.specs.Prelude.{slice_get}
use Rattle.std.proofs.lemmas.Bool.Decides.{leb_tells}
use Rattle.std.proofs.lemmas.List.{length-take}
use Rattle.std.proofs.lemmas.Option.{slice_get_within}
use Rattle.vg_base.specs.declared.numbers.NodeIx.{NodeIx}
use Rattle.vg_base.specs.declared.numbers.RuleIx.{RuleIx}
use Rattle.grammar_tree.specs.declared.linked.Node.{Node}
use Rattle.grammar_tree.specs.declared.linked.Node.TheVariants as node
use Rattle.grammar_tree.specs.declared.parse_tree.ParseTree.{ParseTree}
use Rattle.grammar_tree.specs.Links.{Rules, node_at, rule_at}
use Rattle.grammar_tree.specs.Derives.{Words, IsAtMost, Derives, by_token, by_seq, by_alt, by_rep, by_ref, by_tag, by_null, by_garbage, DerivesEach, no_part, part, DerivesTurns, no_turn, turn}
use Rattle.grammar_tree.proofs.Decode.{fewer}
use Rattle.earley_chart.specs.code.Reads.{Reads}
use Rattle.earley_chart.specs.code.Steps.{level, next_level, Leads, PartsLead, FullTurns, TurnsLead, Met, at_body, at_alternative, at_reference, at_part, at_turn}
use Rattle.earley_chart.specs.code.Facts.{Facts, Behind, AreClosed}
use Rattle.earley_chart.proofs.ReadLaws.{reads_on, reads_to, reads_none, reads_cut, reads_stay}
use Rattle.earley_chart.proofs.Turns.{level_none, level_next, level_exact, level_allows}

get_taken : {X : Type 0} (k : ℕ) (xs : List X) (at : ℕ) (x : X) → slice_get (take k xs) at ≡ Some x → slice_get xs at ≡ Some x
get_taken zero xs at x h = absurd (cc)
get_taken (suc k) [] at x h = absurd (cc)
get_taken (suc k) (y ∷ ys) zero x h = h
get_taken (suc k) (y ∷ ys) (suc at) x h = get_taken k ys at x h

module _ (L : Rules) (ws : Words) (goes_on : Bool) (r : RuleIx) (F : Facts) (closed : AreClosed L ws goes_on r F) where
  -- so many turns lead from i to j: these were counted, and if there are more one of them can be made at j
  record Turned (n p : NodeIx) (least : ℕ) (most : Option ℕ) (i j all : ℕ) : Type 0 where
    full : ℕ
    few : full ≤ all
    stands : F.stands n (level least most full) i j
    spare : full < all → F.goal p j → F.ends p j j

  finish : (n p : NodeIx) (least : ℕ) (most : Option ℕ) → node_at L n ≡ Some (node.Rep least most p) → (i j all : ℕ) → least ≤ all → IsAtMost most all →
      Turned n p least most i j all → F.ends n i j
  finish n p least most e i j all lo hi w =
      ⊎_elim
      (λ a. closed.enough n least most p (level least most w.full) i j w.stands e a.1)
      (λ a.
      let exact : level least most w.full ≡ w.full = level_exact least most w.full a.1 in
      let fits = fewer most (level least most w.full + 1) all (omega (arith, exact, lo, a.1)) hi in
      let goal = (closed.turn n least most p (level least most w.full) i j w.stands e fits).0 in
      closed.filled n least most p (level least most w.full) i j w.stands e (fewer most least all lo hi) (w.spare (omega (arith, exact, lo, a.1)) goal))
      (leb_tells least (level least most w.full))

  mutual
    pub complete : (n : NodeIx) (us : Words) (t : ParseTree) → Derives L n us t → (i j : ℕ) → F.goal n i → Reads ws goes_on i us j → F.ends n i j
    complete n us t (by_token e q) i j g read = closed.token n us i j g e read
    complete n us t (by_seq ps ts e q d) i j g read =
        (complete_parts n ps e i ps 0 (λ k p h. subst (λ x. slice_get ps x ≡ Some p) (sym (zero-add k)) h) us ts d i j (closed.no_part n ps i g e) read).1 (zero-add (length ps))
    complete n us t (by_alt ps k p u e at q d) i j g read =
        let step = closed.alternative n ps k p i g e at in
        step.1 j (complete p us u d i j step.0 read)
    complete n us t (by_rep least most p ts e q lo hi d) i j g read =
        let start = subst (λ k. F.stands n k i i) (sym (level_none least most)) (closed.no_turn n least most p i g e) in
        let bound = subst (IsAtMost most) (sym (zero-add (length ts))) hi in
        finish n p least most e i j (0 + length ts) (omega (arith, lo)) bound (complete_turns n p least most e i least us ts d 0 i j start bound read)
    complete n us t (by_ref q rule u e at same d) i j g read =
        let step = closed.reference n q rule i g e at in
        step.1 j (complete rule.body us u d i j step.0 read)
    complete n us t (by_tag tag e z q) i j g read = subst (λ k. F.ends n i k) (reads_none ws goes_on i us j z read) (closed.tag n tag i g e)
    complete n us t (by_null e z q) i j g read = subst (λ k. F.ends n i k) (reads_none ws goes_on i us j z read) (closed.null n i g e)
    complete n us t (by_garbage e q) i j g read = closed.garbage n us i j g e read

    complete_parts : (n : NodeIx) (ps : List NodeIx) → node_at L n ≡ Some (node.Seq ps) → (i : ℕ) (qs : List NodeIx) (done : ℕ) →
        ((k : ℕ) (p : NodeIx) → slice_get qs k ≡ Some p → slice_get ps (done + k) ≡ Some p) → (us : Words) (ts : List ParseTree) → DerivesEach L qs us ts →
        (m j : ℕ) → Behind F n ps done i m → Reads ws goes_on m us j → Behind F n ps (done + length qs) i j
    complete_parts n ps e i _ done are us _ (no_part z) m j behind read =
        let same : done ≡ done + 0 = omega arith in
        subst (λ k. Behind F n ps k i j) same (subst (λ k. Behind F n ps done i k) (reads_none ws goes_on m us j z read) behind)
    complete_parts n ps e i _ done are us _ (part {p = p} {ps = rest} {t = t} {ts = ts} u v z d ds) m j behind read =
        let c = reads_cut ws goes_on m j u v us z read in
        let here : done + 0 ≡ done = omega arith in
        let at : slice_get ps done ≡ Some p = subst (λ k. slice_get ps k ≡ Some p) here (are 0 p refl) in
        let step = closed.part n ps done p i m (behind.0 (slice_get_within ps done p at)) e at in
        let next = step.1 c.0 (complete p u t d m c.0 step.0 c.1) in
        let later : (k : ℕ) (q : NodeIx) → slice_get rest k ≡ Some q → slice_get ps (done + 1 + k) ≡ Some q =
        λ k q h. (let one : done + suc k ≡ done + 1 + k = omega arith in subst (λ x. slice_get ps x ≡ Some q) one (are (suc k) q h)) in
        let all : done + 1 + length rest ≡ done + suc (length rest) = omega arith in
        subst (λ k. Behind F n ps k i j) all (complete_parts n ps e i rest (done + 1) later v ts ds c.0 j next c.2)

    complete_turns : (n p : NodeIx) (least : ℕ) (most : Option ℕ) → node_at L n ≡ Some (node.Rep least most p) → (i free : ℕ) (us : Words) (ts : List ParseTree) →
        DerivesTurns L p free us ts → (full m j : ℕ) → F.stands n (level least most full) i m → IsAtMost most (full + length ts) → Reads ws goes_on m us j →
        Turned n p least most i j (full + length ts)
    complete_turns n p least most e i free us _ (no_turn z) full m j stands hi read = record {
      full = full;
      few = omega arith;
      stands = subst (λ k. F.stands n (level least most full) i k) (reads_none ws goes_on m us j z read) stands;
      spare = λ lt. absurd (omega (arith, lt));
    }
    complete_turns n p least most e i free us _ (turn {t = t} {ts = ts} u v z ok d ds) full m j stands hi read =
        let c = reads_cut ws goes_on m j u v us z read in
        let one = fewer most (full + 1) (full + suc (length ts)) (omega arith) hi in
        let step = closed.turn n least most p (level least most full) i m stands e (level_allows least most full one) in
        ⊎_elim
        (λ a.
        let same : c.0 ≡ m = omega (arith, a.1, reads_on ws goes_on m u c.0 c.1) in
        let less = fewer most (full + length ts) (full + suc (length ts)) (omega arith) hi in
        let rest = complete_turns n p least most e i (free - 1) v ts ds full c.0 j (subst (λ k. F.stands n (level least most full) i k) (sym same) stands) less c.2 in
        record {
          full = rest.full;
          few = omega (arith, rest.few);
          stands = rest.stands;
          spare = λ lt goal. complete p u t d j j goal
              (reads_stay ws goes_on m j u (reads_on ws goes_on m us j read) (reads_to ws goes_on m us j read) (subst (λ k. Reads ws goes_on m u k) same c.1));
        })
        (λ a.
        let other : m ≢ c.0 = λ same. absurd (omega (arith, a.1, same)) in
        let further = subst (λ k. F.stands n k i c.0) (level_next least most full) (step.1 c.0 (complete p u t d m c.0 step.0 c.1) other) in
        let all : full + 1 + length ts ≡ full + suc (length ts) = omega arith in
        let rest = complete_turns n p least most e i (free - 1) v ts ds (full + 1) c.0 j further (subst (IsAtMost most) (sym all) hi) c.2 in
        record { full = rest.full; few = omega (arith, rest.few); stands = rest.stands; spare = λ lt. rest.spare (omega (arith, lt)) })
        (leb_tells c.0 m)

  -- turns that each lead further are counted
  full_stand : (n p : NodeIx) (least : ℕ) (most : Option ℕ) → node_at L n ≡ Some (node.Rep least most p) → (i : ℕ) → F.goal n i → (turns : ℕ) → IsAtMost most turns →
      (j : ℕ) → FullTurns L ws goes_on p turns i j → F.stands n (level least most turns) i j
  full_stand n p least most e i g zero hi j h =
      subst (λ k. F.stands n k i j) (sym (level_none least most)) (subst (λ k. F.stands n 0 i k) h (closed.no_turn n least most p i g e))
  full_stand n p least most e i g (suc turns) hi j h =
      let one : turns + 1 ≡ suc turns = omega arith in
      let before = full_stand n p least most e i g turns (fewer most turns (suc turns) (omega arith) hi) h.0 h.1 in
      let step = closed.turn n least most p (level least most turns) i h.0 before e (level_allows least most turns (subst (IsAtMost most) (sym one) hi)) in
      let end = complete p h.3.0 h.3.2.0 h.3.2.1 h.0 j step.0 h.3.1 in
      subst (λ k. F.stands n (level least most k) i j) one (subst (λ k. F.stands n k i j) (level_next least most turns) (step.1 j end h.2))

  pub all_met : (n : NodeIx) (i : ℕ) → Met L ws goes_on r n i → F.goal n i
  all_met n i (at_body rule e same first) =
      subst (λ k. F.goal n k) (sym first) (subst (λ (m : NodeIx). F.goal m 0) (sym same) (closed.body rule e))
  all_met n i (at_alternative above ps k there e g) = (closed.alternative above ps k n i (all_met above i there) e g).0
  all_met n i (at_reference above q rule there e g same) =
      subst (λ (m : NodeIx). F.goal m i) (sym same) (closed.reference above q rule i (all_met above i there) e g).0
  all_met n i (at_part above ps k start there e g parts) =
      let behind = complete_parts above ps e start (take k ps) 0 (λ at p h. subst (λ x. slice_get ps x ≡ Some p) (sym (zero-add at)) (get_taken k ps at p h))
      parts.0 parts.3.0 parts.3.1 start i (closed.no_part above ps start (all_met above start there) e) parts.1 in
      let all : 0 + length (take k ps) ≡ k = omega (arith, length-take k ps, parts.2) in
      let stands = (subst (λ x. Behind F above ps x start i) all behind).0 (slice_get_within ps k n g) in
      (closed.part above ps k n start i stands e g).0
  all_met n i (at_turn above least most k start there e turns hi) =
      let stands = full_stand above n least most e start (all_met above start there) turns.0 turns.2 i turns.3 in
      (closed.turn above least most n k start i (subst (λ x. F.stands above x start i) (sym turns.1) stands) e hi).0
