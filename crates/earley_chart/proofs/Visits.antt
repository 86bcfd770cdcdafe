-- Looking keeps a board good, and what was asked stays asked.
use Rattle.std.proofs.Common.{Bool, true, false, ℕ, ◌+◌, ◌-◌, ◌<◌, ◌≤◌, ◌≡◌, ◌≢◌, ◌⊎◌, inl, inr, List, Option, Some, None, length, get_or, refl, sym, ap, ◌∙◌, subst, ⊎_elim, arith}
use Rattle.std.specs.Prelude.{slice_get}
use Rattle.std.proofs.lemmas.Option.{slice_get_within, slice_get-get_or}
use Rattle.vg_base.specs.declared.numbers.NodeIx.{NodeIx}
use Rattle.vg_base.specs.declared.numbers.RuleIx.{RuleIx}
use Rattle.grammar_tree.specs.declared.linked.Node.{Node}
use Rattle.grammar_tree.specs.declared.linked.Node.TheVariants as node
use Rattle.grammar_tree.specs.Links.{Rules, node_at}
use Rattle.grammar_tree.specs.Derives.{Words}
use Rattle.earley_chart.specs.declared.board.Spot.{Spot}
use Rattle.earley_chart.specs.declared.board.Board.{Board}
use Rattle.earley_chart.specs.declared.reading.Task.{Task}
use Rattle.earley_chart.specs.code.Boards.{node_of, spot_at, IsSpot, EndsAt, Waits, Sees, Asks, IsWhole, Grows}
use Rattle.earley_chart.specs.code.Sound.{IsRightSpot, IsRightEnd, IsSound, IsGood, RightSpot, Went}

-- a number below the number of spots is a spot
pub spot_there : (b : Board) (at : ℕ) (s : Spot) → at < length b.spots.keys → IsSpot b at (get_or b.spots.keys at s)
spot_there b at s lt = slice_get-get_or b.spots.keys at s lt

pub one_spot : (b : Board) (at : ℕ) (s s' : Spot) → IsSpot b at s → IsSpot b at s' → s ≡ s'
one_spot b at s s' h h' = let both : Some s ≡ Some s' = sym h ∙ h' in cc

module _ (L : Rules) (ws : Words) (goes_on : Bool) (r : RuleIx) (old now : Board) where
  -- a spot that was there has the ends that it had
  sound_more : (spot : Spot) → IsWhole old → IsSound L ws goes_on r old → IsRightSpot L ws goes_on r spot → Grows old now →
      ((at : ℕ) (s : Spot) → IsSpot now at s → IsSpot old at s ⊎ (s ≡ spot)) → IsSound L ws goes_on r now
  sound_more spot whole sound right grows other = record {
    spots = λ at s h. ⊎_elim (λ was. sound.spots at s was) (λ new. subst (IsRightSpot L ws goes_on r) (sym new) right) (other at s h);
    ends = λ at s j h e.
        (let was = grows.ends at j e in
        let lt : at < length old.spots.keys = omega (arith, slice_get_within old.ends.items at was.0 was.1, whole.ends) in
        let there = spot_there old at s lt in
        let same = one_spot now at (get_or old.spots.keys at s) s (grows.spots at (get_or old.spots.keys at s) there) h in
        sound.ends at s j (subst (λ (x : Spot). IsSpot old at x) same there) was);
  }

pub good_more : (t : Task) (old now : Board) (spot : Spot) → IsGood t old → RightSpot t spot → IsWhole now → Grows old now →
    ((at : ℕ) (s : Spot) → IsSpot now at s → IsSpot old at s ⊎ (s ≡ spot)) → IsGood t now
good_more t old now spot good right whole grows other = record {
  linked = good.linked;
  few = good.few;
  whole = whole;
  sound = sound_more t.linked.now t.reading.words.now t.reading.goes_on t.rule old now spot good.whole good.sound right grows other;
}

-- what the one above saw is there, and it waits for it, and that ends nowhere else
pub record Stays (old now : Board) (above : ℕ) : Type 0 where
  pub spots : (at : ℕ) (s : Spot) → IsSpot old at s → IsSpot now at s
  pub waits : (at : ℕ) → Waits old above at → Waits now above at × ((j : ℕ) → EndsAt now at j → EndsAt old at j)

pub grows_stays : (old now : Board) (above : ℕ) → Grows old now → Stays old now above
grows_stays old now above g = record { spots = g.spots; waits = λ at h. (g.waits above at h, g.ends at) }

module _ (old now : Board) (above : ℕ) (stays : Stays old now above) where
  pub sees_stays : (s : Spot) (P Q : ℕ → Type 0) → ((j : ℕ) → P j → Q j) → Sees old above s P → Sees now above s Q
  sees_stays s P Q f h = (h.0, stays.spots h.0 s h.1, (stays.waits h.0 h.2).0, λ j e. f j (h.3 j ((stays.waits h.0 h.2).1 j e)))

  pub asks_stays : (L : Rules) (ws : Words) (goes_on : Bool) (x : Node) (s : Spot) (P Q : ℕ → Type 0) → ((j : ℕ) → P j → Q j) →
      Asks L ws goes_on old above x s P → Asks L ws goes_on now above x s Q
  asks_stays L ws goes_on (node.Token us) s P Q f h = λ j read. f j (h j read)
  asks_stays L ws goes_on (node.Seq ps) s P Q f h = (
    λ e. f s.start (h.0 e),
    λ p at. sees_stays (spot_at p 0 s.start) _ _ (λ j a. (λ e. f j (a.0 e), λ lt. sees_stays (spot_at (node_of s) (s.step + 1) j) P Q f (a.1 lt))) (h.1 p at),
  )
  asks_stays L ws goes_on (node.Alt ps) s P Q f h =
      λ p at. (sees_stays (spot_at p 0 s.start) P Q f (h p at).0, sees_stays (spot_at (node_of s) (s.step + 1) s.start) P Q f (h p at).1)
  asks_stays L ws goes_on (node.Rep least most p) s P Q f h = (
    λ lo. f s.start (h.0 lo),
    λ hi. sees_stays (spot_at p 0 s.start) _ _ (λ j a. (λ ne. sees_stays _ P Q f (a.0 ne), λ same lt bound. f j (a.1 same lt bound))) (h.1 hi),
  )
  asks_stays L ws goes_on (node.Ref q) s P Q f h = λ rule at. sees_stays (spot_at rule.body 0 s.start) P Q f (h rule at)
  asks_stays L ws goes_on (node.Tag tag) s P Q f h = f s.start h
  asks_stays L ws goes_on node.Null s P Q f h = f s.start h
  asks_stays L ws goes_on node.Void s P Q f h = h
  asks_stays L ws goes_on node.Garbage s P Q f h = λ us j read. f j (h us j read)
