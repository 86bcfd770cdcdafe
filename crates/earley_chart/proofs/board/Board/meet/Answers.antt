use Rattle.std.proofs.Common.{Bool, true, false, not, ℕ, ◌≡◌, ◌<◌, ◌≤◌, List, [], ◌∷◌, ◌++◌, if◌then◌else◌, length, refl, sym, ap, ◌∙◌, subst, true≢false}
use Rattle.std.specs.Prelude.{slice_get}
use Rattle.std.specs.List.{list_any}
use Rattle.earley_chart.specs.declared.board.Spot.{Spot}
use Rattle.earley_chart.specs.code.Boards.{IsSpot, IsWhole, Grows}
use Rattle.earley_chart.proofs.Meets.{Pushed, spot_eq, pushed_whole, pushed_grows, pushed_other, apart}
use Rattle.earley_chart.proofs.board.Board.meet.Goals as goal

fresh : (b : Bool) (xs ys : List Spot) → true ≡ not b → (if b then xs else ys) ≡ ys
fresh true xs ys e = absurd (true≢false e)
fresh false xs ys e = refl

stale : (b : Bool) (xs ys : List Spot) → false ≡ not b → (if b then xs else ys) ≡ xs
stale false xs ys e = absurd (true≢false (sym e))
stale true xs ys e = refl

pushed : (c : goal.In_ok-push-2) → Pushed c.args.self.now (record { spots = c.insert_full.new.self; ends = c.push.new.self; waiting = c.push-then-added.new.self; seen = c.args.self.now.seen; again = c.args.self.now.again }) c.args.spot
pushed c = record {
  keys = c.in_ok-at.ensures.keys ∙ fresh _ _ _ (sym c.if-added.true ∙ c.in_ok-at.ensures.added);
  none = c.none.result;
  empty = c.none.ensures;
  ends = c.in_ok-push.ensures.items;
  nobody = c.new.result;
  idle = c.new.ensures.empty;
  waiting = c.in_ok-push-2.ensures.items;
  seen = refl;
  again = refl;
  unique = c.in_ok-at.ensures.unique;
}

pub returns-in_ok-push-2-clause-whole : goal.returns-in_ok-push-2-clause-whole
returns-in_ok-push-2-clause-whole c = pushed_whole _ _ _ (pushed c) c.requires

pub returns-in_ok-push-2-clause-grows : goal.returns-in_ok-push-2-clause-grows
returns-in_ok-push-2-clause-grows c = pushed_grows _ _ _ (pushed c) c.requires

pub returns-in_ok-push-2-clause-other : goal.returns-in_ok-push-2-clause-other
returns-in_ok-push-2-clause-other c = pushed_other _ _ _ (pushed c) c.requires

pub returns-else-added-clause-whole : goal.returns-else-added-clause-whole
returns-else-added-clause-whole c =
    let keys : c.insert_full.new.self.keys ≡ c.args.self.now.spots.keys = c.in_ok-at.ensures.keys ∙ stale _ _ _ (sym c.if-added.false ∙ c.in_ok-at.ensures.added) in
    let same : length c.insert_full.new.self.keys ≡ length c.args.self.now.spots.keys = ap length keys in
    record {
      ends = c.requires.ends ∙ sym same;
      waiting = c.requires.waiting ∙ sym same;
      apart = λ at other s h h'. apart c.insert_full.new.self.keys c.in_ok-at.ensures.unique at other s h h';
      seen = subst (λ n. c.args.self.now.seen ≤ n) (sym same) c.requires.seen;
      again = λ at h. subst (λ n. at < n) (sym same) (c.requires.again at h);
      waits = λ above at h. subst (λ n. above < n) (sym same) (c.requires.waits above at h);
      distinct = c.requires.distinct;
      small = c.requires.small;
    }
