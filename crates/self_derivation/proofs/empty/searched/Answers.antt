use Rattle.std.proofs.Common.{arith, subst}
use Rattle.self_derivation.specs.code.Search.{Counted}
use Rattle.self_derivation.proofs.AboveLemmas.{above_within}
use Rattle.self_derivation.proofs.SearchLemmas.{Next, left_within, next_within, search_next, fewer_untold}
use Rattle.self_derivation.proofs.empty.searched.Goals as goal
use Rattle.self_derivation.proofs.empty.searched.Goals.{In-Some}

next_of : (c : In-Some) → Next c.in-Some.n c.loop-n.search c.next.new.self
next_of c = record { left = c.in-Some.ensures.some; told = c.in-Some.ensures.told; missing = c.in-Some.ensures.missing }

pub next-requires : goal.next-requires
next-requires c = left_within c.args.linked.now c.loop-n.search c.loop-n.invariant

pub row-requires : goal.row-requires
row-requires c = omega (arith, next_within c.args.linked.now c.loop-n.invariant (next_of (goal.at.row-requires c).In-Some), c.in_ok-above.ensures.sized)

pub count_each-requires : goal.count_each-requires
count_each-requires c =
    let within = above_within c.args.linked.now c.in_ok-above.above c.in_ok-above.ensures c.in-Some.n in
    rw (c.row.ensures, c.in-Some.ensures.missing, c.loop-n.invariant.missing_sized) within

pub loop-n-smaller : goal.loop-n-smaller
loop-n-smaller c = fewer_untold c.args.linked.now c.loop-n.invariant (next_of (goal.at.loop-n-smaller c).In-Some) c.in_ok-count_each.ensures

pub loop-n-preserved : goal.loop-n-preserved
loop-n-preserved c =
    search_next c.args.linked.now c.loop-n.invariant (next_of (goal.at.loop-n-preserved c).In-Some) c.in_ok-above.ensures
    (subst (λ ns. Counted ns c.next.new.self c.count_each.new.self) c.row.ensures c.in_ok-count_each.ensures)
