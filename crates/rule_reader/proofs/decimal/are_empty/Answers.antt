use Rattle.std.proofs.Common.{◌≡◌, ℕ, ◌<◌, ◌≤◌, List, [], ◌++◌, length, ap, arith, length-append}
use Rattle.rule_reader.proofs.decimal.are_empty.Goals as goal

some_left : (a b : List ℕ) → 1 ≤ length a → a ++ b ≡ [] → ⊥
some_left a b h e = let same : length (a ++ b) ≡ 0 = ap length e in omega (arith, length-append a b)

pub returns-in_default-2 : goal.returns-in_default-2
returns-in_default-2 c = some_left c.args.whole.now c.args.behind.now c.in_default.len_at_least
