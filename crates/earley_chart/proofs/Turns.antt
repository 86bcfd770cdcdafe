-- Counting turns: what the level of so many turns and one more is.
use Rattle.std.proofs.Common.{Bool, true, false, ltb, ℕ, zero, suc, ◌+◌, ◌<◌, ◌≤◌, ◌≡◌, ◌⊎◌, inl, inr, min, Option, Some, None, refl, sym, ap, ◌∙◌, subst, arith}
use Rattle.grammar_tree.specs.Derives.{IsAtMost}
use Rattle.earley_chart.specs.code.Steps.{level, next_level}

pub level_none : (least : ℕ) (most : Option ℕ) → level least most 0 ≡ 0
level_none least None = omega arith
level_none least (Some most) = refl

pub level_next : (least : ℕ) (most : Option ℕ) (turns : ℕ) → next_level least most (level least most turns) ≡ level least most (turns + 1)
level_next least (Some most) turns = refl
level_next least None turns = grind arith

-- below the least each turn is counted
pub level_exact : (least : ℕ) (most : Option ℕ) (turns : ℕ) → level least most turns < least → level least most turns ≡ turns
level_exact least (Some most) turns lt = refl
level_exact least None turns lt = omega arith

-- turns are never counted further than they go
pub level_within : (least : ℕ) (most : Option ℕ) (turns : ℕ) → level least most turns ≤ turns
level_within least (Some most) turns = omega arith
level_within least None turns = omega arith

-- where one more turn is allowed, the level allows it
pub level_allows : (least : ℕ) (most : Option ℕ) (turns : ℕ) → IsAtMost most (turns + 1) → IsAtMost most (level least most turns + 1)
level_allows least (Some most) turns hi = hi
level_allows least None turns hi = tt
