-- What a repeat is read as.
use Rattle.std.proofs.Common.{◌≡◌, ℕ, Bool, true, false, List, [], ◌∷◌, ◌++◌, Option, refl, sym, ap, subst, ◌∙◌}
use Rattle.std.specs.Prelude.{MatchBool, not}
use Rattle.vg_base.specs.declared.doc_fault.DocKind.{DocKind}
use Rattle.vg_base.specs.declared.doc_fault.DocKind.TheVariants.{RepeatOrder, RepeatLarge, BadWeight}
use Rattle.vg_base.specs.declared.doc_fault.DocFault.{DocFault}
use Rattle.abnf_lexer.specs.declared.lexemes.Spanned.{Spanned}
use Rattle.abnf_lexer.specs.Repeats.{Most}
use Rattle.rule_reader.specs.declared.leaves.times.Turns.{Turns}
use Rattle.rule_reader.specs.Numbers.{IsChance}
use Rattle.rule_reader.specs.LeafFaults.{HasRepeat, IsOutOfOrder, IsTooLarge, TimesFaults}
use Rattle.rule_reader.specs.code.Turns.{TurnsOf, TurnsAre}
use Rattle.rule_reader.specs.code.Walks.{told, Adds, IsReadAs}
use Rattle.rule_reader.proofs.Told.{adds_both, told_where, told_unless}

-- what was asked of a repeat, one test after another
pub record Asked (least : List ℕ) (most : Most) (chance : Option (List ℕ)) (order large good : Bool) : Type 0 where
  pub order_is : MatchBool order (IsOutOfOrder least most) (IsOutOfOrder least most → ⊥)
  pub large_is : MatchBool large (IsTooLarge least most) (IsTooLarge least most → ⊥)
  pub good_is : MatchBool good (IsChance chance) (IsChance chance → ⊥)

-- where nothing is told, no number is too large
not_large : (order large : Bool) (span : Spanned) (more : List DocFault) → told order span RepeatOrder ++ (told large span RepeatLarge ++ more) ≡ [] → large ≡ false
not_large true large span more e = absurd cc
not_large false true span more e = absurd cc
not_large false false span more e = refl

of_false : {P : Type 0} (b : Bool) → b ≡ false → MatchBool b P (P → ⊥) → P → ⊥
of_false true e h = absurd cc
of_false false e h = h

pub times_read : {text least : List ℕ} {most : Most} {chance : Option (List ℕ)} {order large good : Bool} {old first second new : Option DocFault} {turns : Turns} (span : Spanned)
    → HasRepeat text span least most chance → Asked least most chance order large good
    → Adds (told order span RepeatOrder) old first × (Adds (told large span RepeatLarge) first second × Adds (told (not good) span BadWeight) second new)
    → ((IsTooLarge least most → ⊥) → TurnsOf least most turns) → IsReadAs (TimesFaults text span) (TurnsAre text span) old new turns
times_read {text} {least} {most} {chance} {order} {large} {good} {old} {first} {second} {new} span has asked adds turns = record {
  faults = told order span RepeatOrder ++ (told large span RepeatLarge ++ told (not good) span BadWeight);
  are = (
    least,
    most,
    chance,
    has,
    (
      told order span RepeatOrder,
      told large span RepeatLarge,
      told (not good) span BadWeight,
      told_where (IsOutOfOrder least most) order span RepeatOrder asked.order_is,
      told_where (IsTooLarge least most) large span RepeatLarge asked.large_is,
      told_unless (IsChance chance) good span BadWeight asked.good_is,
      refl,
    ),
  );
  adds = adds_both (told order span RepeatOrder) (told large span RepeatLarge ++ told (not good) span BadWeight) old first new adds.0
      (adds_both (told large span RepeatLarge) (told (not good) span BadWeight) first second new adds.1.0 adds.1.1);
  is = λ none. (least, most, chance, has, turns (of_false large (not_large order large span (told (not good) span BadWeight) none) asked.large_is));
}
