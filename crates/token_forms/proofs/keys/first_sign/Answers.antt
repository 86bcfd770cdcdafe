use Rattle.std.proofs.Common.{refl, sym, ◌∙◌}
use Rattle.token_forms.specs.Keys.{Key, Space}
use Rattle.token_forms.proofs.keys.first_sign.Goals as goal

pub returns-then-is_key-clause-sign : goal.returns-then-is_key-clause-sign
returns-then-is_key-clause-sign c = record {
  sign = Key c.from-c.result;
  is_sign = sym c.is_key.ensures ∙ c.if-is_key.true;
  whole = rw c.from-c.ensures c.in_ok-first.ensures.cases.0;
  means = refl;
}

pub returns-then-is_space-clause-sign : goal.returns-then-is_space-clause-sign
returns-then-is_space-clause-sign c = record {
  sign = Space c.from-c.result;
  is_sign = sym c.is_space.ensures ∙ c.if-is_space.true;
  whole = rw c.from-c.ensures c.in_ok-first.ensures.cases.0;
  means = refl;
}
