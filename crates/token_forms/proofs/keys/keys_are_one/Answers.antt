use Rattle.std.proofs.Common.{sym, ◌∙◌, append-nil}
use Rattle.token_forms.specs.Keys.{spelling}
use Rattle.token_forms.proofs.KeyLemmas.{some_division, one_list, one_place, not_both, same_sign}
use Rattle.token_forms.proofs.keys.keys_are_one.Goals as goal

pub returns-clause-some : goal.returns-clause-some
returns-clause-some c = some_division

pub returns-clause-apart : goal.returns-clause-apart
returns-clause-apart c = λ this that more p q e. (same_sign this that more _ p q (sym e ∙ sym (append-nil (spelling that)))).0

pub returns-clause-keys : goal.returns-clause-keys
returns-clause-keys c = one_list

pub returns-clause-place : goal.returns-clause-place
returns-clause-place c = one_place

pub returns-clause-either : goal.returns-clause-either
returns-clause-either c = not_both
