use Rattle.token_forms.proofs.WordLemmas.{some_lists, one_lists}
use Rattle.token_forms.proofs.words.words_of_all_are_one.Goals as goal

pub returns-clause-some : goal.returns-clause-some
returns-clause-some c = some_lists

pub returns-clause-one : goal.returns-clause-one
returns-clause-one c = one_lists
