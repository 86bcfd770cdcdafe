use Rattle.token_forms.proofs.WordLemmas.{some_list, one_list}
use Rattle.token_forms.proofs.words.words_are_one.Goals as goal

pub returns-clause-some : goal.returns-clause-some
returns-clause-some c = some_list

pub returns-clause-one : goal.returns-clause-one
returns-clause-one c = λ text these those p q. one_list these those text p q
