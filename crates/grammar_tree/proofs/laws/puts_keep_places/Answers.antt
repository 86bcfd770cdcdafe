use Rattle.grammar_tree.proofs.KeyedLaws.{put_is_found, put_keeps_places, new_goes_last}
use Rattle.grammar_tree.proofs.laws.puts_keep_places.Goals as goal

pub returns-clause-found : goal.returns-clause-found
returns-clause-found c = put_is_found

pub returns-clause-places : goal.returns-clause-places
returns-clause-places c = put_keeps_places

pub returns-clause-last : goal.returns-clause-last
returns-clause-last c = new_goes_last
