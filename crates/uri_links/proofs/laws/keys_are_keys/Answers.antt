use Rattle.uri_links.proofs.KeyLemmas.{key-twice, key_key}
use Rattle.uri_links.proofs.laws.keys_are_keys.Goals as goal

pub returns-clause-own : goal.returns-clause-own
returns-clause-own c = key-twice

pub returns-clause-key : goal.returns-clause-key
returns-clause-key c = key_key
