use Rattle.rule_reader.proofs.OnceLemmas.{of_once}
use Rattle.rule_reader.proofs.uris.imported_keys.Goals as goal

pub returns-clause-same : goal.returns-clause-same
returns-clause-same c = of_once c.args.doc.now c.args.key.now c.in_ok-keys.keys.keys c.in_ok-keys.ensures
