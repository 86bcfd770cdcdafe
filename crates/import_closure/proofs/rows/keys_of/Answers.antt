use Rattle.import_closure.proofs.RowLemmas.{keys_at}
use Rattle.import_closure.proofs.rows.keys_of.Goals as goal

pub imported_keys-requires-clause-resolvable : goal.imported_keys-requires-clause-resolvable
imported_keys-requires-clause-resolvable c = c.references_can_be_resolved.ensures c.requires.reads.one.text c.args.doc.now c.requires.reads.reads

pub returns : goal.returns
returns c =
    keys_at c.args.set.now c.args.x.0 c.args.doc.now c.in_ok-keys.keys.keys
    (c.doc-one.result.now, c.doc-one.ensures, (c.in_ok-key.key, c.in_ok-key.ensures.same, c.in_ok-keys.ensures.same))
