use Rattle.rule_reader.proofs.tests.imported.Goals as goal

pub imports-requires-clause-resolvable : goal.imports-requires-clause-resolvable
imports-requires-clause-resolvable c = c.references_can_be_resolved.ensures c.in_ok-text.text c.in_ok-document.document c.in_ok-document.ensures
