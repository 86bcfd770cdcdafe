-- Documents under keys.
use Rattle.std.specs.Prelude.{List, All}
use Rattle.grammar_tree.specs.declared.doc_set.DocText.{DocText}
use Rattle.rule_reader.specs.Sets.{IsKey}

pub record HaveKeys (docs : List DocText) : Type 0 where
  pub each : All (λ doc. IsKey doc.key) docs
