use Rattle.rule_reader.proofs.Shown.{shown}
use Rattle.rule_reader.proofs.document.read_document.Goals as goal

pub read_all-requires : goal.read_all-requires
read_all-requires c = shown c.args.text.now c.in_ok-written.written c.in_ok-written.ensures
