use Rattle.std.proofs.Common.{sym, ◌∙◌, []}
use Rattle.rule_reader.proofs.Told.{adds_none}
use Rattle.rule_reader.proofs.DocumentRead.{none_told}
use Rattle.rule_reader.proofs.declarations.read_named.Goals as goal

pub returns : goal.returns
returns c = record {
  faults = [];
  are = none_told c.args.keyword c.args.span c.args.inside.now (sym c.names_uri.ensures ∙ c.if-names_uri.false) (sym c.names_format.ensures ∙ c.if-names_format.false);
  adds = adds_none c.args.found.now;
}
