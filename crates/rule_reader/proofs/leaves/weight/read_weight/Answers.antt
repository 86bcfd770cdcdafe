use Rattle.rule_reader.specs.Numbers.{IsWeight}
use Rattle.rule_reader.proofs.Told.{told_unless}
use Rattle.vg_base.specs.declared.doc_fault.DocKind.TheVariants.{BadWeight}
use Rattle.rule_reader.proofs.leaves.weight.read_weight.Goals as goal

pub returns : goal.returns
returns c = record {
  faults = _;
  are = (c.in_ok-inside.inside, c.in_ok-inside.ensures, told_unless (IsWeight c.in_ok-inside.inside) c.in_ok-good.good c.args.span BadWeight c.in_ok-good.ensures);
  adds = c.tell.ensures;
  is = λ n. tt;
}
