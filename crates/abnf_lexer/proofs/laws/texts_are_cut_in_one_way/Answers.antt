use Rattle.vg_base.proofs.Cutting.{one_cutting}
use Rattle.abnf_lexer.specs.Forms.{HasForm}
use Rattle.abnf_lexer.proofs.Cuttings.{one_begins}
use Rattle.abnf_lexer.proofs.laws.texts_are_cut_in_one_way.Goals as goal

pub returns : goal.returns
returns c = λ text stop end pieces others. one_cutting HasForm one_begins text pieces others stop end
