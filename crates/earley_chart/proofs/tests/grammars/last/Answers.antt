use Rattle.std.proofs.Common.{ap, ◌∙◌}
use Rattle.std.specs.Prelude.{reverse}
use Rattle.std.proofs.lemmas.List.{reverse-append}
use Rattle.earley_chart.proofs.tests.grammars.last.Goals as goal

pub returns-in-Some : goal.returns-in-Some
returns-in-Some c = ap reverse c.in-Some.ensures ∙ simp reverse-append
