use Rattle.std.proofs.Common.{ℕ, List, subst, ◌∙◌}
use Rattle.vg_base.specs.Refusals.{Meets}
use Rattle.script_reader.specs.Reading.{Reads}
use Rattle.script_reader.proofs.read.read_script.Goals as goal

pub returns-clause-reads : goal.returns-clause-reads
returns-clause-reads c = subst (λ (text : List ℕ). Meets c.read_characters.result (Reads text)) (c.as_slice.ensures.value ∙ c.in_ok-characters.ensures) c.read_characters.ensures.reads
