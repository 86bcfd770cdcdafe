use Rattle.build_core.proofs.imports.is_closed.Goals as goal

pub returns-then-rows-le64 : goal.returns-then-rows-le64
returns-then-rows-le64 c = (λ h. record { few = c.if-rows-le64.true; inside = c.all_below.ensures.0 h }, λ closed. c.all_below.ensures.1 closed.inside)
