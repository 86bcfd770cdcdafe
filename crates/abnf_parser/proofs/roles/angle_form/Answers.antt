use Rattle.abnf_parser.proofs.roles.angle_form.Goals as goal

pub returns-in-None : goal.returns-in-None
returns-in-None c = λ rest h. c.media_form.ensures rest h c.in-None.ensures
