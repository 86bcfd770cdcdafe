use Rattle.std.proofs.Common.{sym, subst}
use Rattle.abnf_parser.specs.Roles.{HasAngleForm}
use Rattle.abnf_parser.proofs.OneLexeme.{formed, has_inside}
use Rattle.abnf_parser.proofs.roles.media_form.Goals as goal

pub returns-in-Some : goal.returns-in-Some
returns-in-Some c = λ rest h n. subst (λ form. HasAngleForm form c.args.slice.now) (sym c.form_of.ensures) (formed c.args.slice.now _ _ n c.in-Some.ensures)

pub returns-in-None : goal.returns-in-None
returns-in-None c = λ rest h n. absurd (has_inside c.args.slice.now rest h c.in-None.ensures)
