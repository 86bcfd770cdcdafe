use Rattle.abnf_lexer.proofs.HeaderForm.{header_form, form_header}
use Rattle.abnf_lexer.proofs.laws.headers_have_their_form.Goals as goal

pub returns : goal.returns
returns c = record { form = header_form; faultless = λ text rest h. (form_header text rest h).0; rest = λ text rest h. (form_header text rest h).1 }
