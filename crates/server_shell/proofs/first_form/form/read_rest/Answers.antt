-- What isn't cut or tested as the form wants is no rest of a rule.
use Rattle.server_shell.proofs.first_form_lemmas.Formed.{rest-none, rest-cut, rest-empty, rest-last}
use Rattle.server_shell.proofs.first_form.form.read_rest.Goals as goal
use Rattle.server_shell.proofs.first_form.form.read_rest.Goals.{else-last-eq59-via-then-last-eq59+then-all_spaces+else-are_alternatives, else-last-eq59-via-then-last-eq59+else-all_spaces, else-last-eq59-via-else-last-eq59}

pub returns-in_default : goal.returns-in_default
returns-in_default c = λ alternatives s. rest-none c.in_default.ensures s

pub returns-in_default-split_last : goal.returns-in_default-split_last
returns-in_default-split_last c = λ alternatives s.
    let (same, tail) = rest-cut c.in-Some.ensures s in
    rest-empty c.in-Some.behind.now alternatives c.in_default-split_last.ensures.cases tail

pub returns-else-last-eq59 : goal.returns-else-last-eq59
returns-else-last-eq59 c = λ alternatives s.
    let (snoc, more) = c.in-Some-split_last.ensures.cases in
    let (end, blank, each) =
    rest-last c.in-Some-split_last.alternatives.now c.in-Some-split_last.last.now
    c.in-Some.ensures snoc s in
    elim c.else-last-eq59.branch [
      | else-last-eq59-via-then-last-eq59+then-all_spaces+else-are_alternatives w ↦ let h =
          w.if-are_alternatives.ensures in cc
      | else-last-eq59-via-then-last-eq59+else-all_spaces w ↦ let h = w.if-all_spaces.ensures in cc
      | else-last-eq59-via-else-last-eq59 w ↦ w.if-last-eq59.false end
    ]
