use Rattle.std.proofs.Common.{[], ◌∷◌, sym, ap, ◌∙◌}
use Rattle.std.proofs.lemmas.Result.{on_ok_weaker}
use Rattle.json_reply.specs.Rows.{fields_of, result_field, results_field, rule_field, uri_field, version_field}
use Rattle.json_reply.specs.code.Putting.{held, put_each}
use Rattle.json_reply.proofs.rows.put_body.Goals as goal

pub returns-in_ok-put_result-in-Match-clause-put : goal.returns-in_ok-put_result-in-Match-clause-put
returns-in_ok-put_result-in-Match-clause-put c =
    let m = c.in-Match in
    on_ok_weaker c.end.result (λ last. last
    ∙ ap (λ ms. put_each ms (rule_field m.rule ∷ uri_field m.uri ∷ version_field m.version ∷ []))
    (c.in_ok-put_result-in-Match.ensures.put ∙ ap (λ ms. put_each ms (result_field m.meant ∷ [])) c.in_ok-begin-in-Match.ensures.put)
    ∙ sym (ap (λ b. put_each (held c.args.object.now) (fields_of c.args.line b)) m.is)) c.end.ensures.put

pub returns-in_ok-put_results-in-Best-clause-put : goal.returns-in_ok-put_results-in-Best-clause-put
returns-in_ok-put_results-in-Best-clause-put c =
    let m = c.in-Best in
    on_ok_weaker c.end-in-Best.result (λ last. last
    ∙ ap (λ ms. put_each ms (rule_field m.rule ∷ uri_field m.uri ∷ version_field m.version ∷ []))
    (c.in_ok-put_results-in-Best.ensures.put
    ∙ ap (λ rs. put_each (held c.begin-in-Best.new.self) (results_field rs ∷ [])) c.as_slice.ensures
    ∙ ap (λ ms. put_each ms (results_field m.meant ∷ [])) c.in_ok-begin-in-Best.ensures.put)
    ∙ sym (ap (λ b. put_each (held c.args.object.now) (fields_of c.args.line b)) m.is)) c.end-in-Best.ensures.put

pub returns-in_ok-begin-in-NoMatch-clause-put : goal.returns-in_ok-begin-in-NoMatch-clause-put
returns-in_ok-begin-in-NoMatch-clause-put c =
    let m = c.in-NoMatch in
    on_ok_weaker c.version.result (λ last. last
    ∙ ap (λ ms. put_each ms (version_field m.version ∷ [])) c.in_ok-begin-in-NoMatch.ensures.put
    ∙ sym (ap (λ b. put_each (held c.args.object.now) (fields_of c.args.line b)) m.is)) c.version.ensures.put
