use Rattle.std.proofs.Common.{[], ◌∷◌, ap, ◌∙◌}
use Rattle.serde_json.specs.Data.{object}
use Rattle.command_reader.specs.Written.{area_field}
use Rattle.json_reply.specs.Line.{reply_fields}
use Rattle.json_reply.specs.Rows.{fields_of}
use Rattle.json_reply.specs.code.Putting.{put_each}
use Rattle.json_reply.proofs.InOrder.{in_order, rows_rise}
use Rattle.json_reply.proofs.line.reply_value.Goals as goal

pub returns-clause-json : goal.returns-clause-json
returns-clause-json c =
    let r = c.args.reply.now in
    c.into_value.ensures
    ∙ ap object (c.in_ok-put_body.ensures.put
    ∙ ap (λ ms. put_each ms (fields_of r.line r.body)) (c.in_ok-area.ensures.put ∙ ap (λ ms. put_each ms (area_field r.area.0 ∷ [])) c.new-object.ensures)
    ∙ in_order (reply_fields r) (rows_rise r.area.0 r.line r.body))
