use Rattle.std.proofs.Common.{Err, ap, ◌∙◌}
use Rattle.std.proofs.lemmas.Result.{err_from_is_err_and}
use Rattle.serde_json.specs.View.{view}
use Rattle.command_reader.specs.Members.{area_at}
use Rattle.command_reader.specs.Table.{row_of}
use Rattle.command_reader.proofs.Reading.{area_refused, row_refused, both_read}
use Rattle.command_reader.proofs.reader.called_at.Goals as goal

pub returns-in_err-area : goal.returns-in_err-area
returns-in_err-area c =
    let d = view c.args.value.now in
    let refused = err_from_is_err_and c.from_residual.result c.from_residual.ensures.1 in
    area_refused (row_of c.args.verb.now d) (area_at d) c.in_err-area.field-0.0 c.from_residual.result (refused.1 ∙ ap Err refused.2) c.in_err-area.ensures

pub returns-in_err-command : goal.returns-in_err-command
returns-in_err-command c =
    let d = view c.args.value.now in
    let refused = err_from_is_err_and c.from_residual-in_err-command.result c.from_residual-in_err-command.ensures.1 in
    row_refused (row_of c.args.verb.now d) (area_at d) c.in_err-command.field-0.0 c.from_residual-in_err-command.result (refused.1 ∙ ap Err refused.2) c.in_err-command.ensures

pub returns : goal.returns
returns c =
    let d = view c.args.value.now in
    both_read (row_of c.args.verb.now d) (area_at d) c.in_ok-command.command c.in_ok-area.area c.in_ok-command.ensures c.in_ok-area.ensures
