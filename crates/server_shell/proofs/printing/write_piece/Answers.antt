-- A failure leaves a front of the piece.
use Rattle.server_shell.proofs.ReplyLines.{front_of_part}
use Rattle.server_shell.proofs.printing.write_piece.Goals as goal

pub returns-in-Err-clause-front : goal.returns-in-Err-clause-front
returns-in-Err-clause-front g c =
    let (n, within, appended) = c.in-Err.ensures.part in front_of_part _ _ _ n appended
