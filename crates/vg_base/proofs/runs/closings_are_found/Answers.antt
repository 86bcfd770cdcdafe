use Rattle.vg_base.proofs.Closings.{closed_of, closes_none, found_end}
use Rattle.vg_base.proofs.runs.closings_are_found.Goals as goal

pub returns : goal.returns
returns c = record { first = closed_of; none = closes_none; each = found_end }
