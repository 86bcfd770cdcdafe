use Rattle.script_value.proofs.Together.{items-more, measures-List, members-more, measures-Record, limit-measures}
use Rattle.script_value.proofs.laws.measured_in_parts.Goals as goal

pub returns-clause-lists : goal.returns-clause-lists
returns-clause-lists c = record { more = items-more; whole = measures-List }

pub returns-clause-records : goal.returns-clause-records
returns-clause-records c = record { more = members-more; whole = measures-Record }

pub returns-clause-limits : goal.returns-clause-limits
returns-clause-limits c = limit-measures
