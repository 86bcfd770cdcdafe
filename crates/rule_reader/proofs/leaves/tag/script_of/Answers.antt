use Rattle.std.proofs.Common.{sym, ◌∙◌}
use Rattle.rule_reader.proofs.ReadLeaves.{script_read, no_script_read, unscripted}
use Rattle.rule_reader.proofs.leaves.tag.script_of.Goals as goal

pub returns-in-Ok : goal.returns-in-Ok
returns-in-Ok c = script_read c.args.context c.args.span c.in-Ok.script (sym c.is_scripted.ensures ∙ c.if-not-is_scripted.false) c.in-Ok.ensures.reads.0

pub returns-in-Err-Fault : goal.returns-in-Err-Fault
returns-in-Err-Fault c =
    no_script_read c.args.context c.args.span (sym c.is_scripted.ensures ∙ c.if-not-is_scripted.false) (rw c.in-Err-Fault.field-0-is at c.in-Err-Fault.ensures.reads) c.tell.ensures

pub returns-then-not-is_scripted : goal.returns-then-not-is_scripted
returns-then-not-is_scripted c = unscripted c.args.context c.args.span (sym c.is_scripted.ensures ∙ c.if-not-is_scripted.true)
