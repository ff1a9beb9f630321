use Rattle.std.proofs.Common.{sym, ◌∙◌}
use Rattle.live_script.proofs.Turns.{goes_on}
use Rattle.live_script.proofs.read.take_command.Goals as goal

pub returns-in-Ok : goal.returns-in-Ok
returns-in-Ok c = (c.args.command, goes_on c.args.collected.now.declared c.args.number c.args.command (sym c.fault_of.ensures ∙ c.in_default.is) (sym c.ends_script.ensures ∙ c.if-ends_script.false), c.in-Ok.ensures)
