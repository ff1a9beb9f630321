use Rattle.std.proofs.Common.{sym, subst, Option}
use Rattle.script_read.specs.declared.command.Command.{Command}
use Rattle.script_read.specs.Script.{turn_of_line}
use Rattle.live_script.specs.SoFar.{TurnAdds, live_turn}
use Rattle.live_script.proofs.Addressed.{line_addressed}
use Rattle.live_script.proofs.read.take_line.Goals as goal

pub take_command-requires-clause-addressed : goal.take_command-requires-clause-addressed
take_command-requires-clause-addressed c = line_addressed c.args.line.now c.in-Ok.command c.in-Ok.ensures.command

pub returns-in-Ok : goal.returns-in-Ok
returns-in-Ok c = subst (λ (o : Option Command). TurnAdds c.args.collected.now c.take_command.new.collected c.args.number (live_turn c.args.number (turn_of_line c.args.collected.now.declared c.args.number o)) c.take_command.result) (sym c.in-Ok.ensures.command) c.take_command.ensures
