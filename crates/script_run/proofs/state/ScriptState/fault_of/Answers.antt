use Rattle.std.proofs.Common.{sym, ◌∙◌, ap, Option}
use Rattle.script_read.specs.Script.{fault_of}
use Rattle.script_run.specs.World.{World}
use Rattle.script_run.specs.States.{RunState, run_state_of}
use Rattle.script_run.proofs.state.ScriptState.fault_of.Goals as goal

pub returns-in-None : goal.returns-in-None
returns-in-None c =
    c.fault_unopened.ensures c.self.inside.closed
    ∙ (ap (λ (o : Option World). fault_of (run_state_of o c.self.inside.closed).declared c.args.command.now) (sym c.in-None.is)
    ∙ ap (λ (t : RunState). fault_of t.declared c.args.command.now) c.self.view_is)
