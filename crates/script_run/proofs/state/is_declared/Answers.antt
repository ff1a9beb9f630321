use Rattle.std.proofs.Common.{sym, ◌∙◌, ap}
use Rattle.std.specs.Prelude.{is_some}
use Rattle.script_run.proofs.Turns.{declared-place}
use Rattle.script_run.proofs.state.is_declared.Goals as goal

pub returns : goal.returns
returns c closed = c.is_some.ensures ∙ (ap is_some c.place_of.ensures ∙ sym (declared-place c.args.run.now closed c.args.name.now))
