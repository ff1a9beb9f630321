use Rattle.std.proofs.Common.{◌∙◌, ap, None}
use Rattle.script_run.specs.World.{World, recalculated}
use Rattle.script_run.proofs.Outcomes.{on_ok}
use Rattle.script_run.proofs.run.Run.sync.Goals as goal

pub returns-clause-ok : goal.returns-clause-ok
returns-clause-ok c = on_ok c.recalc.result (λ (e : _). e ∙ ap (λ (w : World). recalculated w None) c.in_ok-push.ensures.ok) c.recalc.ensures.ok
