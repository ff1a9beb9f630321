use Rattle.std.proofs.Common.{◌≡◌, [], length}
use Rattle.cell_eval.specs.Machine.{run}
use Rattle.cell_eval.proofs.machine.run.Given as goal

-- what is left leads from here to where all of it leads
abbrev pub invariant-loop-step : goal.invariant-loop-step
invariant-loop-step g l = run (g.L.Look.environment l.look) 0 l.left l.stack ≡ run (g.L.Look.environment l.look) 0 l.steps []

abbrev pub decreases-loop-step : goal.decreases-loop-step
decreases-loop-step g l = length l.left
