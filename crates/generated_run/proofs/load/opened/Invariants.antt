use Rattle.std.proofs.Common.{◌≡◌}
use Rattle.generated_run.specs.Runs.{opened_with}
use Rattle.generated_run.proofs.load.opened.Given as goal

abbrev pub invariant-loop-place : goal.invariant-loop-place
invariant-loop-place l = l.run ≡ opened_with l.place
