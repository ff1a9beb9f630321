use Rattle.std.proofs.Common.{◌≡◌, Some}
use Rattle.script_run.specs.World.{pushed}
use Rattle.script_run.proofs.run.Run.push.Given as goal

abbrev pub invariant-loop-i : goal.invariant-loop-i
invariant-loop-i l = l.self ≡ pushed l.fn.self l.fn.place (Some l._i)
