use Rattle.std.proofs.Common.{◌≡◌, Some}
use Rattle.script_run.specs.World.{pulled}
use Rattle.script_run.proofs.run.Run.pull.Given as goal

abbrev pub invariant-loop-i : goal.invariant-loop-i
invariant-loop-i l = l.self ≡ pulled l.fn.self l.fn.place (Some l._i)
