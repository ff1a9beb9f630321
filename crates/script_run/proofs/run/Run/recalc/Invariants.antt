use Rattle.std.proofs.Common.{◌≡◌, Some}
use Rattle.script_run.specs.World.{recalculated}
use Rattle.script_run.proofs.run.Run.recalc.Given as goal

abbrev pub invariant-loop-i : goal.invariant-loop-i
invariant-loop-i l = l.self ≡ recalculated l.fn.self (Some l._i)
