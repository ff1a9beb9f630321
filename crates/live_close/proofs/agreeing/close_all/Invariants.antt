use Rattle.std.proofs.Common.{◌≡◌, ◌++◌, map, take, drop}
use Rattle.live_close.specs.Parts.{with_mark}
use Rattle.live_close.proofs.agreeing.close_all.Given as goal

abbrev pub invariant-loop-i : goal.invariant-loop-i
invariant-loop-i g l = l.publishers ≡ map with_mark (take l.i l.initial.publishers) ++ drop l.i l.initial.publishers
