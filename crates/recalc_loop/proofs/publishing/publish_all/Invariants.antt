use Rattle.std.proofs.Common.{◌≡◌, ◌++◌, map, take, drop}
use Rattle.recalc_loop.specs.Publishing.{published}
use Rattle.recalc_loop.proofs.publishing.publish_all.Given as goal

abbrev pub invariant-loop-i : goal.invariant-loop-i
invariant-loop-i g l = l.publishers ≡ map (published l.batch) (take l.i l.initial.publishers) ++ drop l.i l.initial.publishers
