use Rattle.std.proofs.Common.{◌≡◌}
use Rattle.value_snap.proofs.Parts.{rows_put}
use Rattle.value_snap.proofs.snap.grid_of.Given as goal

abbrev pub invariant-loop-i : goal.invariant-loop-i
invariant-loop-i l = l.grid ≡ rows_put l.cells l.rows l.cols l.i
