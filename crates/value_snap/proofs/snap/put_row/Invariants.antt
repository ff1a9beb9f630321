use Rattle.std.proofs.Common.{◌≡◌}
use Rattle.value_snap.proofs.Parts.{row_put}
use Rattle.value_snap.proofs.snap.put_row.Given as goal

abbrev pub invariant-loop-j : goal.invariant-loop-j
invariant-loop-j l = l.grid ≡ row_put l.cells l.initial.grid l.at l.row l.cols l.j
