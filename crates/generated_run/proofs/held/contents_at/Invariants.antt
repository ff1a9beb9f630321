use Rattle.std.proofs.Common.{◌≡◌, map, take}
use Rattle.sheet_ops.specs.Placed.{cell_at}
use Rattle.sheet_grid.specs.Values.{placed_in}
use Rattle.generated_run.proofs.held.contents_at.Given as goal

abbrev pub invariant-loop-i : goal.invariant-loop-i
invariant-loop-i l = l.contents.items ≡ map (cell_at (placed_in l.sheet) l.row) (take l.i l.cols)
