use Rattle.std.proofs.Common.{◌≡◌, ◌++◌}
use Rattle.sheet_grid.proofs.row.copy_row.Given as goal

abbrev pub invariant-loop-col : goal.invariant-loop-col
invariant-loop-col l = l.copy.entries ++ l.col-iterator ≡ l.row.entries
