use Rattle.std.proofs.Common.{◌≡◌}
use Rattle.std.specs.Prelude.{map, replicate}
use Rattle.sheet_grid.specs.Kept.{held, no_cells}
use Rattle.sheet_grid.proofs.row.empty_rows.Given as goal

abbrev pub invariant-loop-i : goal.invariant-loop-i
invariant-loop-i l = map held l.rows.items ≡ replicate l._i no_cells
