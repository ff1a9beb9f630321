use Rattle.std.proofs.Common.{◌≡◌, take}
use Rattle.std.specs.Prelude.{map}
use Rattle.sheet_grid.specs.Kept.{held}
use Rattle.sheet_grid.proofs.row.copy_rows.Given as goal

abbrev pub invariant-loop-row : goal.invariant-loop-row
invariant-loop-row l = map held l.copies.items ≡ map held (take l.row-index l.rows.items)
