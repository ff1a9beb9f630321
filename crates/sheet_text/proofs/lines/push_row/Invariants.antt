use Rattle.std.proofs.Common.{◌≡◌, ◌++◌, drop}
use Rattle.sheet_grid.specs.Values.{placed_in}
use Rattle.sheet_text.specs.Rows.{lines_at}
use Rattle.sheet_text.proofs.lines.push_row.Given as goal

abbrev pub invariant-loop-col : goal.invariant-loop-col
invariant-loop-col l = l.out.items ++ lines_at (placed_in l.sheet) l.visible l.row (drop l.col-index l.col-items) ≡ l.initial.out.items ++ lines_at (placed_in l.sheet) l.visible l.row l.col-items
