use Rattle.std.proofs.Common.{◌≡◌, length, []}
use Rattle.sheet_grid.specs.Values.{placed_in}
use Rattle.sheet_grid.specs.Cells.{visible_size}
use Rattle.sheet_graph.specs.Filled.{AreFilledTo}
use Rattle.sheet_graph.proofs.by_column.filled_rows.Given as goal

abbrev pub invariant-loop-row : goal.invariant-loop-row
invariant-loop-row l = record {
  len : length l.lists.items ≡ (visible_size (placed_in l.sheet)).cols;
  lists : AreFilledTo (placed_in l.sheet) l.row [] l.lists.items;
}
