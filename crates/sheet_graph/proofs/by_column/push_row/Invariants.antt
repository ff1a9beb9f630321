use Rattle.std.proofs.Common.{◌≡◌, length, take}
use Rattle.sheet_grid.specs.Values.{placed_in}
use Rattle.sheet_graph.specs.Filled.{AreFilledTo}
use Rattle.sheet_graph.proofs.by_column.push_row.Given as goal

abbrev pub invariant-loop-col : goal.invariant-loop-col
invariant-loop-col l = record {
  len : length l.lists ≡ length l.initial.lists;
  lists : AreFilledTo (placed_in l.sheet) l.row (take l.col-index l.cols) l.lists;
}
