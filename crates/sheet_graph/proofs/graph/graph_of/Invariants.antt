use Rattle.std.proofs.Common.{◌≡◌, ◌≤◌, ◌*◌, length, []}
use Rattle.std.specs.List.{AllByRecursion}
use Rattle.sheet_grid.specs.Values.{placed_in}
use Rattle.sheet_grid.specs.Cells.{visible_size}
use Rattle.sheet_graph.specs.Columns.{IsRising, number_in}
use Rattle.sheet_graph.specs.Graphs.{IsGraphTo}
use Rattle.sheet_graph.proofs.graph.graph_of.Given as goal

abbrev pub invariant-loop-col : goal.invariant-loop-col
invariant-loop-col l = record {
  len : length l.graph.columns.items ≡ (visible_size (placed_in l.sheet)).cols;
  few : length l.graph.nodes.items ≤ 16000 * l.col;
  rising : AllByRecursion IsRising l.graph.columns.items;
  graph : IsGraphTo (placed_in l.sheet) l.col [] l.graph.nodes.items (number_in l.graph.columns.items);
}
