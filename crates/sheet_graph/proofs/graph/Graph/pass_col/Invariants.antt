use Rattle.std.proofs.Common.{◌≡◌, ◌≤◌, ◌+◌, ◌*◌, length, take}
use Rattle.std.specs.List.{AllByRecursion}
use Rattle.sheet_grid.specs.Values.{placed_in}
use Rattle.sheet_graph.specs.Columns.{IsRising, EndsAt, column_at, number_in}
use Rattle.sheet_graph.specs.Graphs.{IsGraphTo}
use Rattle.sheet_graph.proofs.graph.Graph.pass_col.Given as goal

abbrev pub invariant-loop-row : goal.invariant-loop-row
invariant-loop-row l = record {
  len : length l.self.columns.items ≡ length l.initial.self.columns.items;
  few : length l.self.nodes.items ≤ 16000 * l.col + l.row-index;
  counted : EndsAt (column_at l.self.columns.items l.col) (length l.self.nodes.items);
  rising : AllByRecursion IsRising l.self.columns.items;
  graph : IsGraphTo (placed_in l.sheet) l.col (take l.row-index l.rows) l.self.nodes.items (number_in l.self.columns.items);
}
