use Rattle.std.proofs.Common.{◌≡◌, take}
use Rattle.std.specs.List.{filter_map}
use Rattle.marked_lines.specs.Marks.{visible_of}
use Rattle.sheet_grid.specs.Values.{placed_in}
use Rattle.sheet_graph.proofs.cells.filled_in_row.Given as goal

abbrev pub invariant-loop-col : goal.invariant-loop-col
invariant-loop-col l = l.seen.items ≡ filter_map (visible_of (placed_in l.sheet).cols) (take l.col-index l.col-items)
