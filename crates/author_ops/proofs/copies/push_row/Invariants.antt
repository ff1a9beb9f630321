use Rattle.std.proofs.Common.{◌≡◌, ◌++◌, map, take}
use Rattle.sheet_grid.specs.Values.{placed_in}
use Rattle.author_ops.specs.Placed.{put_shifted}
use Rattle.author_ops.proofs.copies.push_row.Given as goal

abbrev pub invariant-loop-col : goal.invariant-loop-col
invariant-loop-col l = l.puts ≡ l.initial.puts ++ map (put_shifted (placed_in l.copying.sheet.now) l.copying.rows l.copying.cols l.row) (take l.col-index l.cols)
