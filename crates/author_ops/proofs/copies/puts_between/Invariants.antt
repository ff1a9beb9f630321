use Rattle.std.proofs.Common.{◌≡◌, take}
use Rattle.sheet_grid.specs.Values.{placed_in}
use Rattle.author_ops.specs.Placed.{puts_shifted}
use Rattle.author_ops.proofs.copies.puts_between.Given as goal

abbrev pub invariant-loop-row : goal.invariant-loop-row
invariant-loop-row l = l.puts ≡ puts_shifted (placed_in l.copying.sheet.now) l.copying.rows l.copying.cols (take l.row-index l.rows) l.cols
