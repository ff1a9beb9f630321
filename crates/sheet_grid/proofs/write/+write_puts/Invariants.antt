use Rattle.std.proofs.Common.{length}
use Rattle.sheet_grid.proofs.write.+write_puts.Given as goal

abbrev pub decreases-write_puts : goal.decreases-write_puts
decreases-write_puts l = length l.puts.now
