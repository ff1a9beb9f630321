use Rattle.std.proofs.Common.{arith}
use Rattle.sheet_grid.proofs.PositionReads.{row_places}
use Rattle.sheet_grid.proofs.Sheet.rec_number.Goals as goal

pub rec_number-requires : goal.rec_number-requires
rec_number-requires c = let n = row_places c.self.inside.rows c.self.inside.cols c.self.inside.cells.items c.self.invariant c.args.self.now c.self.view_is in omega (arith, n, c.requires)
