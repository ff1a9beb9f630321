use Rattle.std.proofs.Common.{arith}
use Rattle.sheet_grid.proofs.PositionReads.{row_places}
use Rattle.sheet_grid.proofs.Sheet.slot_number.Goals as goal

pub slot_number-requires : goal.slot_number-requires
slot_number-requires c = let n = row_places c.self.inside.rows c.self.inside.cols c.self.inside.cells.items c.self.invariant c.args.self.now c.self.view_is in omega (arith, n, c.requires)
