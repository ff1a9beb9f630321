use Rattle.std.proofs.Common.{arith}
use Rattle.sheet_grid.proofs.PositionReads.{col_places}
use Rattle.sheet_grid.proofs.Sheet.is_col_dead.Goals as goal

pub is_dead-requires : goal.is_dead-requires
is_dead-requires c = let n = col_places c.self.inside.rows c.self.inside.cols c.self.inside.cells.items c.self.invariant c.args.self.now c.self.view_is in omega (arith, n, c.requires)
