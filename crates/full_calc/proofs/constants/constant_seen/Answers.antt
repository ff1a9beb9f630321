use Rattle.std.proofs.Common.{sym}
use Rattle.sheet_ops.proofs.Visible.{visible_below}
use Rattle.sheet_grid.specs.Values.{placed_in}
use Rattle.full_calc.proofs.constants.constant_seen.Goals as goal

pub constant_at-requires-clause-row : goal.constant_at-requires-clause-row
constant_at-requires-clause-row c = visible_below (placed_in c.args.sheet.now).rows c.args.row c.in-Some.p (sym c.in-Some.ensures)

pub constant_at-requires-clause-col : goal.constant_at-requires-clause-col
constant_at-requires-clause-col c = visible_below (placed_in c.args.sheet.now).cols c.args.col c.in-Some-col_at.q (sym c.in-Some-col_at.ensures)
