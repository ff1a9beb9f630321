use Rattle.std.proofs.Common.{sym}
use Rattle.sheet_ops.proofs.Visible.{visible_below}
use Rattle.sheet_grid.specs.Values.{placed_in}
use Rattle.full_calc.proofs.constants.is_formula.Goals as goal

pub kind-requires-clause-row : goal.kind-requires-clause-row
kind-requires-clause-row c = visible_below (placed_in c.args.sheet.now).rows c.args.row c.in-Some.p (sym c.in-Some.ensures)

pub kind-requires-clause-col : goal.kind-requires-clause-col
kind-requires-clause-col c = visible_below (placed_in c.args.sheet.now).cols c.args.col c.in-Some-col_at.q (sym c.in-Some-col_at.ensures)
