use Rattle.sheet_grid.proofs.SheetValues.{copied}
use Rattle.sheet_grid.proofs.Sheet.copy.Goals as goal

pub invariant_of-result : goal.invariant_of-result
invariant_of-result c = (copied c.self.inside.rows c.self.inside.cols c.self.inside.cells.items c.self.invariant c.args.self.now c.self.view_is _ _ _ c.in_ok-rows.ensures c.in_ok-cols.ensures c.in_ok-cells.ensures).0

pub returns : goal.returns
returns c = (copied c.self.inside.rows c.self.inside.cols c.self.inside.cells.items c.self.invariant c.args.self.now c.self.view_is _ _ _ c.in_ok-rows.ensures c.in_ok-cols.ensures c.in_ok-cells.ensures).1
