use Rattle.sheet_grid.proofs.SheetValues.{row_marked}
use Rattle.sheet_grid.proofs.Sheet.del_row.Goals as goal

pub invariant_of-self : goal.invariant_of-self
invariant_of-self c = (row_marked c.self.inside.rows c.self.inside.cols c.self.inside.cells.items c.self.invariant c.args.self.now c.self.view_is c.args.p c.requires _ c.mark.ensures).0
