use Rattle.sheet_grid.proofs.SheetValues.{col_marked}
use Rattle.sheet_grid.proofs.Sheet.del_col.Goals as goal

pub invariant_of-self : goal.invariant_of-self
invariant_of-self c = (col_marked c.self.inside.rows c.self.inside.cols c.self.inside.cells.items c.self.invariant c.args.self.now c.self.view_is c.args.p c.requires _ c.mark.ensures).0
