use Rattle.sheet_grid.proofs.SheetValues.{col_inserted}
use Rattle.sheet_grid.proofs.Sheet.ins_col.Goals as goal

pub invariant_of-self-2 : goal.invariant_of-self-2
invariant_of-self-2 c = (col_inserted c.self.inside.rows c.self.inside.cols c.self.inside.cells.items c.self.invariant c.args.self.now c.self.view_is c.args.p c.requires.place c.requires.room _ c.in_ok-add_line.ensures.ok).0

pub returns-clause-ok : goal.returns-clause-ok
returns-clause-ok c = (col_inserted c.self.inside.rows c.self.inside.cols c.self.inside.cells.items c.self.invariant c.args.self.now c.self.view_is c.args.p c.requires.place c.requires.room _ c.in_ok-add_line.ensures.ok).1
