use Rattle.sheet_grid.proofs.SheetValues.{rows_moved}
use Rattle.sheet_grid.proofs.Sheet.move_rows.Goals as goal

pub invariant_of-self-2 : goal.invariant_of-self-2
invariant_of-self-2 c =
    (rows_moved c.self.inside.rows c.self.inside.cols c.self.inside.cells.items c.self.invariant c.args.self.now c.self.view_is c.args.perm.now c.requires.proper c.requires.below c.move_recs.new.self c.in_ok-move_recs.ensures.ok).0
