use Rattle.sheet_grid.specs.Values.{placed_in}
use Rattle.generated_run.proofs.SameSheets.{by_cells}
use Rattle.generated_run.proofs.HeldRows.{as_many_rows, all_whole, cells_same}
use Rattle.generated_run.proofs.comparison.same_sheets.Goals as goal

pub same_cells-requires-clause-many : goal.same_cells-requires-clause-many
same_cells-requires-clause-many c = as_many_rows (placed_in c.args.a.now) (placed_in c.args.b.now) (c.same_marks.ensures.0 c.if-not-same_marks.false) c.args.rows.now c.requires

pub same_cells-requires-clause-whole : goal.same_cells-requires-clause-whole
same_cells-requires-clause-whole c = all_whole (placed_in c.args.a.now) (placed_in c.args.b.now) (c.same_marks.ensures.0 c.if-not-same_marks.false) c.args.rows.now c.requires

pub returns : goal.returns
returns c =
    by_cells c.args.a.now c.args.b.now c.same_cells.result (c.same_marks.ensures.0 c.if-not-same_marks.false)
    (cells_same (placed_in c.args.a.now) (placed_in c.args.b.now) (c.same_marks.ensures.0 c.if-not-same_marks.false) c.args.rows.now c.requires c.same_cells.result c.same_cells.ensures)
