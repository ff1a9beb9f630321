use Rattle.std.proofs.Common.{◌∙◌, ap, sym, Some}
use Rattle.marked_lines.specs.Marks.{visible_of}
use Rattle.sheet_value.specs.Tables.{value_at}
use Rattle.sheet_graph.specs.Placing.{spot_placed}
use Rattle.full_calc.proofs.Looking.{kept-or}
use Rattle.full_calc.proofs.Looking.{cell_there}
use Rattle.full_calc.proofs.look.SheetLookLook.cell.Goals as goal

pub returns : goal.returns
returns c =
    let rows = c.args.self.now.lines.now.rows in
    let cols = c.args.self.now.lines.now.cols in
    c.seen.ensures
    ∙ ((λ i. Some (kept-or _ (value_at c.args.self.now.grid.now c.in-Some.row c.in-Some-index.col) c.at.ensures i))
    ∙ sym (cell_there rows cols c.args.self.now.grid.now (spot_placed c.args.self.now.sheet.now c.args.spot.now) c.in-Some.row c.in-Some-index.col
    (c.in-Some.ensures ∙ ap (visible_of rows) c.cell_placed-place.ensures.row) (c.in-Some-index.ensures ∙ ap (visible_of cols) c.cell_placed-place.ensures.col)))
