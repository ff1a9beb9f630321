use Rattle.std.proofs.Common.{ap, ◌∙◌}
use Rattle.std.specs.Prelude.{option_to_list}
use Rattle.marked_lines.specs.Marks.{visible_of}
use Rattle.sheet_grid.specs.Values.{placed_in}
use Rattle.sheet_graph.specs.Areas.{area_at}
use Rattle.sheet_graph.specs.Placing.{spot_placed}
use Rattle.sheet_graph.proofs.StoredCells.{no_col_area}
use Rattle.sheet_graph.proofs.references.area_at.Goals as goal

pub returns-in_err-row : goal.returns-in_err-row
returns-in_err-row c =
    let P = placed_in c.args.sheet.now in
    ap option_to_list c.from_residual.ensures
    ∙ (λ i. area_at ((c.in_err-row.ensures.index ∙ ap (visible_of P.rows) c.cell_placed-place.ensures.row) i) (visible_of P.cols (spot_placed c.args.sheet.now c.args.spot.now).col))

pub returns-in_err-col : goal.returns-in_err-col
returns-in_err-col c =
    let P = placed_in c.args.sheet.now in
    let row = visible_of P.rows (spot_placed c.args.sheet.now c.args.spot.now).row in
    ap option_to_list c.from_residual-in_err-col.ensures
    ∙ (no_col_area row ∙ (λ i. area_at row ((c.in_err-col.ensures.index ∙ ap (visible_of P.cols) c.cell_placed-place.ensures.col) i)))

pub returns : goal.returns
returns c =
    let P = placed_in c.args.sheet.now in
    λ i. area_at ((c.in_ok-row.ensures.index ∙ ap (visible_of P.rows) c.cell_placed-place.ensures.row) i) ((c.in_ok-col.ensures.index ∙ ap (visible_of P.cols) c.cell_placed-place.ensures.col) i)
