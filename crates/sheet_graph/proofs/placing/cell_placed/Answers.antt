use Rattle.std.proofs.Common.{ap, ◌∙◌}
use Rattle.std.specs.Prelude.{unwrap_or}
use Rattle.ss_base.specs.declared.types.Size.{Size}
use Rattle.sheet_graph.proofs.StoredCells.{rec_found, rows_axis, cols_axis}
use Rattle.sheet_graph.proofs.placing.cell_placed.Goals as goal

pub returns-clause-row : goal.returns-clause-row
returns-clause-row c =
    let V = c.args.sheet.now in
    let size = ap (λ (s : Size). s.rows) c.size-size.ensures.numbered in
    c.unwrap_or-row.ensures ∙ ((λ i. unwrap_or (c.row_of.ensures.value i) (size i)) ∙ rec_found V.rows (rows_axis V c.size-size.ensures.whole) c.args.spot.now.row)

pub returns-clause-col : goal.returns-clause-col
returns-clause-col c =
    let V = c.args.sheet.now in
    let size = ap (λ (s : Size). s.cols) c.size-size.ensures.numbered in
    c.unwrap_or-col.ensures ∙ ((λ i. unwrap_or (c.col_pos.ensures.value i) (size i)) ∙ rec_found V.cols (cols_axis V c.size-size.ensures.whole) c.args.spot.now.col)
