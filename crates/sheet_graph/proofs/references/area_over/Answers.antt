use Rattle.std.proofs.Common.{ap, ◌∙◌}
use Rattle.std.specs.Prelude.{option_to_list}
use Rattle.marked_lines.specs.Marks.{span_of}
use Rattle.sheet_grid.specs.Values.{placed_in}
use Rattle.sheet_graph.specs.Areas.{area_over}
use Rattle.sheet_graph.specs.Placing.{span_placed}
use Rattle.sheet_graph.proofs.StoredCells.{no_cols_area}
use Rattle.sheet_graph.proofs.references.area_over.Goals as goal

pub returns-in_err-top : goal.returns-in_err-top
returns-in_err-top c =
    let P = placed_in c.args.sheet.now in
    let s = span_placed c.args.sheet.now c.args.span.now in
    ap option_to_list c.from_residual.ensures
    ∙ (λ i. area_over ((c.in_err-top.ensures.span ∙ (λ j. span_of P.rows (c.rows_placed-rows.ensures.top j) (c.rows_placed-rows.ensures.bottom j))) i) (span_of P.cols s.left s.right))

pub returns-in_err-left : goal.returns-in_err-left
returns-in_err-left c =
    let P = placed_in c.args.sheet.now in
    let s = span_placed c.args.sheet.now c.args.span.now in
    ap option_to_list c.from_residual-in_err-left.ensures
    ∙ (no_cols_area (span_of P.rows s.top s.bottom)
    ∙ (λ i. area_over (span_of P.rows s.top s.bottom) ((c.in_err-left.ensures.span ∙ (λ j. span_of P.cols (c.cols_placed-cols.ensures.left j) (c.cols_placed-cols.ensures.right j))) i)))

pub returns : goal.returns
returns c =
    let P = placed_in c.args.sheet.now in
    λ i. area_over
    ((c.in_ok-top.ensures.span ∙ (λ j. span_of P.rows (c.rows_placed-rows.ensures.top j) (c.rows_placed-rows.ensures.bottom j))) i)
    ((c.in_ok-left.ensures.span ∙ (λ j. span_of P.cols (c.cols_placed-cols.ensures.left j) (c.cols_placed-cols.ensures.right j))) i)
