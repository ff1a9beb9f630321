use Rattle.std.proofs.Common.{◌∙◌, ap, Some}
use Rattle.marked_lines.specs.Marks.{span_of}
use Rattle.sheet_value.specs.Tables.{Table}
use Rattle.sheet_graph.specs.Placing.{span_placed}
use Rattle.full_calc.proofs.Looking.{range_there, rows_lost, cols_lost}
use Rattle.full_calc.proofs.look.SheetLookLook.range.Goals as goal

pub returns-in_err-top : goal.returns-in_err-top
returns-in_err-top c =
    let rows = c.args.self.now.lines.now.rows in
    c.from_residual.ensures
    ∙ rows_lost rows c.args.self.now.lines.now.cols c.args.self.now.grid.now (span_placed c.args.self.now.sheet.now c.args.span.now)
    (c.in_err-top.ensures.span ∙ (λ i. span_of rows (c.rows_placed-rows.ensures.top i) (c.rows_placed-rows.ensures.bottom i)))

pub returns-in_err-left : goal.returns-in_err-left
returns-in_err-left c =
    let cols = c.args.self.now.lines.now.cols in
    c.from_residual-in_err-left.ensures
    ∙ cols_lost c.args.self.now.lines.now.rows cols c.args.self.now.grid.now (span_placed c.args.self.now.sheet.now c.args.span.now)
    (c.in_err-left.ensures.span ∙ (λ i. span_of cols (c.cols_placed-cols.ensures.left i) (c.cols_placed-cols.ensures.right i)))

pub returns : goal.returns
returns c =
    let rows = c.args.self.now.lines.now.rows in
    let cols = c.args.self.now.lines.now.cols in
    ap (λ (T : Table). Some T) c.new.ensures
    ∙ range_there rows cols c.args.self.now.grid.now (span_placed c.args.self.now.sheet.now c.args.span.now) (c.in_ok-top.top, c.in_ok-top.bottom) (c.in_ok-left.left, c.in_ok-left.right) _
    (c.in_ok-top.ensures.span ∙ (λ i. span_of rows (c.rows_placed-rows.ensures.top i) (c.rows_placed-rows.ensures.bottom i)))
    (c.in_ok-left.ensures.span ∙ (λ i. span_of cols (c.cols_placed-cols.ensures.left i) (c.cols_placed-cols.ensures.right i)))
    c.saturating_sub.ensures c.saturating_sub-2.ensures
