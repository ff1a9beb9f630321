use Rattle.std.proofs.Common.{ℕ, List, sym, ◌∙◌, ap, subst, arith}
use Rattle.ss_base.specs.declared.types.Size.{Size}
use Rattle.sheet_value.specs.Tables.{empty_table}
use Rattle.sheet_grid.specs.Values.{placed_in}
use Rattle.sheet_grid.specs.Cells.{visible_size}
use Rattle.sheet_graph.specs.Graphs.{HoldsFilled}
use Rattle.full_calc.proofs.RowConstants.{no_rows, one_row_more, all_rows}
use Rattle.full_calc.proofs.constants.constants.Goals as goal

pub loop-row-init : goal.loop-row-init
loop-row-init c = no_rows (placed_in c.args.sheet.now) c.in_ok-grid.grid (c.in_ok-grid.ensures ∙ ap empty_table c.visible-size.ensures.size)

pub put_row-requires-clause-row : goal.put_row-requires-clause-row
put_row-requires-clause-row c =
    let a = ap (λ (s : Size). s.rows) c.loop-row.invariant.size in
    let b = ap (λ (s : Size). s.rows) c.visible-size.ensures.size in
    let h = c.loop-row-test.true in
    omega (arith, a, b, h)

pub put_row-requires-clause-filled : goal.put_row-requires-clause-filled
put_row-requires-clause-filled c =
    subst (λ (cols : List ℕ). HoldsFilled (placed_in c.args.sheet.now) c.loop-row.row (visible_size (placed_in c.args.sheet.now)).cols cols) (sym c.deref.ensures.value) c.in_ok-cols.ensures

pub put_row-requires-clause-empty : goal.put_row-requires-clause-empty
put_row-requires-clause-empty c = λ k. c.loop-row.invariant.left c.loop-row.row k (omega arith)

pub loop-row-preserved : goal.loop-row-preserved
loop-row-preserved c =
    one_row_more (placed_in c.args.sheet.now) c.loop-row.row c.loop-row.grid c.put_row.new.grid c.loop-row.invariant c.in_ok-put_row.ensures.size c.in_ok-put_row.ensures.shape c.in_ok-put_row.ensures.here c.in_ok-put_row.ensures.others

pub returns : goal.returns
returns c =
    let seen = ap (λ (s : Size). s.rows) c.visible-size.ensures.size in
    let past = c.loop-row-test.false in
    all_rows (placed_in c.args.sheet.now) c.loop-row.row c.loop-row.grid c.loop-row.invariant (omega (arith, seen, past))
