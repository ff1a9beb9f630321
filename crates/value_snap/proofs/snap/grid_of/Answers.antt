use Rattle.std.proofs.Common.{◌≡◌, ◌≤◌, length, arith, ap, ◌∙◌, sym}
use Rattle.sheet_value.specs.Tables.{Table}
use Rattle.value_snap.proofs.Parts.{rows_put, no_rows_put, put_height, put_width, rows_more, rows_done}
use Rattle.value_snap.proofs.snap.grid_of.Goals as goal

pub loop-i-init : goal.loop-i-init
loop-i-init c = no_rows_put c.args.cells.now c.args.rows.now c.args.cols.now c.in_ok-grid.grid c.in_ok-grid.ensures

pub put_row-requires-clause-at : goal.put_row-requires-clause-at
put_row-requires-clause-at c =
    let before = c.loop-i-test.true in
    let rows = ap (λ (t : Table). t.size.rows) c.loop-i.invariant in
    omega (arith, before, rows)

pub put_row-requires-clause-height : goal.put_row-requires-clause-height
put_row-requires-clause-height c = put_height c.args.cells.now c.args.rows.now c.args.cols.now c.loop-i.i c.loop-i.grid c.loop-i-test.true c.loop-i.invariant

pub put_row-requires-clause-cols : goal.put_row-requires-clause-cols
put_row-requires-clause-cols c = sym (ap (λ (t : Table). t.size.cols) c.loop-i.invariant)

pub put_row-requires-clause-width : goal.put_row-requires-clause-width
put_row-requires-clause-width c = put_width c.args.cells.now c.args.rows.now c.args.cols.now c.loop-i.i c.loop-i.grid c.loop-i-test.true c.loop-i.invariant

pub loop-i-preserved : goal.loop-i-preserved
loop-i-preserved c = rows_more c.args.cells.now c.args.rows.now c.args.cols.now c.loop-i.i c.loop-i.grid c.loop-i-test.true c.loop-i.invariant c.put_row.new.grid c.in_ok-put_row.ensures

pub returns : goal.returns
returns c =
    let last = c.loop-i-test.false in
    let within = c.loop-i.auto.i-end in
    let all : c.loop-i.i ≡ length c.args.rows.now = omega (arith, last, within) in
    rows_done c.args.cells.now c.args.rows.now c.args.cols.now c.loop-i.grid (c.loop-i.invariant ∙ ap (rows_put c.args.cells.now c.args.rows.now c.args.cols.now) all)
