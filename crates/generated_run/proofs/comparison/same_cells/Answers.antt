use Rattle.std.proofs.Common.{◌≤◌, ◌<◌, subst, length, arith}
use Rattle.ss_base.specs.declared.types.Size.{Size}
use Rattle.sheet_grid.specs.Values.{placed_in}
use Rattle.generated_run.proofs.HeldRows.{row_more, row_not, all_rows_hold}
use Rattle.generated_run.proofs.comparison.same_cells.Goals as goal

pub returns-then-not-branch : goal.returns-then-not-branch
returns-then-not-branch c =
    let within : c.loop-row.row < length (placed_in c.args.a.now).rows = subst (λ (s : Size). c.loop-row.row < s.rows) c.size-row-end.ensures.size c.loop-row-test.true in
    row_not (placed_in c.args.a.now) c.args.rows.now c.loop-row.row c.index-rows-row.result c.in_ok-same_row.field-0 (omega (arith, within, c.requires.many)) c.index-rows-row.is within c.in_ok-same_row.ensures c.if-not-branch.true

pub loop-row-preserved : goal.loop-row-preserved
loop-row-preserved c =
    let within : c.loop-row.row < length (placed_in c.args.a.now).rows = subst (λ (s : Size). c.loop-row.row < s.rows) c.size-row-end.ensures.size c.loop-row-test.true in
    row_more (placed_in c.args.a.now) c.args.rows.now c.loop-row.row c.index-rows-row.result c.in_ok-same_row.field-0 (omega (arith, within, c.requires.many)) c.index-rows-row.is c.loop-row.invariant c.in_ok-same_row.ensures c.if-not-branch.false

pub returns : goal.returns
returns c =
    all_rows_hold (placed_in c.args.a.now) c.args.rows.now c.loop-row.row
    (subst (λ (s : Size). s.rows ≤ c.loop-row.row) c.size-row-end.ensures.size c.loop-row-test.false) c.loop-row.invariant
