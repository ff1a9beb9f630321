use Rattle.std.proofs.Common.{◌≡◌, ◌<◌, length, arith}
use Rattle.std.specs.Prelude.{slice_index, slice_index_or}
use Rattle.sheet_ops.specs.declared.content.Content.TheVariants as content
use Rattle.sheet_ops.specs.Placed.{cell_at}
use Rattle.sheet_grid.specs.Values.{placed_in}
use Rattle.generated_run.proofs.SameSheets.{one_more, one_not}
use Rattle.generated_run.proofs.HeldRows.{at_content, all_hold}
use Rattle.generated_run.proofs.comparison.same_among.Goals as goal

pub returns-then-not-branch : goal.returns-then-not-branch
returns-then-not-branch c =
    let within : c.loop-i.i < length c.args.contents.now = omega (arith, c.loop-i-test.true, c.requires.many) in
    one_not (λ k. cell_at (placed_in c.args.a.now) c.args.row (slice_index c.args.cols.now k) ≡ slice_index_or c.args.contents.now k content.Empty) c.loop-i.i (length c.args.cols.now) c.in_ok-same_cell.field-0 c.loop-i-test.true
    (at_content (cell_at (placed_in c.args.a.now) c.args.row (slice_index c.args.cols.now c.loop-i.i)) c.args.contents.now c.loop-i.i c.index-contents-i.result c.in_ok-same_cell.field-0 within c.index-contents-i.is c.in_ok-same_cell.ensures) c.if-not-branch.true

pub loop-i-preserved : goal.loop-i-preserved
loop-i-preserved c =
    let within : c.loop-i.i < length c.args.contents.now = omega (arith, c.loop-i-test.true, c.requires.many) in
    one_more (λ k. cell_at (placed_in c.args.a.now) c.args.row (slice_index c.args.cols.now k) ≡ slice_index_or c.args.contents.now k content.Empty) c.loop-i.i c.in_ok-same_cell.field-0 c.loop-i.invariant
    (at_content (cell_at (placed_in c.args.a.now) c.args.row (slice_index c.args.cols.now c.loop-i.i)) c.args.contents.now c.loop-i.i c.index-contents-i.result c.in_ok-same_cell.field-0 within c.index-contents-i.is c.in_ok-same_cell.ensures) c.if-not-branch.false

pub returns : goal.returns
returns c = all_hold (placed_in c.args.a.now) c.args.row c.args.cols.now c.args.contents.now c.loop-i.i c.loop-i-test.false c.loop-i.invariant
