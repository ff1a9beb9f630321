use Rattle.std.proofs.Common.{arith, ap, ◌∙◌, sym}
use Rattle.value_snap.proofs.Parts.{row_more}
use Rattle.value_snap.proofs.snap.put_row.Goals as goal

pub loop-j-preserved : goal.loop-j-preserved
loop-j-preserved c =
    let width = c.requires.cols in
    let inside = c.requires.at in
    let height = c.requires.height in
    let size = ap (λ s. s.cols) c.size-size.ensures.size in
    let before = c.loop-j-test.true in
    row_more c.args.cells.now c.args.grid.now c.loop-j.grid c.put.new.self c.args.at c.args.row c.args.cols.now c.loop-j.j c.in_ok-value.value
    (omega (arith, inside, height)) (c.requires.width ∙ sym width) (omega (arith, before, width, size)) c.loop-j.invariant c.in_ok-value.ensures c.in_ok-put.ensures.ok
