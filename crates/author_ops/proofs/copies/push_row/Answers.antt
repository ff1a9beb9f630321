use Rattle.std.proofs.Common.{◌≡◌, ap, get_or}
use Rattle.sheet_ops.specs.declared.content.Content.{Content}
use Rattle.sheet_ops.specs.declared.content.Put.{Put}
use Rattle.sheet_grid.specs.Values.{placed_in}
use Rattle.author_ops.specs.Placed.{put_shifted}
use Rattle.author_ops.proofs.Runs.{push_one}
use Rattle.author_ops.proofs.copies.push_row.Goals as goal

pub loop-col-preserved : goal.loop-col-preserved
loop-col-preserved c =
    push_one (put_shifted (placed_in c.args.copying.now.sheet.now) c.args.copying.now.rows c.args.copying.now.cols c.args.row) c.args.cols.now c.loop-col.col-index (0, 0) c.args.puts.now c.loop-col.puts c.push.new.self _
    c.loop-col-test.true c.loop-col.invariant c.in_ok-push.ensures.ok (ap (λ (x : Content). record { row = c.args.row.1; col = (get_or c.args.cols.now c.loop-col.col-index (0, 0)).1; content = x }) c.in_ok-content.ensures)
