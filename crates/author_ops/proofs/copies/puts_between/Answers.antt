use Rattle.std.proofs.Common.{◌≡◌, ℕ, map}
use Rattle.sheet_grid.specs.Values.{placed_in}
use Rattle.author_ops.specs.Placed.{put_shifted}
use Rattle.author_ops.proofs.Runs.{push_all}
use Rattle.author_ops.proofs.copies.puts_between.Goals as goal

pub loop-row-preserved : goal.loop-row-preserved
loop-row-preserved c =
    push_all (λ (row : ℕ × ℕ). map (put_shifted (placed_in c.args.copying.now.sheet.now) c.args.copying.now.rows c.args.copying.now.cols row) c.args.cols.now) c.args.rows.now c.loop-row.row-index _ c.loop-row.puts c.push_row.new.puts
    c.loop-row-test.true c.loop-row.invariant c.in_ok-push_row.ensures
