use Rattle.sheet_text.specs.Operations.{put_line}
use Rattle.sheet_text.proofs.Appended.{one_appended, pieces_more}
use Rattle.sheet_text.proofs.operations.push_puts.Goals as goal

pub loop-put-preserved : goal.loop-put-preserved
loop-put-preserved c =
    one_appended c.args.out.now.items _ _ _ c.loop-put.out.items c.push_put.new.out.items
    c.loop-put.invariant c.in_ok-push_put.ensures (pieces_more put_line c.args.puts.now c.loop-put.put-index c.put-item.result c.put-item.result c.loop-put-test.true c.put-item.is)
