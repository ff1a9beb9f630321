use Rattle.std.proofs.Common.{arith}
use Rattle.sheet_text.proofs.Appended.{one_appended}
use Rattle.live_record.proofs.Printed.{logs_more}
use Rattle.live_record.proofs.text.push_logs.Goals as goal

pub loop-k-preserved : goal.loop-k-preserved
loop-k-preserved c =
    one_appended c.args.out.now.items _ _ _ c.loop-k.out.items c.push_log.new.out.items c.loop-k.invariant c.in_ok-push_log.ensures
    (logs_more c.args.sites.now c.args.logs.now c.loop-k.k c.index-sites-k.result c.index-logs-k.result c.loop-k-test.true
    (let as_many = c.requires in let more = c.loop-k-test.true in omega (arith, as_many, more)) c.index-sites-k.is c.index-logs-k.is)
