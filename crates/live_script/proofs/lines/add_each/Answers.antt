use Rattle.std.proofs.Common.{arith}
use Rattle.live_script.specs.SoFar.{action_for_all}
use Rattle.live_script.proofs.SiteLines.{each_more}
use Rattle.live_script.proofs.lines.add_each.Goals as goal

pub loop-site-preserved : goal.loop-site-preserved
loop-site-preserved c =
    each_more c.args.number (action_for_all c.args.what) c.action_of.result c.deref_mut-site-items.result.now c.loop-site.site-items c.loop-site.site-index c.site-item.result c.push.new.self
    c.action_of.ensures c.loop-site-test.true (omega (arith, c.loop-site-test.true, c.loop-site.auto.site-items)) c.loop-site.invariant c.in_ok-push.ensures.ok
