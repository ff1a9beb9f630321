use Rattle.std.proofs.Common.{◌<◌, ◌-◌, arith, ◌∙◌, ap, length, Some}
use Rattle.script_run.specs.World.{World, recalculated}
use Rattle.script_run.proofs.Worlds.{recalculated-none, recalculated-more, at_most-le}
use Rattle.script_run.proofs.run.Run.recalc.Goals as goal

pub loop-i-init : goal.loop-i-init
loop-i-init c = recalculated-none c.args.self.now

pub loop-i-preserved : goal.loop-i-preserved
loop-i-preserved c =
    let more : c.loop-i._i < length c.args.self.now.history - c.args.self.now.published =
    omega (arith, c.loop-i-test.true, c.limited-count.ensures, c.unpublished.ensures, at_most-le c.args.most c.unpublished.result) in
    c.in_ok-publish_one.ensures.ok
    ∙ (ap (λ (w : World). recalculated w (Some 1)) c.loop-i.invariant ∙ recalculated-more c.args.self.now c.loop-i._i more)
