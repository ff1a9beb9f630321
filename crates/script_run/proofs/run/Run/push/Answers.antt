use Rattle.std.proofs.Common.{◌<◌, ◌-◌, arith, ◌∙◌, ap, length, Some}
use Rattle.script_run.specs.World.{World, seat_at, pushed}
use Rattle.script_run.proofs.Worlds.{pushed-none, pushed-more, at_most-le}
use Rattle.script_run.proofs.run.Run.push.Goals as goal

pub loop-i-init : goal.loop-i-init
loop-i-init c = pushed-none c.args.self.now c.args.place

pub loop-i-preserved : goal.loop-i-preserved
loop-i-preserved c =
    let more : c.loop-i._i < length (seat_at c.args.self.now c.args.place).made - (seat_at c.args.self.now c.args.place).pushed =
    omega (arith, c.loop-i-test.true, c.limited-count.ensures, c.unpushed.ensures, at_most-le c.args.most c.unpushed.result) in
    c.in_ok-push_one.ensures.ok
    ∙ (ap (λ (w : World). pushed w c.args.place (Some 1)) c.loop-i.invariant ∙ pushed-more c.args.self.now c.args.place c.loop-i._i c.requires more)
