use Rattle.std.proofs.Common.{◌<◌, ◌-◌, arith, ◌∙◌, ap, length, Some}
use Rattle.script_run.specs.World.{World, seat_at, pulled}
use Rattle.script_run.proofs.Worlds.{pulled-none, pulled-more, at_most-le}
use Rattle.script_run.proofs.run.Run.pull.Goals as goal

pub loop-i-init : goal.loop-i-init
loop-i-init c = pulled-none c.args.self.now c.args.place

pub loop-i-preserved : goal.loop-i-preserved
loop-i-preserved c =
    let more : c.loop-i._i < length c.args.self.now.history - (seat_at c.args.self.now c.args.place).taken =
    omega (arith, c.loop-i-test.true, c.limited-count.ensures, c.untaken.ensures, at_most-le c.args.most c.untaken.result) in
    c.in_ok-pull_one.ensures.ok
    ∙ (ap (λ (w : World). pulled w c.args.place (Some 1)) c.loop-i.invariant ∙ pulled-more c.args.self.now c.args.place c.loop-i._i c.requires more)
