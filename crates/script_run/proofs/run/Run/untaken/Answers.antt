use Rattle.std.proofs.Common.{◌<◌, arith, sym, subst, length}
use Rattle.script_run.specs.World.{World}
use Rattle.script_run.proofs.Standing.{holds}
use Rattle.script_run.proofs.run.Run.untaken.Goals as goal

pub overflow_sub-result : goal.overflow_sub-result
overflow_sub-result c =
    let place = subst (λ (w : World). c.args.place < length w.seats) (sym c.self.view_is) c.requires in
    let seat = holds _ _ _ c.self.invariant.run c.args.place place c.index-seat.result.now c.index-seat.ensures in
    omega (arith, seat.taken_in, c.len.ensures)
