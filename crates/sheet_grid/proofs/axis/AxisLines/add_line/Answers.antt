use Rattle.std.proofs.Common.{length, ap, arith}
use Rattle.sheet_grid.specs.Kept.{NumberedAxis}
use Rattle.sheet_grid.proofs.NumberPlaces.{axis_line_added}
use Rattle.sheet_grid.proofs.axis.AxisLines.add_line.Goals as goal

pub invariant_of-self-2 : goal.invariant_of-self-2
invariant_of-self-2 c =
    let k : NumberedAxis = record { slots = c.self.inside.slots; recs = c.self.inside.recs; marks = c.self.inside.marks } in
    let count = ap (λ (a : NumberedAxis). length a.slots) c.self.view_is in
    axis_line_added k c.self.invariant c.args.p (omega (arith, c.requires.place, count)) (omega (arith, c.requires.room, count)) _
    (λ i. record { slots = c.in_ok-add_line.ensures.slots i; recs = c.in_ok-add_line.ensures.recs i; marks = c.in_ok-add_line.ensures.marks i })
