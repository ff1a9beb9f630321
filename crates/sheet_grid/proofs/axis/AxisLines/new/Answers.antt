use Rattle.std.proofs.Common.{subst, sym}
use Rattle.sheet_ops.specs.Transforms.{numbers_from}
use Rattle.sheet_grid.specs.Numbering.{IsAxis}
use Rattle.sheet_grid.proofs.OpeningSheet.{opening_still}
use Rattle.sheet_grid.proofs.axis.AxisLines.new.Goals as goal

pub invariant_of-result : goal.invariant_of-result
invariant_of-result c =
    subst IsAxis (λ i. record { slots = sym c.in_ok-slots.ensures i; recs = sym c.in_ok-recs.ensures i; marks = sym c.in_ok-marks.ensures i })
    (numbers_from 0 c.args.count, numbers_from 0 c.args.count, opening_still c.args.count c.requires)
