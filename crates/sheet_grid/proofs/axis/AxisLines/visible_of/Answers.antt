use Rattle.std.proofs.Common.{◌<◌, ℕ, sym, subst, arith, Option}
use Rattle.std.specs.Prelude.{IfSome}
use Rattle.sheet_grid.proofs.NumberPlaces.{marks_few, marks_count}
use Rattle.sheet_grid.proofs.Spans.{visible_of-past, visible_few}
use Rattle.sheet_grid.proofs.axis.AxisLines.visible_of.Goals as goal

pub returns-then-p-len-clause-few : goal.returns-then-p-len-clause-few
returns-then-p-len-clause-few c =
    subst (λ (o : Option ℕ). IfSome o (λ visible. visible < 16000)) (sym c.visible_of.ensures.value) (visible_few c.self.inside.marks c.args.p (marks_few (record { slots = c.self.inside.slots; recs = c.self.inside.recs; marks = c.self.inside.marks }) c.self.invariant))

pub returns-else-p-len-clause-value : goal.returns-else-p-len-clause-value
returns-else-p-len-clause-value c =
    let m = marks_count c.args.self.now c.len.ensures.kept in
    sym (visible_of-past c.args.self.now.marks c.args.p (omega (arith, m, c.len.ensures.value, c.if-p-len.false)))
