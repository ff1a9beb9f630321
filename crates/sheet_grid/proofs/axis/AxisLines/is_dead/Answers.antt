use Rattle.std.proofs.Common.{◌≡◌, subst}
use Rattle.sheet_grid.specs.Kept.{NumberedAxis}
use Rattle.sheet_grid.specs.Numbering.{is_dead}
use Rattle.sheet_grid.proofs.NumberPlaces.{dead_is}
use Rattle.sheet_grid.proofs.axis.AxisLines.is_dead.Goals as goal

pub returns : goal.returns
returns c =
    subst (λ (k : NumberedAxis). c.is_marked.result ≡ is_dead k c.args.number) c.self.view_is
    (dead_is (record { slots = c.self.inside.slots; recs = c.self.inside.recs; marks = c.self.inside.marks }) c.self.invariant c.args.number c.in-Some.p c.is_marked.result c.in-Some.ensures.there.0 c.in-Some.ensures.there.1 c.is_marked.ensures)
