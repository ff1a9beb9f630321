use Rattle.std.proofs.Common.{◌∙◌, ap, sym, length, arith}
use Rattle.marked_lines.specs.Marks.{visible_places}
use Rattle.marked_lines.proofs.Positions.{length-places_from}
use Rattle.sheet_grid.specs.Kept.{NumberedAxis}
use Rattle.sheet_grid.proofs.NumberPlaces.{marks_few}
use Rattle.sheet_grid.proofs.axis.AxisLines.visible.Goals as goal

pub returns-clause-value : goal.returns-clause-value
returns-clause-value c = c.visible.ensures.value ∙ (sym (length-places_from 0 c.self.inside.marks) ∙ ap (λ (k : NumberedAxis). length (visible_places k.marks)) c.self.view_is)

pub returns-clause-few : goal.returns-clause-few
returns-clause-few c = let few = marks_few (record { slots = c.self.inside.slots; recs = c.self.inside.recs; marks = c.self.inside.marks }) c.self.invariant in omega (arith, few, c.visible.ensures.value, c.visible.ensures.within)
