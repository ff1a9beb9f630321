use Rattle.std.proofs.Common.{◌∙◌, ap}
use Rattle.sheet_grid.specs.Kept.{NumberedAxis}
use Rattle.sheet_grid.specs.Numbering.{place_of_slot}
use Rattle.sheet_grid.proofs.NumberPlaces.{slot_place-is}
use Rattle.sheet_grid.proofs.axis.AxisLines.slot_place.Goals as goal

pub returns-clause-value : goal.returns-clause-value
returns-clause-value c =
    slot_place-is (record { slots = c.self.inside.slots; recs = c.self.inside.recs; marks = c.self.inside.marks }) c.self.invariant c.args.number c.place.result c.place.ensures.there c.place.ensures.none
    ∙ ap (λ (k : NumberedAxis). place_of_slot k c.args.number) c.self.view_is
