use Rattle.std.proofs.Common.{◌≡◌, ◌<◌, ◌∙◌, ap, sym, subst, length, Some}
use Rattle.std.specs.Prelude.{slice_index}
use Rattle.sheet_grid.specs.Kept.{NumberedAxis}
use Rattle.sheet_grid.specs.Numbering.{place_of_slot}
use Rattle.sheet_grid.proofs.NumberPlaces.{slot_at-place}
use Rattle.sheet_grid.proofs.axis.AxisLines.slot_number.Goals as goal

pub returns-clause-place : goal.returns-clause-place
returns-clause-place c =
    ap (place_of_slot c.args.self.now) (c.number.ensures.number ∙ ap (λ (k : NumberedAxis). slice_index k.slots c.args.p) c.self.view_is)
    ∙ subst (λ (k : NumberedAxis). place_of_slot k (slice_index k.slots c.args.p) ≡ Some c.args.p) c.self.view_is
    (slot_at-place (record { slots = c.self.inside.slots; recs = c.self.inside.recs; marks = c.self.inside.marks }) c.self.invariant c.args.p (subst (λ (k : NumberedAxis). c.args.p < length k.slots) (sym c.self.view_is) c.requires))
