use Rattle.std.proofs.Common.{◌≡◌, ◌<◌, ◌∙◌, ap, sym, subst, length, Some}
use Rattle.std.specs.Prelude.{slice_index}
use Rattle.sheet_grid.specs.Kept.{NumberedAxis}
use Rattle.sheet_grid.specs.Numbering.{place_of_rec}
use Rattle.sheet_grid.proofs.NumberPlaces.{rec_at-place}
use Rattle.sheet_grid.proofs.axis.AxisLines.rec_number.Goals as goal

pub returns-clause-place : goal.returns-clause-place
returns-clause-place c =
    ap (place_of_rec c.args.self.now) (c.number.ensures.number ∙ ap (λ (k : NumberedAxis). slice_index k.recs c.args.p) c.self.view_is)
    ∙ subst (λ (k : NumberedAxis). place_of_rec k (slice_index k.recs c.args.p) ≡ Some c.args.p) c.self.view_is
    (rec_at-place (record { slots = c.self.inside.slots; recs = c.self.inside.recs; marks = c.self.inside.marks }) c.self.invariant c.args.p (subst (λ (k : NumberedAxis). c.args.p < length k.slots) (sym c.self.view_is) c.requires))
