use Rattle.std.proofs.Common.{◌≡◌, ◌<◌, ◌≤◌, ◌∙◌, ℕ, ap, subst, length}
use Rattle.std.specs.Prelude.{◌↔◌, slice_index, IfSome, IsNone}
use Rattle.sheet_grid.specs.Kept.{NumberedAxis}
use Rattle.sheet_grid.specs.Numbering.{place_of_rec}
use Rattle.sheet_grid.proofs.NumberPlaces.{recs_count, rec_place-is}
use Rattle.sheet_grid.proofs.axis.AxisLines.rec_place.Goals as goal

pub returns-clause-value : goal.returns-clause-value
returns-clause-value c =
    rec_place-is (record { slots = c.self.inside.slots; recs = c.self.inside.recs; marks = c.self.inside.marks }) c.self.invariant c.args.number c.place.result c.place.ensures.there c.place.ensures.none
    ∙ ap (λ (k : NumberedAxis). place_of_rec k c.args.number) c.self.view_is

pub returns-clause-place : goal.returns-clause-place
returns-clause-place c =
    subst (λ (k : NumberedAxis). IfSome c.place.result (λ p. (p < length k.slots) × (slice_index k.recs p ≡ c.args.number))) c.self.view_is
    (subst (λ (m : ℕ). IfSome c.place.result (λ p. (p < m) × (slice_index c.self.inside.recs p ≡ c.args.number))) (recs_count (record { slots = c.self.inside.slots; recs = c.self.inside.recs; marks = c.self.inside.marks }) c.self.invariant) c.place.ensures.there)

pub returns-clause-none : goal.returns-clause-none
returns-clause-none c =
    subst (λ (k : NumberedAxis). IsNone c.place.result ↔ (length k.slots ≤ c.args.number)) c.self.view_is
    (subst (λ (m : ℕ). IsNone c.place.result ↔ (m ≤ c.args.number)) (recs_count (record { slots = c.self.inside.slots; recs = c.self.inside.recs; marks = c.self.inside.marks }) c.self.invariant) c.place.ensures.none)
