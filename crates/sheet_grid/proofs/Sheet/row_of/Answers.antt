use Rattle.std.proofs.Common.{◌≡◌, ◌<◌, ◌≤◌, ℕ, sym, subst, length}
use Rattle.std.specs.Prelude.{◌↔◌, slice_index, IfSome, IsNone}
use Rattle.sheet_grid.specs.Values.{NumberedSheet, placed_in}
use Rattle.sheet_grid.proofs.PositionReads.{row_places}
use Rattle.sheet_grid.proofs.Sheet.row_of.Goals as goal

pub returns-clause-place : goal.returns-clause-place
returns-clause-place c =
    let n = sym (row_places c.self.inside.rows c.self.inside.cols c.self.inside.cells.items c.self.invariant c.args.self.now c.self.view_is) in
    subst (λ (V : NumberedSheet). IfSome c.rec_place.result (λ p. (p < length (placed_in c.args.self.now).rows) × (slice_index V.rows.recs p ≡ c.args.rec))) c.self.view_is
    (subst (λ (m : ℕ). IfSome c.rec_place.result (λ p. (p < m) × (slice_index c.self.inside.rows.recs p ≡ c.args.rec))) n c.rec_place.ensures.place)

pub returns-clause-none : goal.returns-clause-none
returns-clause-none c = subst (λ (m : ℕ). IsNone c.rec_place.result ↔ (m ≤ c.args.rec)) (sym (row_places c.self.inside.rows c.self.inside.cols c.self.inside.cells.items c.self.invariant c.args.self.now c.self.view_is)) c.rec_place.ensures.none
