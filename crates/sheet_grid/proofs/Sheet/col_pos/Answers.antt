use Rattle.std.proofs.Common.{◌≡◌, ◌<◌, ◌≤◌, ℕ, sym, subst, length}
use Rattle.std.specs.Prelude.{◌↔◌, slice_index, IfSome, IsNone}
use Rattle.sheet_grid.specs.Values.{NumberedSheet, placed_in}
use Rattle.sheet_grid.proofs.PositionReads.{col_places}
use Rattle.sheet_grid.proofs.Sheet.col_pos.Goals as goal

pub returns-clause-place : goal.returns-clause-place
returns-clause-place c =
    let n = sym (col_places c.self.inside.rows c.self.inside.cols c.self.inside.cells.items c.self.invariant c.args.self.now c.self.view_is) in
    subst (λ (V : NumberedSheet). IfSome c.rec_place.result (λ p. (p < length (placed_in c.args.self.now).cols) × (slice_index V.cols.recs p ≡ c.args.col))) c.self.view_is
    (subst (λ (m : ℕ). IfSome c.rec_place.result (λ p. (p < m) × (slice_index c.self.inside.cols.recs p ≡ c.args.col))) n c.rec_place.ensures.place)

pub returns-clause-none : goal.returns-clause-none
returns-clause-none c = subst (λ (m : ℕ). IsNone c.rec_place.result ↔ (m ≤ c.args.col)) (sym (col_places c.self.inside.rows c.self.inside.cols c.self.inside.cells.items c.self.invariant c.args.self.now c.self.view_is)) c.rec_place.ensures.none
