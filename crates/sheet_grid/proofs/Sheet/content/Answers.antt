use Rattle.std.proofs.Common.{◌≡◌, ◌<◌, ◌∙◌, ℕ, length, ap, sym, subst, arith}
use Rattle.std.specs.Prelude.{unwrap_or, slice_index, IfOk}
use Rattle.std.specs.BTreeMap.{BTreeMap}
use Rattle.sheet_ops.specs.declared.content.Content.{Content}
use Rattle.sheet_ops.specs.declared.content.Content.TheVariants as content
use Rattle.sheet_ops.specs.Fits.{ContentFits}
use Rattle.sheet_grid.specs.Kept.{held, cell_kept}
use Rattle.sheet_grid.specs.Numbering.{content_placed}
use Rattle.sheet_grid.specs.Values.{NumberedSheet, stored_at}
use Rattle.sheet_grid.proofs.PositionReads.{row_places, col_places, cell_read, stored_read, map_read, cell_fits}
use Rattle.sheet_grid.proofs.Sheet.content.Goals as goal

pub rec_number-requires : goal.rec_number-requires
rec_number-requires c = let n = row_places c.self.inside.rows c.self.inside.cols c.self.inside.cells.items c.self.invariant c.args.self.now c.self.view_is in omega (arith, n, c.requires.row)

pub rec_number-requires-2 : goal.rec_number-requires-2
rec_number-requires-2 c = let n = col_places c.self.inside.rows c.self.inside.cols c.self.inside.cells.items c.self.invariant c.args.self.now c.self.view_is in omega (arith, n, c.requires.col)

pub content_in-requires : goal.content_in-requires
content_in-requires c =
    let maps = c.self.inside.cells.items in
    let there : c.rec_number.result < length maps = omega (arith, c.rec_number.ensures.below, c.self.invariant.as_many) in
    let read = ap (λ (m : BTreeMap ℕ Content). unwrap_or (held m c.rec_number-2.result) content.Empty) c.index-cells.ensures
    ∙ map_read maps c.index-cells.result.now c.rec_number.result c.rec_number-2.result there in
    subst (λ (w : Content). ContentFits (record { rows = length c.self.inside.rows.slots; cols = length c.self.inside.cols.slots }) w) (sym read)
    (cell_fits c.self.inside.rows c.self.inside.cols c.self.inside.cells.items c.self.invariant c.args.self.now c.self.view_is c.rec_number.result c.rec_number-2.result)

pub returns-clause-cell : goal.returns-clause-cell
returns-clause-cell c =
    let maps = c.self.inside.cells.items in
    let there : c.rec_number.result < length maps = omega (arith, c.rec_number.ensures.below, c.self.invariant.as_many) in
    let read = ap (λ (m : BTreeMap ℕ Content). unwrap_or (held m c.rec_number-2.result) content.Empty) c.index-cells.ensures
    ∙ map_read maps c.index-cells.result.now c.rec_number.result c.rec_number-2.result there in
    subst (λ (w : Content). IfOk c.content_in.result (λ x. x ≡ w))
    (ap (content_placed c.self.inside.rows c.self.inside.cols) (read ∙ (λ i. cell_kept maps (c.rec_number.ensures.number i) (c.rec_number-2.ensures.number i)))
    ∙ cell_read c.self.inside.rows c.self.inside.cols c.self.inside.cells.items c.self.invariant c.args.self.now c.self.view_is c.args.row c.args.col c.requires.row c.requires.col) c.content_in.ensures

pub returns-clause-stored : goal.returns-clause-stored
returns-clause-stored c =
    let maps = c.self.inside.cells.items in
    let there : c.rec_number.result < length maps = omega (arith, c.rec_number.ensures.below, c.self.invariant.as_many) in
    let read = ap (λ (m : BTreeMap ℕ Content). unwrap_or (held m c.rec_number-2.result) content.Empty) c.index-cells.ensures
    ∙ map_read maps c.index-cells.result.now c.rec_number.result c.rec_number-2.result there in
    subst (λ (w : Content). IfOk c.content_in.result (λ x. x ≡ w))
    (ap (content_placed c.self.inside.rows c.self.inside.cols) (read ∙ ((λ i. cell_kept maps (c.rec_number.ensures.number i) (c.rec_number-2.ensures.number i))
    ∙ stored_read c.self.inside.rows c.self.inside.cols c.self.inside.cells.items c.self.invariant c.args.self.now c.self.view_is (slice_index c.self.inside.rows.recs c.args.row) (slice_index c.self.inside.cols.recs c.args.col)))
    ∙ ap (λ (V : NumberedSheet). content_placed V.rows V.cols (stored_at c.args.self.now.cells (slice_index V.rows.recs c.args.row) (slice_index V.cols.recs c.args.col))) c.self.view_is) c.content_in.ensures
