use Rattle.std.proofs.Common.{◌<◌, ◌∙◌, ℕ, length, ap, sym, arith}
use Rattle.std.specs.Prelude.{unwrap_or}
use Rattle.std.specs.BTreeMap.{BTreeMap}
use Rattle.sheet_ops.specs.declared.content.Content.{Content}
use Rattle.sheet_ops.specs.declared.content.Content.TheVariants as content
use Rattle.sheet_grid.specs.Cells.{kind_of}
use Rattle.sheet_grid.specs.Kept.{held, cell_kept}
use Rattle.sheet_grid.specs.Numbering.{content_placed}
use Rattle.sheet_grid.proofs.PositionReads.{row_places, col_places, cell_read, map_read, kind_placed}
use Rattle.sheet_grid.proofs.Sheet.kind.Goals as goal

pub rec_number-requires : goal.rec_number-requires
rec_number-requires c = let n = row_places c.self.inside.rows c.self.inside.cols c.self.inside.cells.items c.self.invariant c.args.self.now c.self.view_is in omega (arith, n, c.requires.row)

pub rec_number-requires-2 : goal.rec_number-requires-2
rec_number-requires-2 c = let n = col_places c.self.inside.rows c.self.inside.cols c.self.inside.cells.items c.self.invariant c.args.self.now c.self.view_is in omega (arith, n, c.requires.col)

pub returns : goal.returns
returns c =
    let maps = c.self.inside.cells.items in
    let there : c.rec_number.result < length maps = omega (arith, c.rec_number.ensures.below, c.self.invariant.as_many) in
    let read = ap (λ (m : BTreeMap ℕ Content). unwrap_or (held m c.rec_number-2.result) content.Empty) c.index-cells.ensures
    ∙ map_read maps c.index-cells.result.now c.rec_number.result c.rec_number-2.result there in
    c.kind_in.ensures
    ∙ (ap kind_of read
    ∙ (sym (kind_placed c.self.inside.rows c.self.inside.cols (cell_kept maps c.rec_number.result c.rec_number-2.result))
    ∙ ap kind_of (ap (content_placed c.self.inside.rows c.self.inside.cols) (λ i. cell_kept maps (c.rec_number.ensures.number i) (c.rec_number-2.ensures.number i)) ∙ cell_read c.self.inside.rows c.self.inside.cols c.self.inside.cells.items c.self.invariant c.args.self.now c.self.view_is c.args.row c.args.col c.requires.row c.requires.col)))
