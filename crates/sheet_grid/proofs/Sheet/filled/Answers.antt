use Rattle.std.proofs.Common.{◌≡◌, ◌∙◌, ℕ, List, ap, subst, arith}
use Rattle.std.specs.Prelude.{filter, is_some, slice_index_or, IfOk}
use Rattle.std.specs.BTreeMap.{BTreeMap}
use Rattle.sheet_ops.specs.declared.content.Content.{Content}
use Rattle.marked_lines.specs.Marks.{visible_places}
use Rattle.sheet_grid.specs.Kept.{held, rec_number}
use Rattle.sheet_grid.proofs.PositionReads.{row_places, filled_read}
use Rattle.sheet_grid.proofs.Sheet.filled.Goals as goal

pub rec_number-requires : goal.rec_number-requires
rec_number-requires c = let n = row_places c.self.inside.rows c.self.inside.cols c.self.inside.cells.items c.self.invariant c.args.self.now c.self.view_is in omega (arith, n, c.requires)

pub returns : goal.returns
returns c =
    subst (λ (ps : List ℕ). IfOk c.filled_columns.result (λ v. v.items ≡ ps))
    (ap (λ (m : BTreeMap ℕ Content). filter (λ p. is_some (held m (rec_number c.self.inside.cols p))) (visible_places c.self.inside.cols.marks)) c.index-cells.ensures
    ∙ (ap (λ (n : ℕ). filter (λ p. is_some (held (slice_index_or c.self.inside.cells.items n c.index-cells.result.now) (rec_number c.self.inside.cols p))) (visible_places c.self.inside.cols.marks)) c.rec_number.ensures.number
    ∙ filled_read c.self.inside.rows c.self.inside.cols c.self.inside.cells.items c.self.invariant c.args.self.now c.self.view_is c.index-cells.result.now c.args.row c.requires)) c.filled_columns.ensures
