use Rattle.std.proofs.Common.{◌∙◌}
use Rattle.std.specs.Prelude.{min, max}
use Rattle.sheet_ops.specs.LineIds.{opening_id}
use Rattle.sheet_ops.specs.Lines.{slot_place}
use Rattle.sheet_grid.specs.Kept.{axis}
use Rattle.sheet_graph.proofs.StoredCells.{first_end, last_end}
use Rattle.sheet_graph.proofs.placing.cols_placed.Goals as goal

pub returns-clause-left : goal.returns-clause-left
returns-clause-left c =
    c.min.ensures
    ∙ ((λ i. min (c.col_slot_placed-left.ensures i) (c.col_slot_placed-right.ensures i))
    ∙ first_end (slot_place (axis c.args.sheet.now.cols)) (opening_id c.args.span.now.left) (opening_id c.args.span.now.right))

pub returns-clause-right : goal.returns-clause-right
returns-clause-right c =
    c.max.ensures
    ∙ ((λ i. max (c.col_slot_placed-left.ensures i) (c.col_slot_placed-right.ensures i))
    ∙ last_end (slot_place (axis c.args.sheet.now.cols)) (opening_id c.args.span.now.left) (opening_id c.args.span.now.right))
