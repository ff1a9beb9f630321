use Rattle.std.proofs.Common.{◌∙◌}
use Rattle.std.specs.Prelude.{min, max}
use Rattle.sheet_ops.specs.LineIds.{opening_id}
use Rattle.sheet_ops.specs.Lines.{slot_place}
use Rattle.sheet_grid.specs.Kept.{axis}
use Rattle.sheet_graph.proofs.StoredCells.{first_end, last_end}
use Rattle.sheet_graph.proofs.placing.rows_placed.Goals as goal

pub returns-clause-top : goal.returns-clause-top
returns-clause-top c =
    c.min.ensures
    ∙ ((λ i. min (c.row_slot_placed-top.ensures i) (c.row_slot_placed-bottom.ensures i))
    ∙ first_end (slot_place (axis c.args.sheet.now.rows)) (opening_id c.args.span.now.top) (opening_id c.args.span.now.bottom))

pub returns-clause-bottom : goal.returns-clause-bottom
returns-clause-bottom c =
    c.max.ensures
    ∙ ((λ i. max (c.row_slot_placed-top.ensures i) (c.row_slot_placed-bottom.ensures i))
    ∙ last_end (slot_place (axis c.args.sheet.now.rows)) (opening_id c.args.span.now.top) (opening_id c.args.span.now.bottom))
