use Rattle.std.proofs.Common.{ap, ◌∙◌}
use Rattle.std.specs.Prelude.{unwrap_or}
use Rattle.ss_base.specs.declared.types.Size.{Size}
use Rattle.sheet_graph.proofs.StoredCells.{slot_found, rows_axis}
use Rattle.sheet_graph.proofs.placing.row_slot_placed.Goals as goal

pub returns : goal.returns
returns c =
    let V = c.args.sheet.now in
    let size = ap (λ (s : Size). s.rows) c.size-size.ensures.numbered in
    c.unwrap_or.ensures ∙ ((λ i. unwrap_or (c.slot_place.ensures.value i) (size i)) ∙ slot_found V.rows (rows_axis V c.size-size.ensures.whole) c.args.slot)
