use Rattle.std.proofs.Common.{ap, ◌∙◌}
use Rattle.std.specs.Prelude.{unwrap_or}
use Rattle.ss_base.specs.declared.types.Size.{Size}
use Rattle.sheet_graph.proofs.StoredCells.{slot_found, cols_axis}
use Rattle.sheet_graph.proofs.placing.col_slot_placed.Goals as goal

pub returns : goal.returns
returns c =
    let V = c.args.sheet.now in
    let size = ap (λ (s : Size). s.cols) c.size-size.ensures.numbered in
    c.unwrap_or.ensures ∙ ((λ i. unwrap_or (c.col_slot_place.ensures.value i) (size i)) ∙ slot_found V.cols (cols_axis V c.size-size.ensures.whole) c.args.slot)
