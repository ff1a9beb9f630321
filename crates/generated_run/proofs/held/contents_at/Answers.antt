use Rattle.std.proofs.Common.{◌∙◌, ◌∷◌, ◌++◌, [], map, take, get_or, ap, sym, arith}
use Rattle.std.proofs.lemmas.List.{take_more, take_all, map_push}
use Rattle.sheet_ops.specs.Placed.{cell_at}
use Rattle.sheet_grid.specs.Values.{placed_in}
use Rattle.generated_run.proofs.held.contents_at.Goals as goal

pub loop-i-preserved : goal.loop-i-preserved
loop-i-preserved c =
    let at = cell_at (placed_in c.args.sheet.now) c.args.row in
    c.in_ok-push.ensures.items
    ∙ ((λ j. c.loop-i.invariant j ++ c.in_ok-content.ensures.cell j ∷ [])
    ∙ (sym (map_push at (take c.loop-i.i c.args.cols.now) (get_or c.args.cols.now c.loop-i.i 0)) ∙ ap (map at) (sym (take_more c.args.cols.now c.loop-i.i 0 c.loop-i-test.true))))

pub returns : goal.returns
returns c =
    c.loop-i.invariant ∙ ap (map (cell_at (placed_in c.args.sheet.now) c.args.row)) (take_all c.loop-i.i c.args.cols.now (omega (arith, c.loop-i-test.false)))
