use Rattle.std.proofs.Common.{◌≡◌, ◌∙◌, ◌+◌, ◌++◌, [], ◌∷◌, arith}
use Rattle.cell_walk.proofs.Skips.{cells_push}
use Rattle.cell_walk.proofs.walking.nexts.Goals as goal

pub loop-cell-preserved : goal.loop-cell-preserved
loop-cell-preserved c =
    let e : c.loop-cell.cell + 1 ≡ 1 + c.loop-cell.cell = omega arith in
    c.in_ok-push.ensures.items
    ∙ ((λ i. c.loop-cell.invariant i ++ e i ∷ [])
    ∙ cells_push 1 c.loop-cell.cell)
