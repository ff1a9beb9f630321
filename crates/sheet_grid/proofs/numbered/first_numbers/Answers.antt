use Rattle.std.proofs.Common.{◌≡◌, ◌∙◌, ◌++◌, ◌+◌, [], ◌∷◌, sym, arith}
use Rattle.sheet_grid.proofs.OpeningSheet.{one_number_more}
use Rattle.sheet_grid.proofs.numbered.first_numbers.Goals as goal

pub loop-i-preserved : goal.loop-i-preserved
loop-i-preserved c =
    let e : c.loop-i.i ≡ 0 + c.loop-i.i = omega arith in
    c.in_ok-push.ensures.items ∙ ((λ i. c.loop-i.invariant i ++ e i ∷ []) ∙ sym (one_number_more 0 c.loop-i.i))
