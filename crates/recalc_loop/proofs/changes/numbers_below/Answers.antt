use Rattle.std.proofs.Common.{ap, sym, ◌∙◌, ◌++◌, ◌∷◌, [], arith}
use Rattle.recalc_loop.proofs.Ranges.{range_more}
use Rattle.recalc_loop.proofs.changes.numbers_below.Goals as goal

pub loop-n-preserved : goal.loop-n-preserved
loop-n-preserved c = c.in_ok-push.ensures.ok ∙ ap (λ l. l ++ c.loop-n.n ∷ []) c.loop-n.invariant ∙ sym (range_more 0 c.loop-n.n c.loop-n.n (omega arith))
