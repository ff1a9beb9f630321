use Rattle.std.proofs.Common.{length, ap, ◌∙◌, arith}
use Rattle.std.proofs.lemmas.List.FromFn.{length-range_with_len}
use Rattle.recalc_loop.proofs.changes.batch_between.Goals as goal

pub returns-clause-rows : goal.returns-clause-rows
returns-clause-rows c =
    let count = ap length c.in_ok-row_order.ensures ∙ length-range_with_len 0 c.size-size.result.rows in
    omega (arith, count, c.size-size.ensures.rows)

pub returns-clause-cols : goal.returns-clause-cols
returns-clause-cols c =
    let count = ap length c.in_ok-col_order.ensures ∙ length-range_with_len 0 c.size-size.result.cols in
    omega (arith, count, c.size-size.ensures.cols)
