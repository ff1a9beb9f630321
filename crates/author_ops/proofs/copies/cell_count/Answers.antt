use Rattle.std.proofs.Common.{arith}
use Rattle.author_ops.proofs.Shifted.{product_few}
use Rattle.author_ops.proofs.copies.cell_count.Goals as goal

pub overflow_mul-result : goal.overflow_mul-result
overflow_mul-result c =
    let few = product_few c.line_count-rows.result c.line_count-cols.result c.line_count-rows.ensures.few c.line_count-cols.ensures.few in
    omega (arith, few)
