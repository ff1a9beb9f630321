use Rattle.formula_tree.specs.declared.expression.Expr.TheVariants.{outs-Call}
use Rattle.sheet_grid.specs.Values.{placed_in}
use Rattle.author_ops.specs.Placed.{cell_shifted, range_shifted}
use Rattle.author_ops.proofs.Remapped.{remap_call}
use Rattle.author_ops.proofs.copies.+shift.Goals as goal

pub shift_expr-returns-in-Call : goal.shift_expr-returns-in-Call
shift_expr-returns-in-Call t c =
    let P = placed_in c.args.copying.now.sheet.now in
    let h = remap_call (cell_shifted P c.args.copying.now.rows c.args.copying.now.cols) (range_shifted P c.args.copying.now.rows c.args.copying.now.cols) c.in-Call.field-0 c.in-Call.args c.shift_args.new.args (rw c.in-Call.args-is at c.shift_args.ensures) in
    rw (c.in-Call.is, outs-Call) h
