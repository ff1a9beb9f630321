use Rattle.formula_tree.specs.declared.expression.Expr.TheVariants.{outs-Call}
use Rattle.formula_tree.proofs.Trees.{remap_call}
use Rattle.formula_tree.proofs.renaming.+remap.Goals as goal

pub remap_expr-returns-in-Call : goal.remap_expr-returns-in-Call
remap_expr-returns-in-Call g t c =
    let h = remap_call (g.M.Remap.images c.args.map.now) c.in-Call.field-0 c.in-Call.args c.remap_args.new.args (rw c.in-Call.args-is at c.remap_args.ensures) in
    rw (c.in-Call.is, outs-Call) h
