use Rattle.std.proofs.Common.{arith, ap, List}
use Rattle.formula_tree.specs.declared.expression.Expr.{Expr}
use Rattle.formula_tree.specs.Lists.{weight_of_all}
use Rattle.formula_tree.proofs.Measured.{weight-call}
use Rattle.formula_tree.proofs.measures.+weight.Goals as goal

pub weight-returns-in-Call : goal.weight-returns-in-Call
weight-returns-in-Call t c =
    let whole = weight-call c.in-Call.fun c.in-Call.args in
    let listed = ap (λ (es : List Expr). weight_of_all es) c.as_slice.ensures in
    rw c.in-Call.is (omega arith)
