use Rattle.std.proofs.Common.{arith, ap, List}
use Rattle.formula_tree.specs.declared.expression.Expr.{Expr}
use Rattle.formula_tree.specs.Lists.{nesting_of_all}
use Rattle.formula_tree.proofs.Measured.{nesting_of_all-more, nesting-call}
use Rattle.formula_tree.proofs.measures.+nesting.Goals as goal

pub greatest_nesting-loop-e-preserved : goal.greatest_nesting-loop-e-preserved
greatest_nesting-loop-e-preserved t c =
    nesting_of_all-more c.args.exprs.now c.loop-e.e-index c.e-item.result c.loop-e.most c.nesting.result c.max-most.result
    c.loop-e-test.true c.e-item.is c.loop-e.invariant c.nesting.ensures c.max-most.ensures

pub nesting-returns-in-Call : goal.nesting-returns-in-Call
nesting-returns-in-Call t c =
    let whole = nesting-call c.in-Call.field-0 c.in-Call.args in
    let listed = ap (λ (es : List Expr). nesting_of_all es) c.as_slice.ensures in
    rw c.in-Call.is (omega arith)
