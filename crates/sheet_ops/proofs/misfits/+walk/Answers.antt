use Rattle.std.proofs.Common.{ap, sym, ◌∙◌, List}
use Rattle.std.proofs.Common.{map as map_list}
use Rattle.std.proofs.lemmas.Result.{err_from_is_err_and}
use Rattle.ss_base.specs.declared.types.Spot.{Spot}
use Rattle.ss_base.specs.declared.types.Span.{Span}
use Rattle.formula_tree.specs.declared.expression.Expr.{Expr}
use Rattle.formula_tree.specs.Erase.{tree_of}
use Rattle.formula_tree.specs.Tree.{Tree, trees_from}
use Rattle.formula_tree.proofs.Trees.{tree_of-call}
use Rattle.sheet_ops.specs.Misfits.{walked, tree_tests, trees_tests}
use Rattle.sheet_ops.proofs.FirstMisfit.{walked_on, walked_out, args_out, args_more}
use Rattle.sheet_ops.proofs.misfits.+walk.Goals as goal

pub walk_expr-returns-in_err-at-in-Bin : goal.walk_expr-returns-in_err-at-in-Bin
walk_expr-returns-in_err-at-in-Bin t c =
    let p = err_from_is_err_and c.from_residual.result c.from_residual.ensures.1 in
    let told = rw c.deref-in-Bin.ensures at c.in_err-at-in-Bin.ensures in
    rw (p.1, p.2, c.in-Bin.is) (sym (walked_out c.args.at c.in_err-at-in-Bin.field-0.0 (tree_tests c.args.size (tree_of c.in-Bin.d.value)) (tree_tests c.args.size (tree_of c.in-Bin.e.value)) (sym told)))

pub walk_expr-returns-in_ok-at-in-Bin : goal.walk_expr-returns-in_ok-at-in-Bin
walk_expr-returns-in_ok-at-in-Bin t c =
    let told = rw c.deref-in-Bin.ensures at c.in_ok-at-in-Bin.ensures in
    let rest = rw c.deref-in-Bin-2.ensures at c.walk_expr-in-Bin-2.ensures in
    rw c.in-Bin.is (rest ∙ sym (walked_on c.args.at c.in_ok-at-in-Bin.at (tree_tests c.args.size (tree_of c.in-Bin.d.value)) (tree_tests c.args.size (tree_of c.in-Bin.e.value)) (sym told)))

pub walk_expr-returns-in-Call : goal.walk_expr-returns-in-Call
walk_expr-returns-in-Call t c =
    rw c.in-Call.is (c.walk_args.ensures ∙ (ap (λ (es : List Expr). walked c.args.at (trees_tests c.args.size (trees_from (map_list tree_of es)))) c.as_slice.ensures
    ∙ sym (ap (λ (t : Tree Spot Span). walked c.args.at (tree_tests c.args.size t)) (tree_of-call c.in-Call.field-0 c.in-Call.args))))

pub walk_args-returns-in_err-at : goal.walk_args-returns-in_err-at
walk_args-returns-in_err-at t c =
    let p = err_from_is_err_and c.from_residual.result c.from_residual.ensures.1 in
    rw (p.1, p.2) (args_out c.args.size c.args.at c.loop-e.at c.in_err-at.field-0.0 c.args.exprs.now c.loop-e.e-index c.e-item.result c.loop-e-test.true c.e-item.is c.loop-e.invariant c.in_err-at.ensures)

pub walk_args-loop-e-preserved : goal.walk_args-loop-e-preserved
walk_args-loop-e-preserved t c =
    args_more c.args.size c.args.at c.loop-e.at c.in_ok-at.at c.args.exprs.now c.loop-e.e-index c.e-item.result c.loop-e-test.true c.e-item.is c.loop-e.invariant c.in_ok-at.ensures
