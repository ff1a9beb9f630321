use Rattle.std.proofs.Common.{ap, sym, map, ◌∙◌, ◌++◌}
use Rattle.formula_tree.specs.declared.expression.Expr.{Expr}
use Rattle.formula_tree.specs.Erase.{tree_of}
use Rattle.formula_tree.proofs.Trees.{same_call}
use Rattle.formula_tree.proofs.copying.+copy.Goals as goal

pub copy_expr-returns-in_ok-args-in-Call : goal.copy_expr-returns-in_ok-args-in-Call
copy_expr-returns-in_ok-args-in-Call t c =
    same_call c.in_ok-fun-in-Call.fun c.in-Call.fun c.in_ok-args-in-Call.args c.in-Call.args c.in_ok-fun-in-Call.ensures
    (c.in_ok-args-in-Call.ensures ∙ (λ i. map tree_of (c.empty_beside.ensures i ++ c.as_slice.ensures i)))
    ∙ ap (λ (e : Expr). tree_of e) (sym c.in-Call.is)
