use Rattle.std.proofs.Common.{List, ap, ◌∙◌}
use Rattle.std.specs.Prelude.{map}
use Rattle.formula_tree.specs.declared.expression.Expr.{Expr}
use Rattle.formula_tree.specs.Erase.{tree_of}
use Rattle.formula_tree.specs.Tree.{call, trees_from}
use Rattle.formula_tree.proofs.Trees.{tree_of-call}
use Rattle.edit_tests.proofs.evaluation.called.Goals as goal

pub returns : goal.returns
returns c =
    tree_of-call c.args.fun c.push.new.self
    ∙ ap (λ (es : List Expr). call c.args.fun (trees_from (map tree_of es))) (rw c.new-args.ensures at c.in_ok-push.ensures.ok)
