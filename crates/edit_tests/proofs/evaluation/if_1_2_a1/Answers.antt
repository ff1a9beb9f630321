use Rattle.std.proofs.Common.{List, ap, ◌∙◌}
use Rattle.std.specs.Prelude.{map}
use Rattle.formula_tree.specs.declared.expression.Expr.{Expr}
use Rattle.formula_tree.specs.declared.functions.Fun.TheVariants as function
use Rattle.formula_tree.specs.Erase.{tree_of}
use Rattle.formula_tree.specs.Tree.{call, trees_from}
use Rattle.formula_tree.proofs.Trees.{tree_of-call}
use Rattle.edit_tests.proofs.evaluation.if_1_2_a1.Goals as goal

pub returns : goal.returns
returns c =
    tree_of-call function.If c.push-3.new.self
    ∙ ap (λ (es : List Expr). call function.If (trees_from (map tree_of es))) (rw (c.in_ok-push-2.ensures.ok, c.in_ok-push.ensures.ok, c.new-args.ensures) at c.in_ok-push-3.ensures.ok)
