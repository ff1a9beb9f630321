use Rattle.std.proofs.Common.{◌∙◌, ap}
use Rattle.formula_tree.proofs.Trees.{tree_of-call}
use Rattle.formula_read.specs.Nested.{called}
use Rattle.formula_read.proofs.operand.OperandList.called.Goals as goal

pub returns : goal.returns
returns c =
    (λ i. record { tree = tree_of-call c.args.fun c.self.inside.exprs i; nesting = c.in_ok-nesting.ensures.more.0 i })
    ∙ ap (called c.args.fun) c.self.view_is
