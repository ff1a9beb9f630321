-- What is counted of several expressions.
use Rattle.std.specs.Prelude.{ℕ, max, List, [], ◌∷◌, sum_by}
use Rattle.formula_tree.specs.declared.expression.Expr.{Expr}
use Rattle.formula_tree.specs.Erase.{tree_of}
use Rattle.formula_tree.specs.Measures.{print_nesting, weight_of}

-- the greatest nesting, or 0 of none
abbrev pub nesting_of_all : List Expr → ℕ
nesting_of_all [] = 0
nesting_of_all (e ∷ es) = max (print_nesting (tree_of e)) (nesting_of_all es)

-- the sum of the weights
abbrev pub weight_of_all : List Expr → ℕ
weight_of_all es = sum_by (λ e. weight_of (tree_of e)) es
