-- How tightly the parts of a formula bind: 1 comparisons, 2 `&`, 3 sums, 4 products, 5 powers, 6 prefix signs, and 7 what
-- stands by itself: numerals, texts, errors, references, calls and what is in brackets.
use Rattle.std.specs.Prelude.{ℕ}
use Rattle.formula_tree.specs.declared.operators.BinOp.{BinOp}
use Rattle.formula_tree.specs.declared.operators.BinOp.TheVariants.{Pow, Mul, Div, Add, Sub, Join, Eq, Ne, Lt, Le, Gt, Ge}
use Rattle.formula_tree.specs.Tree.{Tree, pre, bin}

abbrev pub precedence_of_operator : BinOp → ℕ
precedence_of_operator Pow = 5
precedence_of_operator Mul = 4
precedence_of_operator Div = 4
precedence_of_operator Add = 3
precedence_of_operator Sub = 3
precedence_of_operator Join = 2
precedence_of_operator Eq = 1
precedence_of_operator Ne = 1
precedence_of_operator Lt = 1
precedence_of_operator Le = 1
precedence_of_operator Gt = 1
precedence_of_operator Ge = 1

abbrev pub precedence_of : {C R : Type 0} → Tree C R → ℕ
precedence_of (pre op t) = 6
precedence_of (bin op s t) = precedence_of_operator op
precedence_of t = 7
