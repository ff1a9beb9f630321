-- The code of a formula: its nodes in postfix order.
use Rattle.std.specs.Prelude.{ℕ, ◌≡◌, ◌+◌, nat_eq, pos, Bool, true, false, ◌&&◌, ◌||◌, if◌then◌else◌, List, [], ◌∷◌, ◌++◌, length}
use Rattle.std.specs.List.{flat_map}
use Rattle.ss_base.specs.declared.types.Spot.{Spot}
use Rattle.ss_base.specs.declared.types.Span.{Span}
use Rattle.formula_tree.specs.declared.functions.Fun.{Fun}
use Rattle.formula_tree.specs.declared.functions.Fun.TheVariants as fun
use Rattle.formula_tree.specs.declared.expression.Expr.{Expr}
use Rattle.formula_tree.specs.Erase.{tree_of}
use Rattle.formula_tree.specs.Tree.{Tree, Trees, num, text, fault, cell, range, pre, bin, call, none, more}
use Rattle.formula_tree.specs.WellFormed.{IsFormula}
use Rattle.formula_code.specs.declared.step.Step.{Step}
use Rattle.formula_code.specs.declared.step.Step.TheVariants as step

-- all arguments, and then the function
abbrev pub plain_call : Fun → List (List Step) → List Step
plain_call f args = flat_map (λ c. c) args ++ step.Call f (length args) ∷ []

-- A choice: its test, and then each branch with its end. The test leads behind the first branch or behind both, and the
-- end of the first one leads behind the second.
abbrev pub choice_code : List Step → List Step → List Step → List Step
choice_code test x y =
    test ++ step.Test (length x + 1) (length x + 1 + (length y + 1)) ∷ (x ++ step.Skip (length y + 1) ∷ (y ++ step.Skip 0 ∷ []))

-- IF with two or three arguments is a choice, whose second branch is 0 when left out
abbrev pub is_if : Fun → Bool
is_if fun.If = true
is_if f = false

abbrev pub is_choice : Fun → ℕ → Bool
is_choice f count = is_if f && (nat_eq count 2 || nat_eq count 3)

abbrev pub if_code : List (List Step) → List Step
if_code (test ∷ x ∷ []) = choice_code test x (step.Num (pos 0) ∷ [])
if_code (test ∷ x ∷ y ∷ rest) = choice_code test x y
if_code args = []

abbrev pub call_code : Fun → List (List Step) → List Step
call_code f args = if is_choice f (length args) then if_code args else plain_call f args

abbrev mutual
  pub code_of : Tree Spot Span → List Step
  code_of (num n) = step.Num n ∷ []
  code_of (text t) = step.Text t ∷ []
  code_of (fault e) = step.Fault e ∷ []
  code_of (cell c) = step.Cell c ∷ []
  code_of (range r) = step.Range r ∷ []
  code_of (pre op t) = code_of t ++ step.Pre op ∷ []
  code_of (bin op s t) = code_of s ++ (code_of t ++ step.Bin op ∷ [])
  code_of (call f ts) = call_code f (codes_of ts)

  pub codes_of : Trees Spot Span → List (List Step)
  codes_of none = []
  codes_of (more t ts) = code_of t ∷ codes_of ts

abbrev pub expr_code : Expr → List Step
expr_code e = code_of (tree_of e)

-- these steps are the code of that formula
pub record IsCodeOf (t : Tree Spot Span) (steps : List Step) : Type 0 where
  pub formula : IsFormula t
  pub code : steps ≡ code_of t
