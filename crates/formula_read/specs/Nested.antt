-- Trees that were read, each with the nesting of its text.
use Rattle.std.specs.Prelude.{ℕ, suc, max, ◌≡◌, ◌<◌, List, [], ◌∷◌, ◌++◌, Result, Ok, Err}
use Rattle.ss_base.specs.declared.types.Spot.{Spot}
use Rattle.ss_base.specs.declared.types.Span.{Span}
use Rattle.formula_tree.specs.declared.operators.PreOp.{PreOp}
use Rattle.formula_tree.specs.declared.operators.BinOp.{BinOp}
use Rattle.formula_tree.specs.declared.functions.Fun.{Fun}
use Rattle.formula_tree.specs.Tree.{Tree, pre, bin, call, trees_from}
use Rattle.formula_read.specs.declared.tree_err.TreeErr.{TreeErr}
use Rattle.formula_read.specs.declared.tree_err.TreeErr.TheVariants as tree_err

-- an operand
pub record Nested : Type 0 where
  pub tree : Tree Spot Span
  pub nesting : ℕ

-- arguments, and their greatest nesting
pub record NestedList : Type 0 where
  pub trees : List (Tree Spot Span)
  pub nesting : ℕ

abbrev pub leaf : Tree Spot Span → Nested
leaf t = record { tree = t; nesting = 1 }

abbrev pub with_sign : PreOp → Nested → Nested
with_sign op x = record { tree = pre op x.tree; nesting = suc x.nesting }

abbrev pub between : BinOp → Nested → Nested → Nested
between op x y = record { tree = bin op x.tree y.tree; nesting = suc (max x.nesting y.nesting) }

abbrev pub bracketed : Nested → Nested
bracketed x = record { tree = x.tree; nesting = suc x.nesting }

abbrev pub no_arguments : NestedList
no_arguments = record { trees = []; nesting = 0 }

abbrev pub with_argument : NestedList → Nested → NestedList
with_argument args x = record { trees = args.trees ++ x.tree ∷ []; nesting = max args.nesting x.nesting }

abbrev pub called : Fun → NestedList → Nested
called fun args = record { tree = call fun (trees_from args.trees); nesting = suc args.nesting }

-- this operand is made, unless its nesting is above 64 or memory is wanting
abbrev pub Makes : Result Nested TreeErr → Nested → Type 0
Makes (Ok y) x = y ≡ x
Makes (Err tree_err.Deep) x = 64 < x.nesting
Makes (Err tree_err.Memory) x = Unit {0}
Makes (Err tree_err.Outside) x = ⊥
