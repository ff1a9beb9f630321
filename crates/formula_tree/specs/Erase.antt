-- The tree of an expression, without where it lies in memory.
use Rattle.ss_base.specs.declared.types.Spot.{Spot}
use Rattle.ss_base.specs.declared.types.Span.{Span}
use Rattle.formula_tree.specs.declared.expression.Expr.{Expr, Num, Text, Err, Cell, Range, Pre', Bin', Call', Row_of-Expr, end_of-Expr, more_of-Expr}
use Rattle.formula_tree.specs.Tree.{Tree, Trees, num, text, fault, cell, range, pre, bin, call, none, more}

abbrev mutual
  pub tree_of : Expr → Tree Spot Span
  tree_of (Num n) = num n
  tree_of (Text t) = text t
  tree_of (Err e) = fault e
  tree_of (Cell c) = cell c
  tree_of (Range r) = range r
  tree_of (Pre' op p e) = pre op (tree_of e)
  tree_of (Bin' op p d q e) = bin op (tree_of d) (tree_of e)
  tree_of (Call' f shape row) = call f (trees_of row)

  pub trees_of : {m : _} → Row_of-Expr m → Trees Spot Span
  trees_of end_of-Expr = none
  trees_of (more_of-Expr e row) = more (tree_of e) (trees_of row)
