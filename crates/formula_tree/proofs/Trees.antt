-- the tree of a call, by the list of its arguments
use Rattle.std.proofs.Common.{◌≡◌, List, [], ◌∷◌, refl, ap, sym, ◌∙◌}
use Rattle.std.specs.Prelude.{map}
use Rattle.ss_base.specs.declared.types.Spot.{Spot}
use Rattle.ss_base.specs.declared.types.Span.{Span}
use Rattle.formula_tree.specs.declared.functions.Fun.{Fun}
use Rattle.formula_tree.specs.declared.expression.Expr.{Expr, Call, Row_of-Expr, end_of-Expr, more_of-Expr, items-the_row-Expr, items_hidden-the_row-Expr-0}
use Rattle.formula_tree.specs.declared.expression.Expr.TheBlock.{hidden-the_row-Expr-0}
use Rattle.formula_tree.specs.Tree.{Tree, call, more, trees_from}
use Rattle.formula_tree.specs.Remap.{Images, mapped, remap_trees, remap_spot, remap_span}
use Rattle.formula_tree.specs.Erase.{tree_of, trees_of}

trees_is : {n : _} (row : Row_of-Expr n) → trees_of row ≡ trees_from (map tree_of (items-the_row-Expr n row))
trees_is end_of-Expr = refl
trees_is (more_of-Expr e row) = ap (more (tree_of e)) (trees_is row)

pub tree_of-call : (f : Fun) (es : List Expr) → tree_of (Call f es) ≡ call f (trees_from (map tree_of es))
tree_of-call f es = ap (call f) (trees_is (hidden-the_row-Expr-0 es) ∙ ap (λ (l : List Expr). trees_from (map tree_of l)) (items_hidden-the_row-Expr-0 es))

-- calls of one function with equal arguments
pub same_call : (f g : Fun) (ds es : List Expr) → f ≡ g → map tree_of ds ≡ map tree_of es → tree_of (Call f ds) ≡ tree_of (Call g es)
same_call f g ds es p q = tree_of-call f ds ∙ ((λ i. call (p i) (trees_from (q i))) ∙ sym (tree_of-call g es))

module _ (m : Images) where
  remap_listed : (es : List Expr) → remap_trees (remap_spot m) (remap_span m) (trees_from (map tree_of es)) ≡ trees_from (map (λ e. mapped m (tree_of e)) es)
  remap_listed [] = refl
  remap_listed (e ∷ es) = ap (more (mapped m (tree_of e))) (remap_listed es)

  -- a call whose arguments are the images of another's
  pub remap_call : (fun : Fun) (old new : List Expr) → map tree_of new ≡ map (λ e. mapped m (tree_of e)) old → tree_of (Call fun new) ≡ mapped m (tree_of (Call fun old))
  remap_call fun old new h =
      tree_of-call fun new ∙ (ap (λ (ts : List (Tree Spot Span)). call fun (trees_from ts)) h
      ∙ (ap (call fun) (sym (remap_listed old)) ∙ ap (mapped m) (sym (tree_of-call fun old))))
