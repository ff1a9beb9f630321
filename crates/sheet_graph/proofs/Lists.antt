-- Lookups in lists, and the areas of calls.
use Rattle.std.proofs.Common.{◌≡◌, ℕ, zero, suc, ◌≤◌, List, [], ◌∷◌, ◌++◌, length, map, refl, ap, ◌∙◌, arith, Some}
use Rattle.std.specs.Prelude.{slice_get}
use Rattle.std.specs.List.{flat_map}
use Rattle.ss_base.specs.declared.types.Spot.{Spot}
use Rattle.ss_base.specs.declared.types.Span.{Span}
use Rattle.formula_tree.specs.declared.functions.Fun.{Fun}
use Rattle.formula_tree.specs.declared.expression.Expr.{Expr, Call}
use Rattle.formula_tree.specs.Tree.{Tree, trees_from, rename_tree, rename_trees}
use Rattle.formula_tree.specs.Erase.{tree_of}
use Rattle.formula_tree.proofs.Trees.{tree_of-call}
use Rattle.sheet_graph.specs.declared.areas.Area.{Area}
use Rattle.sheet_graph.specs.declared.graph.Node.{Node}
use Rattle.sheet_graph.specs.Areas.{areas_in, areas_in_all}
use Rattle.sheet_grid.specs.Values.{NumberedSheet, placed_in}
use Rattle.sheet_graph.specs.Graphs.{areas_of}
use Rattle.sheet_graph.specs.Placing.{spot_placed, span_placed, stored_areas}

pub areas_found : (nodes : List Node) (n : ℕ) (x : Node) → slice_get nodes n ≡ Some x → areas_of nodes n ≡ x.areas.items
areas_found [] n x h = absurd (cc)
areas_found (y ∷ nodes) zero x h = let e : y ≡ x = cc in ap (λ (z : Node). z.areas.items) e
areas_found (y ∷ nodes) (suc n) x h = areas_found nodes n x h

pub areas_past : (nodes : List Node) (n : ℕ) → length nodes ≤ n → areas_of nodes n ≡ []
areas_past [] n h = refl
areas_past (y ∷ nodes) zero h = absurd (omega arith)
areas_past (y ∷ nodes) (suc n) h = areas_past nodes n (omega arith)

module _ (V : NumberedSheet) where
  areas_listed : (es : List Expr) → areas_in_all (placed_in V).rows (placed_in V).cols (rename_trees (spot_placed V) (span_placed V) (trees_from (map tree_of es))) ≡ flat_map (stored_areas V) es
  areas_listed [] = refl
  areas_listed (e ∷ es) = ap (λ (xs : List Area). stored_areas V e ++ xs) (areas_listed es)

  pub areas_of_call : (f : Fun) (es : List Expr) → stored_areas V (Call f es) ≡ flat_map (stored_areas V) es
  areas_of_call f es = ap (λ (t : Tree Spot Span). areas_in (placed_in V).rows (placed_in V).cols (rename_tree (spot_placed V) (span_placed V) t)) (tree_of-call f es) ∙ areas_listed es
