-- References by numbers, as a sheet stores them, by positions.
use Rattle.std.specs.Prelude.{List}
use Rattle.ss_base.specs.declared.types.Spot.{Spot}
use Rattle.ss_base.specs.declared.types.Span.{Span}
use Rattle.formula_tree.specs.Tree.{Tree, rename_tree}
use Rattle.formula_tree.specs.declared.expression.Expr.{Expr}
use Rattle.formula_tree.specs.Erase.{tree_of}
use Rattle.sheet_ops.specs.Naming.{locate_cell, locate_range}
use Rattle.sheet_grid.specs.Kept.{axis, cell_meant, range_meant}
use Rattle.sheet_grid.specs.Numbering.{lines_alone}
use Rattle.sheet_grid.specs.Values.{NumberedSheet, placed_in}
use Rattle.sheet_graph.specs.declared.areas.Area.{Area}
use Rattle.sheet_graph.specs.Areas.{areas_in}

module _ (V : NumberedSheet) where
  -- where the lines stand that a reference means
  abbrev pub spot_placed : Spot → Spot
  spot_placed s = locate_cell (lines_alone V.rows V.cols) (cell_meant (axis V.rows) (axis V.cols) s)

  abbrev pub span_placed : Span → Span
  span_placed s = locate_range (lines_alone V.rows V.cols) (range_meant (axis V.rows) (axis V.cols) s)

  -- a formula with each of its references so
  abbrev pub tree_placed : Tree Spot Span → Tree Spot Span
  tree_placed t = rename_tree spot_placed span_placed t

  -- the areas that a stored expression refers to
  abbrev pub stored_areas : Expr → List Area
  stored_areas e = areas_in (placed_in V).rows (placed_in V).cols (tree_placed (tree_of e))
