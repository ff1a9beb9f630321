-- What stays on a sheet.
use Rattle.ss_base.specs.declared.types.Spot.{Spot}
use Rattle.ss_base.specs.declared.types.Span.{Span}
use Rattle.formula_tree.specs.Tree.{Tree, rename_tree}
use Rattle.sheet_ops.specs.Maps.{cell_moved, range_moved}
use Rattle.pair_transform.specs.declared.staying.Staying.{Staying}
use Rattle.pair_transform.specs.StayingLines.{lines_map, HaveAscendingSlots}

pub record HasAscendingSlots (s : Staying) : Type 0 where
  pub rows : HaveAscendingSlots s.rows
  pub cols : HaveAscendingSlots s.cols

-- where the references of a formula go
abbrev pub cell_gone : Staying → Spot → Spot
cell_gone s spot = cell_moved (lines_map s.rows) (lines_map s.cols) spot

abbrev pub range_gone : Staying → Span → Span
range_gone s span = range_moved (lines_map s.rows) (lines_map s.cols) span

abbrev pub tree_gone : Staying → Tree Spot Span → Tree Spot Span
tree_gone s t = rename_tree (cell_gone s) (range_gone s) t
