-- What is computed of a sheet by positions: the values by its graph and a walk of it.
use Rattle.std.specs.Prelude.{ℕ, ◌≡◌, List, length, reverse}
use Rattle.sheet_graph.specs.declared.columns.FormulaCell.{FormulaCell}
use Rattle.sheet_value.specs.Tables.{Table, value_at}
use Rattle.sheet_ops.specs.Placed.{PlacedSheet}
use Rattle.sheet_grid.specs.Cells.{visible_size}
use Rattle.cell_walk.specs.declared.walking.Colour.{Colour}
use Rattle.cell_walk.specs.declared.walking.Colour.TheVariants.{White}
use Rattle.cell_walk.specs.Walks.{hue, IsFound}
use Rattle.sheet_graph.specs.declared.graph.Node.{Node}
use Rattle.sheet_graph.specs.Columns.{number_in}
use Rattle.sheet_graph.specs.Graphs.{content_seen, mentions_in, IsGraph}
use Rattle.full_calc.specs.Shown.{HasItsSize}
use Rattle.full_calc.specs.Evaluated.{constant_of, circled, evaluated}

-- a table that has the constants of a sheet, and nothing yet where it has formulas
pub record HasConstants (P : PlacedSheet) (T : Table) : Type 0 where
  pub size : T.size ≡ visible_size P
  pub shape : HasItsSize T
  pub values : (row col : ℕ) → value_at T row col ≡ constant_of (content_seen P row col)

pub record IsComputed (P : PlacedSheet) (T : Table) : Type 0 where
  pub nodes : List Node
  pub columns : List (List FormulaCell)
  pub colours : List Colour
  pub order : List ℕ
  pub base : Table
  pub graph : IsGraph P nodes (number_in columns)
  pub found : IsFound (mentions_in nodes columns) (λ c. White) (length nodes) (hue colours) (reverse order)
  pub len : length colours ≡ length nodes
  pub constants : HasConstants P base
  pub values : T ≡ evaluated P.rows P.cols nodes order (circled nodes colours (length nodes) base)
