-- What published batches lead to: values by the numbers of rows and columns.
use Rattle.std.specs.Prelude.{ℕ, List, fold, unwrap_or, Option, None, Some}
use Rattle.std.specs.List.{range_with_len}
use Rattle.std.specs.declared.cmp.Ordering.{Ordering}
use Rattle.std.specs.Ordering.{ordering_then, nat_cmp}
use Rattle.std.specs.FinMap as map
use Rattle.ss_base.specs.declared.types.Size.{Size}
use Rattle.sheet_value.specs.declared.batch.Batch.{Batch}
use Rattle.sheet_value.specs.declared.batch.Change.{Change}
use Rattle.sheet_value.specs.declared.value.Value.{Value}
use Rattle.sheet_value.specs.declared.value.Value.TheVariants as value
use Rattle.sheet_value.specs.Tables.{filled}

-- cells go row by row
abbrev pub cell_order : ℕ × ℕ → ℕ × ℕ → Ordering
cell_order a b = ordering_then (nat_cmp a.0 b.0) (nat_cmp a.1 b.1)

-- values by row number and column number; no value is kept for an empty cell
abbrev pub CellValues : Type 0
CellValues = map.FinMap cell_order Value

-- how many entries of the history were evaluated, the visible rows and columns from first to last, and the values
pub record Snapshot : Type 0 where
  pub length : ℕ
  pub row_order : List ℕ
  pub col_order : List ℕ
  pub cells : CellValues

-- the opening sheet, in which every cell is empty
abbrev pub opening_snapshot : Size → Snapshot
opening_snapshot size = record { length = 0; row_order = range_with_len 0 size.rows; col_order = range_with_len 0 size.cols; cells = map.empty }

-- the value of a cell
abbrev pub cell_in : CellValues → ℕ → ℕ → Value
cell_in cells row col = unwrap_or (map.get cells (row, col)) value.Empty

-- with a value in one cell, or none
abbrev pub with_cell : CellValues → ℕ × ℕ → Option Value → CellValues
with_cell cells at None = map.remove cells at
with_cell cells at (Some v) = map.insert cells at v

abbrev pub with_change : CellValues → Change → CellValues
with_change cells c = with_cell cells (c.row, c.col) (filled c.value)

-- a batch says how far it goes and which lines are visible, and each of its changes is put
abbrev pub after_batch : Snapshot → Batch → Snapshot
after_batch s b = record { length = b.upto; row_order = b.row_order; col_order = b.col_order; cells = fold with_change s.cells b.changes }

-- the opening sheet after the batches
abbrev pub replay : Size → List Batch → Snapshot
replay size batches = fold after_batch (opening_snapshot size) batches
