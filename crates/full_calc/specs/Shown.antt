-- What a sheet shows at visible indexes.
use Rattle.std.specs.Prelude.{ℕ, ◌≡◌, List, Bool, length, slice_get, unwrap_or}
use Rattle.std.specs.List.{AllByRecursion}
use Rattle.marked_lines.specs.Marks.{visible_places}
use Rattle.sheet_ops.specs.Lines.{rec_at, marks}
use Rattle.sheet_ops.specs.Identity.{IdSheet}
use Rattle.sheet_value.specs.declared.value.Value.{Value}
use Rattle.sheet_value.specs.Tables.{Table}
use Rattle.full_calc.specs.Precedents.{CellId}
use Rattle.full_calc.specs.Values.{value_of}

-- the position of a visible line
abbrev pub visible_position : List Bool → ℕ → ℕ
visible_position marks visible = unwrap_or (slice_get (visible_places marks) visible) 0

-- the cell that is shown at visible indexes, and its value
abbrev pub cell_shown : IdSheet → ℕ → ℕ → CellId
cell_shown X row col = record { row = rec_at X.rows (visible_position (marks X.rows) row); col = rec_at X.cols (visible_position (marks X.cols) col) }

abbrev pub value_shown : IdSheet → ℕ → ℕ → Value
value_shown X row col = value_of X (cell_shown X row col)

-- a table has as many rows and columns as its size says
abbrev pub HasItsSize : Table → Type 0
HasItsSize T = (length T.rows ≡ T.size.rows) × AllByRecursion (λ row. length row ≡ T.size.cols) T.rows
