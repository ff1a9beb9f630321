-- Ranges of a snapshot.
use Rattle.std.specs.Prelude.{ℕ, suc, ◌<◌, List, length, map, take, drop}
use Rattle.ss_base.specs.declared.types.Span.{Span}
use Rattle.sheet_value.specs.declared.value.Value.{Value}
use Rattle.sheet_value.specs.Snapshots.{Snapshot, CellValues, cell_in}
use Rattle.sheet_value.specs.Tables.{Table}
use Rattle.value_snap.specs.declared.snap.View.{View}

-- both corners are visible
abbrev pub IsWithin : Snapshot → Span → Type 0
IsWithin s span = (span.top < length s.row_order) × (span.bottom < length s.row_order) × (span.left < length s.col_order) × (span.right < length s.col_order)

-- the lines from one visible index to another
abbrev pub visible_lines_between : List ℕ → ℕ → ℕ → List ℕ
visible_lines_between order first last = drop first (take (suc last) order)

-- the values of one row
abbrev pub values_in : CellValues → ℕ → List ℕ → List Value
values_in cells row cols = map (λ col. cell_in cells row col) cols

-- the values of some rows and columns
abbrev pub part_between : CellValues → List ℕ → List ℕ → Table
part_between cells rows cols = record { size = record { rows = length rows; cols = length cols }; rows = map (λ row. values_in cells row cols) rows }

-- what is read of a range
abbrev pub view_of_range : Snapshot → Span → View
view_of_range s span = record { length = s.length; grid = part_between s.cells (visible_lines_between s.row_order span.top span.bottom) (visible_lines_between s.col_order span.left span.right) }
