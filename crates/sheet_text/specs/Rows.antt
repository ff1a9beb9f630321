-- A row's cells, of which some are listed.
use Rattle.std.specs.Prelude.{ℕ, List, [], ◌∷◌, ◌++◌, Option, None, Some}
use Rattle.marked_lines.specs.Marks.{visible_of}
use Rattle.sheet_ops.specs.Placed.{PlacedSheet, cell_at}
use Rattle.sheet_text.specs.Shown.{shown_text}
use Rattle.sheet_text.specs.Texts.{cell_line}

-- the line of a cell by the visible index of its column, if it has one
abbrev pub line_if_seen : ℕ → Option ℕ → List ℕ → List ℕ
line_if_seen row None text = []
line_if_seen row (Some col) text = cell_line row col text

-- the lines of some cells of a row, by the row's visible index and its position, and the positions of the columns
abbrev pub lines_at : PlacedSheet → ℕ → ℕ → List ℕ → List ℕ
lines_at P visible row [] = []
lines_at P visible row (col ∷ cols) = line_if_seen visible (visible_of P.cols col) (shown_text P (cell_at P row col)) ++ lines_at P visible row cols
