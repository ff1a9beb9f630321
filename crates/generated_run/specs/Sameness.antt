-- When two sheets of one size by positions have the same marks, and the same in their cells.
use Rattle.std.specs.Prelude.{ℕ, ◌≡◌, ◌<◌, List, length, slice_index}
use Rattle.sheet_ops.specs.Placed.{PlacedSheet, cell_at}

abbrev pub SameMarks : PlacedSheet → PlacedSheet → Type 0
SameMarks P Q = (P.rows ≡ Q.rows) × (P.cols ≡ Q.cols)

-- in one row
abbrev pub SameRow : PlacedSheet → PlacedSheet → ℕ → Type 0
SameRow P Q row = (col : ℕ) → col < length P.cols → cell_at P row col ≡ cell_at Q row col

-- in some columns of a row
abbrev pub SameAmong : PlacedSheet → PlacedSheet → ℕ → List ℕ → Type 0
SameAmong P Q row cols = (k : ℕ) → k < length cols → cell_at P row (slice_index cols k) ≡ cell_at Q row (slice_index cols k)

-- in every row
abbrev pub SameCells : PlacedSheet → PlacedSheet → Type 0
SameCells P Q = (row : ℕ) → row < length P.rows → SameRow P Q row
