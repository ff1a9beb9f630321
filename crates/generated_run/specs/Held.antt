-- What the rows of a sheet by positions hold.
use Rattle.std.specs.Prelude.{ℕ, ◌≡◌, ◌<◌, List, length, map, slice_index, slice_index_or}
use Rattle.sheet_ops.specs.declared.content.Content.{Content}
use Rattle.sheet_ops.specs.declared.content.Content.TheVariants as content
use Rattle.sheet_ops.specs.Placed.{PlacedSheet, cell_at}
use Rattle.sheet_grid.specs.Cells.{occupied_places}
use Rattle.generated_run.specs.declared.held.RowHeld.{RowHeld}

-- the columns that are filled, and what they hold
pub record IsRowHeld (P : PlacedSheet) (row : ℕ) (h : RowHeld) : Type 0 where
  pub cols : h.cols.items ≡ occupied_places P row
  pub contents : h.contents.items ≡ map (cell_at P row) h.cols.items

pub record AreRowsHeld (P : PlacedSheet) (hs : List RowHeld) : Type 0 where
  pub many : length hs ≡ length P.rows
  pub each : (row : ℕ) (d : RowHeld) → row < length hs → IsRowHeld P row (slice_index_or hs row d)

-- there is a content for each column
abbrev pub IsWhole : RowHeld → Type 0
IsWhole h = length h.contents.items ≡ length h.cols.items

abbrev pub AreWhole : List RowHeld → Type 0
AreWhole hs = (row : ℕ) (d : RowHeld) → row < length hs → IsWhole (slice_index_or hs row d)

-- the columns hold these contents
abbrev pub HoldsAmong : PlacedSheet → ℕ → List ℕ → List Content → Type 0
HoldsAmong P row cols contents = (k : ℕ) → k < length cols → cell_at P row (slice_index cols k) ≡ slice_index_or contents k content.Empty

-- the row holds this and no more
abbrev pub HoldsRow : PlacedSheet → ℕ → RowHeld → Type 0
HoldsRow P row h = (occupied_places P row ≡ h.cols.items) × HoldsAmong P row h.cols.items h.contents.items

-- each row does
abbrev pub HoldsRows : PlacedSheet → List RowHeld → Type 0
HoldsRows P hs = (row : ℕ) (d : RowHeld) → row < length P.rows → HoldsRow P row (slice_index_or hs row d)
