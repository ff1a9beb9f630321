-- The value that contracts see of a sheet kept by numbers: lists alone, from which the sheet by positions is computed.
use Rattle.std.specs.Prelude.{ℕ, suc, zero, ◌≡◌, ◌<◌, List, [], ◌∷◌, ◌++◌, length, map, replicate, slice_set, true, slice_index_or, unwrap_or, Option}
use Rattle.std.specs.BTreeMap.{BTreeMap}
use Rattle.ss_base.specs.declared.types.Size.{Size}
use Rattle.sheet_ops.specs.declared.content.Content.{Content}
use Rattle.sheet_ops.specs.declared.content.Content.TheVariants as content
use Rattle.sheet_ops.specs.declared.operation.Effect.{Effect}
use Rattle.sheet_ops.specs.declared.operation.Effect.TheVariants as effect
use Rattle.sheet_ops.specs.Placed.{PlacedSheet, placed}
use Rattle.sheet_ops.specs.Effects.{cells_written}
use Rattle.sheet_grid.specs.Kept.{NumberedAxis, KeptSheet, by_numbers, kept_size, line_added, recs_moved, opening_kept, held, IsSheet}
use Rattle.sheet_grid.specs.Numbering.{put_numbered}

-- contents by the number of the row's record and the column's number
pub record NumberedSheet : Type 0 where
  pub rows : NumberedAxis
  pub cols : NumberedAxis
  pub cells : List (List Content)

abbrev pub stored_at : List (List Content) → ℕ → ℕ → Content
stored_at cells rec col = slice_index_or (slice_index_or cells rec []) col content.Empty

abbrev pub kept_in : NumberedSheet → KeptSheet
kept_in V = record { rows = V.rows; cols = V.cols; cells = stored_at V.cells }

-- the sheet by positions
abbrev pub placed_in : NumberedSheet → PlacedSheet
placed_in V = placed (by_numbers (kept_in V))

-- how many lines ever came
abbrev pub numbered_size : NumberedSheet → Size
numbered_size V = kept_size (kept_in V)

-- the opening sheet: its lines have their numbers in order, and nothing is in it
abbrev pub opening_sheet : Size → NumberedSheet
opening_sheet size = record { rows = opening_kept size.rows; cols = opening_kept size.cols; cells = replicate size.rows (replicate size.cols content.Empty) }

-- so many contents of a row's map, from a column on, and those of all rows
abbrev pub contents_from : (ℕ → Option Content) → ℕ → ℕ → List Content
contents_from cells first zero = []
contents_from cells first (suc count) = unwrap_or (cells first) content.Empty ∷ contents_from cells (suc first) count

abbrev pub grid_of : ℕ → List (ℕ → Option Content) → List (List Content)
grid_of cols rows = map (λ cells. contents_from cells 0 cols) rows

abbrev pub numbered_sheet_of : NumberedAxis → NumberedAxis → List (BTreeMap ℕ Content) → NumberedSheet
numbered_sheet_of rows cols maps = record { rows = rows; cols = cols; cells = grid_of (length cols.slots) (map held maps) }

-- so many rows of so many contents
abbrev pub IsShaped : ℕ → ℕ → List (List Content) → Type 0
IsShaped rows cols cells = (length cells ≡ rows) × ((row : ℕ) → row < rows → length (slice_index_or cells row []) ≡ cols)

-- what holds of every sheet: numbers and positions lead to each other, each reference is inside, and there is a content
-- for each row and column
pub record IsNumberedSheet (V : NumberedSheet) : Type 0 where
  pub kept : IsSheet (kept_in V)
  pub shaped : IsShaped (length V.rows.slots) (length V.cols.slots) V.cells

-- what an effect does to it: no stored content is touched but where it is written
abbrev pub numbered_past : NumberedSheet → Effect → NumberedSheet
numbered_past V (effect.Write ps) = record V { cells = cells_written V.cells (map (put_numbered V.rows V.cols) ps) }
numbered_past V (effect.InsRow p) = record V { rows = line_added V.rows p; cells = V.cells ++ replicate (length V.cols.slots) content.Empty ∷ [] }
numbered_past V (effect.InsCol p) = record V { cols = line_added V.cols p; cells = map (λ row. row ++ content.Empty ∷ []) V.cells }
numbered_past V (effect.DelRow p) = record V { rows = record V.rows { marks = slice_set V.rows.marks p true } }
numbered_past V (effect.DelCol p) = record V { cols = record V.cols { marks = slice_set V.cols.marks p true } }
numbered_past V (effect.Move moves) = record V { rows = recs_moved V.rows moves }

abbrev pub WritesNothing : Effect → Type 0
WritesNothing (effect.Write ps) = ⊥
WritesNothing (effect.InsRow p) = Unit {0}
WritesNothing (effect.InsCol p) = Unit {0}
WritesNothing (effect.DelRow p) = Unit {0}
WritesNothing (effect.DelCol p) = Unit {0}
WritesNothing (effect.Move moves) = Unit {0}
