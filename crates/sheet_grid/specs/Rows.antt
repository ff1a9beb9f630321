-- Maps of rows, cell by cell, and cells written by numbers.
use Rattle.std.specs.Prelude.{◌≡◌, ◌<◌, ◌&&◌, ℕ, nat_eq, if◌then◌else◌, List, [], ◌∷◌, slice_index_or, Option, None, Some}
use Rattle.sheet_ops.specs.declared.content.Content.{Content}
use Rattle.sheet_ops.specs.declared.content.Content.TheVariants as content
use Rattle.sheet_ops.specs.declared.content.Put.{Put}
use Rattle.ss_base.specs.declared.types.Size.{Size}
use Rattle.sheet_ops.specs.Fits.{ContentFits}
use Rattle.sheet_grid.specs.Kept.{no_cells}

-- with something else, or nothing, under one column
abbrev pub with_column : (ℕ → Option Content) → ℕ → Option Content → ℕ → Option Content
with_column cells col what k = if nat_eq col k then what else cells k

-- an empty content is kept as none
abbrev pub settled : Option Content → Option Content
settled None = None
settled (Some content.Empty) = None
settled (Some (content.Num z)) = Some (content.Num z)
settled (Some (content.Text t)) = Some (content.Text t)
settled (Some (content.Formula t)) = Some (content.Formula t)

-- what a cell holds, by its row and column
abbrev pub cell_held : List (ℕ → Option Content) → ℕ → ℕ → Option Content
cell_held rows row col = slice_index_or rows row no_cells col

-- an empty content is held only where one was
abbrev pub AddsNoEmpty : List (ℕ → Option Content) → List (ℕ → Option Content) → Type 0
AddsNoEmpty old new = (row col : ℕ) → cell_held new row col ≡ Some content.Empty → cell_held old row col ≡ Some content.Empty

-- the cells with one content put in, and with some, one after another
abbrev pub put_kept : (ℕ → ℕ → Content) → Put → ℕ → ℕ → Content
put_kept cells p row col = if nat_eq p.row row && nat_eq p.col col then p.content else cells row col

abbrev pub puts_kept : (ℕ → ℕ → Content) → List Put → ℕ → ℕ → Content
puts_kept cells [] = cells
puts_kept cells (p ∷ ps) = puts_kept (put_kept cells p) ps

-- each cell and each reference is inside
abbrev pub AllFit : Size → List Put → Type 0
AllFit size [] = Unit {0}
AllFit size (p ∷ ps) = (p.row < size.rows) × (p.col < size.cols) × ContentFits size p.content × AllFit size ps
