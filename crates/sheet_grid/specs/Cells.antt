-- What is read from a sheet by positions.
use Rattle.std.specs.Prelude.{ℕ, Bool, true, false, not, List, filter, length, Option, None, Some}
use Rattle.ss_base.specs.declared.types.Size.{Size}
use Rattle.ss_base.specs.declared.types.Spot.{Spot}
use Rattle.ss_base.specs.declared.types.Span.{Span}
use Rattle.marked_lines.specs.Marks.{visible_places}
use Rattle.formula_tree.specs.Tree.{Tree}
use Rattle.sheet_ops.specs.declared.content.Content.{Content}
use Rattle.sheet_ops.specs.declared.content.Content.TheVariants as content
use Rattle.sheet_ops.specs.Placed.{PlacedSheet, cell_at}
use Rattle.sheet_ops.specs.Transforms.{numbers_from}
use Rattle.sheet_grid.specs.declared.Kind.{Kind}
use Rattle.sheet_grid.specs.declared.Kind.TheVariants as kind

-- the kind of a content
abbrev pub kind_of : Content → Kind
kind_of content.Empty = kind.Empty
kind_of (content.Num z) = kind.Num z
kind_of (content.Text t) = kind.Text
kind_of (content.Formula t) = kind.Formula

-- the formula of a content, if it is one
abbrev pub formula_of : Content → Option (Tree Spot Span)
formula_of content.Empty = None
formula_of (content.Num z) = None
formula_of (content.Text t) = None
formula_of (content.Formula t) = Some t

abbrev pub is_empty : Content → Bool
is_empty content.Empty = true
is_empty (content.Num z) = false
is_empty (content.Text t) = false
is_empty (content.Formula t) = false

-- how many rows and columns are visible
abbrev pub visible_size : PlacedSheet → Size
visible_size P = record { rows = length (visible_places P.rows); cols = length (visible_places P.cols) }

-- the visible columns, by their positions, whose cell in a row isn't empty
abbrev pub filled_places : PlacedSheet → ℕ → List ℕ
filled_places P row = filter (λ col. not (is_empty (cell_at P row col))) (visible_places P.cols)

-- all columns, by their positions, whose cell in a row isn't empty
abbrev pub occupied_places : PlacedSheet → ℕ → List ℕ
occupied_places P row = filter (λ col. not (is_empty (cell_at P row col))) (numbers_from 0 (length P.cols))
