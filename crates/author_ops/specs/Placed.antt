-- What a copy and a sort denote by the positions of a sheet's lines, as the code finds it.
use Rattle.std.specs.Prelude.{ℕ, ◌*◌, nat_lt, ◌&&◌, Bool, if◌then◌else◌, List, map, take, drop, Option, Result, Ok, Err}
use Rattle.std.specs.List.{flat_map}
use Rattle.std.specs.Option.{option_and_then, option_map}
use Rattle.ss_base.specs.declared.types.Spot.{Spot}
use Rattle.ss_base.specs.declared.types.Span.{Span}
use Rattle.formula_tree.specs.Remap.{remap_tree}
use Rattle.marked_lines.specs.Marks.{visible_count, visible_places, visible_of, span_of}
use Rattle.sheet_value.specs.declared.value.Value.{Value}
use Rattle.sheet_ops.specs.declared.content.Content.{Content}
use Rattle.sheet_ops.specs.declared.content.Content.TheVariants as content
use Rattle.sheet_ops.specs.declared.content.Put.{Put}
use Rattle.sheet_ops.specs.declared.operation.Intent.{Intent}
use Rattle.sheet_ops.specs.declared.operation.Intent.TheVariants as intent
use Rattle.sheet_ops.specs.declared.edit.EditErr.{EditErr}
use Rattle.sheet_ops.specs.declared.edit.EditErr.TheVariants as fault
use Rattle.sheet_ops.specs.Placed.{PlacedSheet, cell_at}
use Rattle.author_ops.specs.declared.axis.Dimension.{Dimension}
use Rattle.author_ops.specs.declared.axis.Dimension.TheVariants as axis
use Rattle.author_ops.specs.declared.axis.Shift.{Shift}
use Rattle.author_ops.specs.Copies.{line_shifted, ends_shifted, both_of, cell_reference, range_reference, line_count, are_seen, line_pairs}
use Rattle.author_ops.specs.Edits.{unless_heavy}
use Rattle.author_ops.specs.Orders.{places_sorted}

-- the marks of the rows, or of the columns
abbrev pub marks_on : PlacedSheet → Dimension → List Bool
marks_on P axis.Rows = P.rows
marks_on P axis.Cols = P.cols

module _ (P : PlacedSheet) (rows cols : Shift) where
  abbrev pub cell_shifted : Spot → Option Spot
  cell_shifted s = option_map (cell_reference s.abs_row s.abs_col) (both_of
      (option_and_then (line_shifted P.rows rows.from rows.to s.abs_row) (visible_of P.rows s.row))
      (option_and_then (line_shifted P.cols cols.from cols.to s.abs_col) (visible_of P.cols s.col)))

  abbrev pub range_shifted : Span → Option Span
  range_shifted s = option_map (range_reference s.abs_top s.abs_left s.abs_bottom s.abs_right) (both_of
      (option_and_then (ends_shifted P.rows rows.from rows.to s.abs_top s.abs_bottom) (span_of P.rows s.top s.bottom))
      (option_and_then (ends_shifted P.cols cols.from cols.to s.abs_left s.abs_right) (span_of P.cols s.left s.right)))

  abbrev pub content_shifted : Content → Content
  content_shifted content.Empty = content.Empty
  content_shifted (content.Num z) = content.Num z
  content_shifted (content.Text t) = content.Text t
  content_shifted (content.Formula t) = content.Formula (remap_tree cell_shifted range_shifted t)

  -- what is put into a cell, by the positions of a row and of a column, each beside that of the target
  abbrev pub put_shifted : ℕ × ℕ → ℕ × ℕ → Put
  put_shifted row col = record { row = row.1; col = col.1; content = content_shifted (cell_at P row.0 col.0) }

  abbrev pub puts_shifted : List (ℕ × ℕ) → List (ℕ × ℕ) → List Put
  puts_shifted row_pairs col_pairs = flat_map (λ row. map (put_shifted row) col_pairs) row_pairs

-- by how much the rows and the columns of a copy are shifted
abbrev pub row_shift : Span → Spot → Shift
row_shift from to = record { from = from.top; to = to.row }

abbrev pub col_shift : Span → Spot → Shift
col_shift from to = record { from = from.left; to = to.col }

abbrev pub puts_by : PlacedSheet → Span → Spot → List Put
puts_by P from to =
    puts_shifted P (row_shift from to) (col_shift from to) (line_pairs P.rows from.top to.row (line_count from.top from.bottom)) (line_pairs P.cols from.left to.col (line_count from.left from.right))

abbrev pub copy_by : PlacedSheet → Span → Spot → Result Intent EditErr
copy_by P from to =
    let count = line_count from.top from.bottom * line_count from.left from.right in
    if are_seen P.rows from.top from.bottom to.row && are_seen P.cols from.left from.right to.col
    then (if nat_lt 128 count then Err (fault.CopyLarge count) else unless_heavy (intent.Write (puts_by P from to)))
    else Err fault.OutOfSheet
