-- What a copy writes. A formula is copied as what its shown text, shifted from the source to the target, would denote
-- when typed.
use Rattle.std.specs.Prelude.{ℕ, suc, ◌+◌, ◌-◌, nat_lt, nat_le, ◌&&◌, Bool, if◌then◌else◌, List, map, take, drop, slice_get, Option, Some, None}
use Rattle.std.specs.List.{zip, flat_map}
use Rattle.std.specs.Option.{option_and_then, option_map}
use Rattle.ss_base.specs.declared.types.Spot.{Spot}
use Rattle.ss_base.specs.declared.types.Span.{Span}
use Rattle.cell_addr.specs.Cells.{range_between}
use Rattle.formula_tree.specs.Remap.{remap_tree}
use Rattle.marked_lines.specs.Marks.{visible_count, visible_places, visible_of, span_of}
use Rattle.sheet_ops.specs.declared.content.Content.{Content}
use Rattle.sheet_ops.specs.declared.content.Content.TheVariants as content
use Rattle.sheet_ops.specs.declared.content.Put.{Put}
use Rattle.sheet_ops.specs.Lines.{rec_place, slot_place, rec_at, marks}
use Rattle.sheet_ops.specs.Identity.{IdCell, IdRange, IdContent, blank, number, text, formula, IdSheet}

-- a visible index as far behind `to` as it is behind `from`, with a `$` the same; none before the first line
abbrev pub shifted_index : ℕ → ℕ → Bool → ℕ → Option ℕ
shifted_index from to abs v = if abs then Some v else if nat_le from (v + to) then Some (v + to - from) else None

-- the position of the visible line there, if there is one
abbrev pub line_shifted : List Bool → ℕ → ℕ → Bool → ℕ → Option ℕ
line_shifted marks from to abs v = option_and_then (λ w. slice_get (visible_places marks) w) (shifted_index from to abs v)

-- of the first and of the last visible line of a range, each by its own `$`
abbrev pub ends_shifted : List Bool → ℕ → ℕ → Bool → Bool → ℕ × ℕ → Option (ℕ × ℕ)
ends_shifted marks from to abs_first abs_last seen =
    option_and_then (λ first. option_map (λ last. (first, last)) (line_shifted marks from to abs_last seen.1)) (line_shifted marks from to abs_first seen.0)

-- both of two answers
abbrev pub both_of : {A B : Type 0} → Option A → Option B → Option (A × B)
both_of None b = None
both_of (Some a) b = option_map (λ b. (a, b)) b

-- a reference to a cell, by the positions of the row and the column
abbrev pub cell_reference : Bool → Bool → ℕ × ℕ → Spot
cell_reference abs_row abs_col at = record { row = at.0; col = at.1; abs_row = abs_row; abs_col = abs_col }

-- a reference to a range, put in order again, by the positions of its rows and of its columns
abbrev pub range_reference : Bool → Bool → Bool → Bool → (ℕ × ℕ) × (ℕ × ℕ) → Span
range_reference abs_top abs_left abs_bottom abs_right at = range_between (cell_reference abs_top abs_left (at.0.0, at.1.0)) (cell_reference abs_bottom abs_right (at.0.1, at.1.1))

module _ (X : IdSheet) (from to : Spot) where
  -- a reference to a cell is lost where its record or its column is dead, or where it would leave the visible sheet
  abbrev pub cell_copied : IdCell → Option Spot
  cell_copied c = option_map (cell_reference c.abs_row c.abs_col) (both_of
      (option_and_then (line_shifted (marks X.rows) from.row to.row c.abs_row) (visible_of (marks X.rows) (rec_place X.rows c.row)))
      (option_and_then (line_shifted (marks X.cols) from.col to.col c.abs_col) (visible_of (marks X.cols) (rec_place X.cols c.col))))

  -- one to a range, which is seen from its first to its last visible line, where a corner would leave it
  abbrev pub range_copied : IdRange → Option Span
  range_copied r = option_map (range_reference r.abs_top r.abs_left r.abs_bottom r.abs_right) (both_of
      (option_and_then (ends_shifted (marks X.rows) from.row to.row r.abs_top r.abs_bottom) (span_of (marks X.rows) (slot_place X.rows r.top) (slot_place X.rows r.bottom)))
      (option_and_then (ends_shifted (marks X.cols) from.col to.col r.abs_left r.abs_right) (span_of (marks X.cols) (slot_place X.cols r.left) (slot_place X.cols r.right))))

  -- a lost reference becomes the constant `#REF!`
  abbrev pub content_copied : IdContent → Content
  content_copied blank = content.Empty
  content_copied (number z) = content.Num z
  content_copied (text t) = content.Text t
  content_copied (formula t) = content.Formula (remap_tree cell_copied range_copied t)

abbrev pub first_cell : Span → Spot
first_cell s = record { row = s.top; col = s.left; abs_row = s.abs_top; abs_col = s.abs_left }

-- how many lines there are from a first to a last one
abbrev pub line_count : ℕ → ℕ → ℕ
line_count first last = suc last - first

-- are the visible lines from a first to a last one there, and as many from another one on
abbrev pub are_seen : List Bool → ℕ → ℕ → ℕ → Bool
are_seen marks first last to = nat_lt last (visible_count marks) && nat_le (to + line_count first last) (visible_count marks)

-- the positions of so many visible lines from one on, each beside that of the line to which it is copied
abbrev pub line_pairs : List Bool → ℕ → ℕ → ℕ → List (ℕ × ℕ)
line_pairs marks from to count = zip (take count (drop from (visible_places marks))) (take count (drop to (visible_places marks)))

-- the cells row by row, each with what is copied into it; an empty one clears its target
abbrev pub copied_puts : IdSheet → Span → Spot → List Put
copied_puts X from to =
    flat_map (λ row. map (λ col. record { row = row.1; col = col.1; content = content_copied X (first_cell from) to (X.cells (rec_at X.rows row.0) (rec_at X.cols col.0)) })
    (line_pairs (marks X.cols) from.left to.col (line_count from.left from.right)))
    (line_pairs (marks X.rows) from.top to.row (line_count from.top from.bottom))
