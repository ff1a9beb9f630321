-- What a sheet keeps, and the sheet by identity that it is: the j-th row, and the j-th column, that ever came has the
-- identifier of the opening line j. References in a kept formula are numbers, those of a range in ascending order.
use Rattle.std.specs.Prelude.{ℕ, ◌≡◌, ◌≢◌, ◌≤◌, ◌&&◌, nat_eq, nat_le, Bool, false, if◌then◌else◌, List, length, map, replicate, insert, slice_index, slice_index_or, unwrap_or, Option, None, Some}
use Rattle.std.specs.Ordering.{nat_cmp}
use Rattle.std.specs.BTreeMap.{BTreeMap, get}
use Rattle.marked_lines.specs.Moves.{permute}
use Rattle.ss_base.specs.declared.types.Size.{Size}
use Rattle.ss_base.specs.declared.types.Spot.{Spot}
use Rattle.ss_base.specs.declared.types.Span.{Span}
use Rattle.formula_tree.specs.Tree.{rename_tree}
use Rattle.sheet_ops.specs.declared.content.Content.{Content}
use Rattle.sheet_ops.specs.declared.content.Content.TheVariants as content
use Rattle.sheet_ops.specs.LineIds.{opening_id}
use Rattle.sheet_ops.specs.Lines.{Axis, slot_place}
use Rattle.sheet_ops.specs.Fits.{ContentFits}
use Rattle.sheet_ops.specs.Identity.{IdCell, IdRange, IdContent, blank, number, text, formula, IdSheet}
use Rattle.sheet_ops.specs.Transforms.{numbers_from}
use Rattle.sheet_grid.specs.Numbers.{IsNumbered, axis_of}

pub record NumberedAxis : Type 0 where
  pub slots : List ℕ
  pub recs : List ℕ
  pub marks : List Bool

pub record KeptSheet : Type 0 where
  pub rows : NumberedAxis
  pub cols : NumberedAxis
  pub cells : ℕ → ℕ → Content

abbrev pub axis : NumberedAxis → Axis
axis k = axis_of k.slots k.recs k.marks

module _ (rows cols : Axis) where
  abbrev pub cell_meant : Spot → IdCell
  cell_meant s = record { row = opening_id s.row; col = opening_id s.col; abs_row = s.abs_row; abs_col = s.abs_col }

  -- does the line with the first number stand before the one with the second
  abbrev pub in_order : Axis → ℕ → ℕ → Bool
  in_order lines m n = nat_le (slot_place lines (opening_id m)) (slot_place lines (opening_id n))

  -- the first end of a range is the one that stands first, each with its own `$`
  abbrev pub range_meant : Span → IdRange
  range_meant s = record {
    top = if in_order rows s.top s.bottom then opening_id s.top else opening_id s.bottom;
    left = if in_order cols s.left s.right then opening_id s.left else opening_id s.right;
    bottom = if in_order rows s.top s.bottom then opening_id s.bottom else opening_id s.top;
    right = if in_order cols s.left s.right then opening_id s.right else opening_id s.left;
    abs_top = if in_order rows s.top s.bottom then s.abs_top else s.abs_bottom;
    abs_left = if in_order cols s.left s.right then s.abs_left else s.abs_right;
    abs_bottom = if in_order rows s.top s.bottom then s.abs_bottom else s.abs_top;
    abs_right = if in_order cols s.left s.right then s.abs_right else s.abs_left;
  }

  abbrev pub content_meant : Content → IdContent
  content_meant content.Empty = blank
  content_meant (content.Num z) = number z
  content_meant (content.Text t) = text t
  content_meant (content.Formula t) = formula (rename_tree cell_meant range_meant t)

abbrev pub by_numbers : KeptSheet → IdSheet
by_numbers k = record {
  rows = axis k.rows;
  cols = axis k.cols;
  cells = λ a b. if nat_eq a.site 0 && nat_eq b.site 0 then content_meant (axis k.rows) (axis k.cols) (k.cells a.number b.number) else blank;
}

-- how many lines ever came
abbrev pub kept_size : KeptSheet → Size
kept_size k = record { rows = length k.rows.slots; cols = length k.cols.slots }

-- a line more, with the next number
abbrev pub line_added : NumberedAxis → ℕ → NumberedAxis
line_added k p = record { slots = insert k.slots p (length k.slots); recs = insert k.recs p (length k.slots); marks = insert k.marks p false }

-- what stands at a position, by its number
abbrev pub slot_number : NumberedAxis → ℕ → ℕ
slot_number k p = slice_index k.slots p

abbrev pub rec_number : NumberedAxis → ℕ → ℕ
rec_number k p = slice_index k.recs p

-- a reference by positions kept by numbers, those of a range in ascending order
abbrev pub cell_numbered : NumberedAxis → NumberedAxis → Spot → Spot
cell_numbered rows cols s = record { row = rec_number rows s.row; col = rec_number cols s.col; abs_row = s.abs_row; abs_col = s.abs_col }

abbrev pub range_numbered : NumberedAxis → NumberedAxis → Span → Span
range_numbered rows cols s =
    let top = slot_number rows s.top in
    let bottom = slot_number rows s.bottom in
    let left = slot_number cols s.left in
    let right = slot_number cols s.right in
    record {
      top = if nat_le top bottom then top else bottom;
      left = if nat_le left right then left else right;
      bottom = if nat_le top bottom then bottom else top;
      right = if nat_le left right then right else left;
      abs_top = if nat_le top bottom then s.abs_top else s.abs_bottom;
      abs_left = if nat_le left right then s.abs_left else s.abs_right;
      abs_bottom = if nat_le top bottom then s.abs_bottom else s.abs_top;
      abs_right = if nat_le left right then s.abs_right else s.abs_left;
    }

abbrev pub content_numbered : NumberedAxis → NumberedAxis → Content → Content
content_numbered rows cols content.Empty = content.Empty
content_numbered rows cols (content.Num z) = content.Num z
content_numbered rows cols (content.Text t) = content.Text t
content_numbered rows cols (content.Formula t) = content.Formula (rename_tree (cell_numbered rows cols) (range_numbered rows cols) t)

-- what holds of all that is kept, beside the positions by number
pub record IsKeptAxis (k : NumberedAxis) (slot_places rec_places : List ℕ) : Type 0 where
  pub slots : IsNumbered k.slots slot_places
  pub recs : IsNumbered k.recs rec_places
  pub as_many : length k.recs ≡ length k.slots
  pub marked : length k.marks ≡ length k.recs

pub record IsKeptSheet (k : KeptSheet) (row_slots row_recs col_slots col_recs : List ℕ) : Type 0 where
  pub rows : IsKeptAxis k.rows row_slots row_recs
  pub cols : IsKeptAxis k.cols col_slots col_recs
  pub fits : (a b : ℕ) → ContentFits (kept_size k) (k.cells a b)
  pub no_row : (a b : ℕ) → length k.rows.slots ≤ a → k.cells a b ≡ content.Empty
  pub no_col : (a b : ℕ) → length k.cols.slots ≤ b → k.cells a b ≡ content.Empty

-- what the maps of the rows' records hold
abbrev pub held : BTreeMap ℕ Content → ℕ → Option Content
held row col = get nat_cmp row col

abbrev pub no_cells : ℕ → Option Content
no_cells col = None

abbrev pub cell_kept : List (BTreeMap ℕ Content) → ℕ → ℕ → Content
cell_kept rows a b = unwrap_or (slice_index_or (map held rows) a no_cells b) content.Empty

abbrev pub kept_of : NumberedAxis → NumberedAxis → List (BTreeMap ℕ Content) → KeptSheet
kept_of rows cols maps = record { rows = rows; cols = cols; cells = cell_kept maps }

-- all of it, for some positions by number
abbrev pub IsSheet : KeptSheet → Type 0
IsSheet k = (row_slots row_recs col_slots col_recs : List ℕ) × IsKeptSheet k row_slots row_recs col_slots col_recs

-- and there is a map for each row, in which an empty cell has no key
pub record IsTidy (rows cols : NumberedAxis) (maps : List (BTreeMap ℕ Content)) : Type 0 where
  pub kept : IsSheet (kept_of rows cols maps)
  pub as_many : length maps ≡ length rows.slots
  pub filled : (a b : ℕ) → slice_index_or (map held maps) a no_cells b ≢ Some content.Empty

-- each record goes, with its number and its mark, from its position to the image of that position; slots stay
abbrev pub recs_moved : NumberedAxis → List (ℕ × ℕ) → NumberedAxis
recs_moved k moves = record k { recs = permute moves k.recs; marks = permute moves k.marks }

-- the lines of an opening sheet
abbrev pub opening_kept : ℕ → NumberedAxis
opening_kept count = record { slots = numbers_from 0 count; recs = numbers_from 0 count; marks = replicate count false }
