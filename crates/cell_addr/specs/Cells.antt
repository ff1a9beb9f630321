-- cells and ranges by their addresses, as in A1, $B$2 and A1:B2
use Rattle.std.specs.Prelude.{ℕ, ◌+◌, nat_eq, nat_le, Bool, true, false, if◌then◌else◌, List, [], ◌∷◌, ◌++◌, take, drop, take_while, position, Option, Some, None, decimal}
use Rattle.std.specs.Char.{is_ascii_alphabetic}
use Rattle.std.specs.List.{prefix_len}
use Rattle.ss_base.specs.declared.types.Spot.{Spot}
use Rattle.ss_base.specs.declared.types.Span.{Span}
use Rattle.cell_addr.specs.Columns.{col_named, letters}
use Rattle.cell_addr.specs.Rows.{row_numbered}

-- whether a text begins with `$`, and what stands behind that
abbrev pub has_dollar : List ℕ → Bool
has_dollar [] = false
has_dollar (b ∷ bs) = nat_eq b 36

abbrev pub past_dollar : List ℕ → List ℕ
past_dollar [] = []
past_dollar (b ∷ bs) = if nat_eq b 36 then bs else b ∷ bs

-- what stands behind the letters at the front
abbrev pub past_letters : List ℕ → List ℕ
past_letters text = drop (prefix_len is_ascii_alphabetic text) text

-- the cell of a column and a row, each with or without `$`, where there are such
abbrev pub spot_of : Bool → Option ℕ → Bool → Option ℕ → Option Spot
spot_of abs_col (Some col) abs_row (Some row) = Some (record { row = row; col = col; abs_row = abs_row; abs_col = abs_col })
spot_of _ _ _ _ = None

-- a cell: an optional `$`, a column's letters, an optional `$`, a row number
abbrev pub cell_of : List ℕ → Option Spot
cell_of text =
    let col = past_dollar text in
    let row = past_letters col in
    spot_of (has_dollar text) (col_named (take_while is_ascii_alphabetic col)) (has_dollar row) (row_numbered (past_dollar row))

-- the range of two corners. Rows and columns are put in order each by themselves, and each keeps its `$`; of two
-- equal ones the first typed is the top or the left.
abbrev pub range_between : Spot → Spot → Span
range_between a b =
    let down = nat_le a.row b.row in
    let right = nat_le a.col b.col in
    record {
      top = if down then a.row else b.row;
      left = if right then a.col else b.col;
      bottom = if down then b.row else a.row;
      right = if right then b.col else a.col;
      abs_top = if down then a.abs_row else b.abs_row;
      abs_left = if right then a.abs_col else b.abs_col;
      abs_bottom = if down then b.abs_row else a.abs_row;
      abs_right = if right then b.abs_col else a.abs_col;
    }

abbrev pub span_of_corners : Option Spot → Option Spot → Option Span
span_of_corners (Some a) (Some b) = Some (range_between a b)
span_of_corners _ _ = None

abbrev pub is_colon : ℕ → Bool
is_colon b = nat_eq b 58

-- a range: two cells parted by the first colon, or one cell, which is both corners
abbrev pub range_at : Option ℕ → List ℕ → Option Span
range_at None text = span_of_corners (cell_of text) (cell_of text)
range_at (Some colon) text = span_of_corners (cell_of (take colon text)) (cell_of (drop (colon + 1) text))

abbrev pub range_of : List ℕ → Option Span
range_of text = range_at (position is_colon text) text

-- the address of a cell without `$`, as in A1
abbrev pub address : ℕ → ℕ → List ℕ
address row col = letters col ++ decimal (row + 1)

-- an address with its `$`
abbrev pub dollar : Bool → List ℕ
dollar true = 36 ∷ []
dollar false = []

abbrev pub spot_text : Spot → List ℕ
spot_text s = dollar s.abs_col ++ letters s.col ++ dollar s.abs_row ++ decimal (s.row + 1)

abbrev pub span_text : Span → List ℕ
span_text s =
    spot_text (record { row = s.top; col = s.left; abs_row = s.abs_top; abs_col = s.abs_left })
    ++ 58 ∷ spot_text (record { row = s.bottom; col = s.right; abs_row = s.abs_bottom; abs_col = s.abs_right })
