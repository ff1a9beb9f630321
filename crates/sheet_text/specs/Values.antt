-- The texts of values.
use Rattle.std.specs.Prelude.{ℕ, ◌≡◌, ◌<◌, ◌+◌, ◌-◌, nat_eq, nat_lt, ◌&&◌, Bool, if◌then◌else◌, List, [], ◌∷◌, ◌++◌, codes, decimal}
use Rattle.std.specs.Fmt.{signed_decimal}
use Rattle.std.specs.List.{flat_map, range_with_len}
use Rattle.ss_base.specs.declared.types.Size.{Size}
use Rattle.ss_base.specs.declared.types.Span.{Span}
use Rattle.cell_addr.specs.Cells.{address}
use Rattle.formula_tree.specs.Printed.{quoted}
use Rattle.formula_tree.specs.Tokens.{error_name}
use Rattle.sheet_value.specs.declared.value.Value.{Value}
use Rattle.sheet_value.specs.declared.value.Value.TheVariants as value
use Rattle.sheet_value.specs.Tables.{Table, value_at}
use Rattle.sheet_ops.specs.declared.edit.EditErr.TheVariants as fault
use Rattle.sheet_text.specs.Texts.{cell_line, refusal_text}

-- a number in decimal, a text in double quotes with the quotes in it doubled, an error by its name; an empty value has no
-- text
abbrev pub value_text : Value → List ℕ
value_text value.Empty = []
value_text (value.Num z) = signed_decimal z
value_text (value.Text t) = quoted t
value_text (value.Err e) = error_name e

-- the line of each value in a row, at these columns: its address, a space and the value; an empty value has none
abbrev pub lines_in_row : (ℕ → ℕ → Value) → List ℕ → ℕ → List ℕ
lines_in_row V cols row = flat_map (λ (col : ℕ). cell_line row col (value_text (V row col))) cols

-- a first line, and below it the lines of the values in these rows, in each row by these columns
abbrev pub values_text : List ℕ → (ℕ → ℕ → Value) → List ℕ → List ℕ → List ℕ
values_text head V rows cols = head ++ 10 ∷ flat_map (lines_in_row V cols) rows

-- the first line of a sheet's values, without its line feed: the length of the history that was evaluated, and how many
-- rows and columns are visible
abbrev pub values_head_text : ℕ → Size → List ℕ
values_head_text length size = codes "values at " ++ (decimal length ++ (codes " rows " ++ (decimal size.rows ++ (codes " columns " ++ decimal size.cols))))

-- the first and the last corner are one cell
abbrev pub is_one_cell : Span → Bool
is_one_cell s = nat_eq s.top s.bottom && nat_eq s.left s.right

-- a range by the addresses of its corners, and one cell by its address
abbrev pub range_text : Span → List ℕ
range_text s = if is_one_cell s then address s.top s.left else address s.top s.left ++ 58 ∷ address s.bottom s.right

-- the first line of the values in a range, without its line feed: who reads, the length of the history that was
-- evaluated, and the range
abbrev pub read_head_text : List ℕ → ℕ → Span → List ℕ
read_head_text name length range = codes "read " ++ (name ++ (codes " at " ++ (decimal length ++ 32 ∷ range_text range)))

-- ---- what is printed of values that were evaluated at a length of the history
-- the indexes from a first line to a last one, both counted
abbrev pub indexes_between : ℕ → ℕ → List ℕ
indexes_between first last = range_with_len first (last + 1 - first)

-- all values
abbrev pub all_text : ℕ → Table → List ℕ
all_text length T = values_text (values_head_text length T.size) (value_at T) (range_with_len 0 T.size.rows) (range_with_len 0 T.size.cols)

-- those in a range, for a site by its name, or the line of a refusal where the range isn't in the visible sheet
abbrev pub range_values_text : ℕ → List ℕ → Span → ℕ → Table → List ℕ
range_values_text line name range length T =
    if nat_lt range.bottom T.size.rows && nat_lt range.right T.size.cols
    then values_text (read_head_text name length range) (value_at T) (indexes_between range.top range.bottom) (indexes_between range.left range.right)
    else refusal_text line fault.OutOfSheet

-- the values by their addresses, where the first one has this address
abbrev pub values_from : ℕ → ℕ → Table → ℕ → ℕ → Value
values_from top left T row col = value_at T (row - top) (col - left)

-- a table has as many rows and columns as a range of another one, and the values that stand there
pub record IsPartOf (T : Table) (range : Span) (part : Table) : Type 0 where
  pub last_row : range.bottom < T.size.rows
  pub last_col : range.right < T.size.cols
  pub rows : part.size.rows ≡ range.bottom + 1 - range.top
  pub cols : part.size.cols ≡ range.right + 1 - range.left
  pub values : (row col : ℕ) → row < part.size.rows → col < part.size.cols → value_at part row col ≡ value_at T (range.top + row) (range.left + col)
