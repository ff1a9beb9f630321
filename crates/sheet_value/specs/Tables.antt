-- The values of a visible sheet.
use Rattle.std.specs.Prelude.{ℕ, ◌≡◌, ◌-◌, ◌<◌, ◌≤◌, List, [], ◌++◌, length, map, replicate, slice_set, slice_index_or, Option, None, Some}
use Rattle.std.specs.List.{range_with_len, AllByRecursion}
use Rattle.ss_base.specs.declared.types.Size.{Size}
use Rattle.sheet_value.specs.declared.value.Value.{Value}
use Rattle.sheet_value.specs.declared.value.Value.TheVariants as value

-- the values row by row
pub record Table : Type 0 where
  pub size : Size
  pub rows : List (List Value)

-- all empty
abbrev pub empty_table : Size → Table
empty_table size = record { size = size; rows = replicate size.rows (replicate size.cols value.Empty) }

-- the value at a row and a column, empty outside the size
abbrev pub value_at : Table → ℕ → ℕ → Value
value_at T row col = slice_index_or (slice_index_or T.rows row []) col value.Empty

-- another value at one row and column
abbrev pub with_value : Table → ℕ → ℕ → Value → Table
with_value T row col v = record T { rows = slice_set T.rows row (slice_set (slice_index_or T.rows row []) col v) }

-- none for an empty value
abbrev pub filled : Value → Option Value
filled value.Empty = None
filled v = Some v

-- the values of a column of some rows, from the top down
abbrev pub column_of : List (List Value) → ℕ → List Value
column_of rows col = map (λ row. slice_index_or row col value.Empty) rows

-- values with empty ones behind them, so many in all
abbrev pub filled_up : List Value → ℕ → List Value
filled_up vs count = vs ++ replicate (count - length vs) value.Empty

-- ---- a part of a table

-- the values from a row and a column on, in a table of a size
abbrev pub part_of : Table → ℕ → ℕ → Size → Table
part_of T top left size = record { size = size; rows = map (λ row. map (λ col. value_at T row col) (range_with_len left size.cols)) (range_with_len top size.rows) }

-- some rows of some values each, as many as its size says
pub record IsPart (T : Table) : Type 0 where
  pub height : length T.rows ≡ T.size.rows
  pub widths : AllByRecursion (λ row. length row ≡ T.size.cols) T.rows
  pub some_rows : 0 < T.size.rows
  pub some_cols : 0 < T.size.cols
  pub few_rows : T.size.rows ≤ 16000
  pub few_cols : T.size.cols ≤ 16000

-- a part stands near the top and the left, and has a line at least of each kind
pub record IsNear (top left : ℕ) (size : Size) : Type 0 where
  pub near_top : top ≤ 16000
  pub near_left : left ≤ 16000
  pub some_rows : 0 < size.rows
  pub some_cols : 0 < size.cols
  pub few_rows : size.rows ≤ 16000
  pub few_cols : size.cols ≤ 16000

-- ---- how a grid keeps them: a list for each column, behind whose end its values are empty

-- a column's value at a row
abbrev pub kept_at : List Value → ℕ → Value
kept_at column row = slice_index_or column row value.Empty

abbrev pub row_of : List (List Value) → ℕ → List Value
row_of columns row = map (λ column. kept_at column row) columns

abbrev pub table_of : Size → List (List Value) → Table
table_of size columns = record { size = size; rows = map (λ row. row_of columns row) (range_with_len 0 size.rows) }

pub record IsKept (size : Size) (columns : List (List Value)) : Type 0 where
  pub width : length columns ≡ size.cols
  pub few_rows : size.rows ≤ 16000
  pub few_cols : size.cols ≤ 16000
