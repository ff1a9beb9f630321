-- What a formula sees: where its references lead, and the values there.
use Rattle.std.specs.Prelude.{ℕ, suc, ◌-◌, min, ◌&&◌, nat_lt, if◌then◌else◌, List, [], ◌∷◌, length, map, Option, None, Some, option_map}
use Rattle.std.specs.List.{range_with_len}
use Rattle.ss_base.specs.declared.types.Spot.{Spot}
use Rattle.ss_base.specs.declared.types.Span.{Span}
use Rattle.ss_base.specs.declared.types.Size.{Size}
use Rattle.sheet_value.specs.declared.value.Value.{Value}
use Rattle.sheet_value.specs.declared.value.Value.TheVariants as value
use Rattle.sheet_value.specs.declared.look.Seen.{Seen}
use Rattle.sheet_value.specs.declared.look.Seen.TheVariants as seen
use Rattle.sheet_value.specs.Values.{IsWithinLimit}
use Rattle.sheet_value.specs.Tables.{Table, value_at}

-- One map of values by row and column; the row and column that a reference to a cell leads to, none where it is lost; and
-- the visible rows and columns of a range, from first to last.
pub record Environment : Type 0 where
  pub value : ℕ → ℕ → Value
  pub place : Spot → Option (ℕ × ℕ)
  pub rows : Span → List ℕ
  pub cols : Span → List ℕ

-- no text there is too long
abbrev pub HasShortTexts : Environment → Type 0
HasShortTexts E = (row col : ℕ) → IsWithinLimit (E.value row col)

-- the value of a cell, none where the reference is lost
abbrev pub cell_value : Environment → Spot → Option Value
cell_value E s = option_map (λ at. E.value at.0 at.1) (E.place s)

-- so many rows and columns, none where one of the two has none
abbrev pub size_of_lines : List ℕ → List ℕ → Option Size
size_of_lines [] cols = None
size_of_lines (r ∷ rows) [] = None
size_of_lines (r ∷ rows) (c ∷ cols) = Some (record { rows = length (r ∷ rows); cols = length (c ∷ cols) })

-- how many visible rows and columns a range has, none where it is lost
abbrev pub range_shape : Environment → Span → Option Size
range_shape E s = size_of_lines (E.rows s) (E.cols s)

-- its values row by row
abbrev pub range_values : Environment → Span → List (List Value)
range_values E s = map (λ r. map (λ c. E.value r c) (E.cols s)) (E.rows s)

-- both as a table, none where it is lost
abbrev pub range_table : Environment → Span → Option Table
range_table E s = option_map (λ size. record { size = size; rows = range_values E s }) (range_shape E s)

-- the value that is seen, none where a reference is lost
abbrev pub seen_value : Seen → Option Value
seen_value seen.Empty = Some value.Empty
seen_value seen.Lost = None
seen_value (seen.Is v) = Some v.now

-- ---- a table whose lines are all visible

-- the lines from the first to the last of so many
abbrev pub line_numbers_between : ℕ → ℕ → ℕ → List ℕ
line_numbers_between first last count = range_with_len first (min (suc last) count - first)

-- a reference outside the table is lost
abbrev pub table_environment : Table → Environment
table_environment T = record {
  value = value_at T;
  place = λ s. if nat_lt s.row T.size.rows && nat_lt s.col T.size.cols then Some (s.row, s.col) else None;
  rows = λ s. line_numbers_between s.top s.bottom T.size.rows;
  cols = λ s. line_numbers_between s.left s.right T.size.cols;
}
