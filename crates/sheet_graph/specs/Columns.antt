-- The formula cells of the visible columns, those of each column from top to bottom.
use Rattle.std.specs.Prelude.{◌≡◌, ℕ, ◌<◌, ◌+◌, ◌-◌, ◌^◌, zero, suc, max, nat_eq, nat_lt, if◌then◌else◌, List, [], ◌∷◌, ◌++◌, length, drop, flat_map, slice_index_or, Option, None, Some}
use Rattle.std.specs.List.{AllByRecursion}
use Rattle.sheet_graph.specs.declared.areas.Area.{Area}
use Rattle.sheet_graph.specs.declared.columns.FormulaCell.{FormulaCell}

-- the rows of a column's cells rise
abbrev pub IsRising : List FormulaCell → Type 0
IsRising [] = Unit {0}
IsRising (s ∷ seats) = AllByRecursion (λ t. s.row < t.row) seats × IsRising seats

-- their numbers are consecutive, from one on
abbrev pub IsCounted : List FormulaCell → ℕ → Type 0
IsCounted [] first = Unit {0}
IsCounted (s ∷ seats) first = (s.number ≡ first) × IsCounted seats (suc first)

-- a number is the next one
abbrev pub EndsAt : List FormulaCell → ℕ → Type 0
EndsAt seats number = (first : ℕ) × IsCounted seats first × (number ≡ first + length seats)

pub record IsColumn (seats : List FormulaCell) : Type 0 where
  pub rising : IsRising seats
  pub few : AllByRecursion (λ s. (s.row < 16000) × (s.number < 2 ^ 31)) seats
  pub first : ℕ
  pub counted : IsCounted seats first

-- the number of the cell in a row
abbrev pub number_under : List FormulaCell → ℕ → Option ℕ
number_under [] row = None
number_under (s ∷ seats) row = if nat_eq s.row row then Some s.number else number_under seats row

abbrev pub column_at : List (List FormulaCell) → ℕ → List FormulaCell
column_at columns col = slice_index_or columns col []

abbrev pub number_in : List (List FormulaCell) → ℕ → ℕ → Option ℕ
number_in columns row col = number_under (column_at columns col) row

-- how many come before the first that isn't above a row
abbrev pub seats_above : ℕ → List FormulaCell → ℕ
seats_above row [] = zero
seats_above row (s ∷ seats) = if nat_lt s.row row then suc (seats_above row seats) else zero

-- the numbers of those that come before the first that isn't above a row
abbrev pub numbers_above : ℕ → List FormulaCell → List ℕ
numbers_above row [] = []
numbers_above row (s ∷ seats) = if nat_lt s.row row then s.number ∷ numbers_above row seats else []

-- the numbers of those from one row on and above another
abbrev pub numbers_between : ℕ → ℕ → List FormulaCell → List ℕ
numbers_between top bottom seats = numbers_above bottom (drop (seats_above top seats) seats)

module _ (columns : List (List FormulaCell)) where
  module _ (a : Area) where
    -- the numbers of an area in a column, and in so many columns from one on
    abbrev pub in_column : ℕ → List ℕ
    in_column col = numbers_between a.top a.bottom (column_at columns col)

    abbrev pub in_columns : ℕ → ℕ → List ℕ
    in_columns col zero = []
    in_columns col (suc count) = in_column col ++ in_columns (suc col) count

    -- those that are left from a column on
    abbrev pub left_from : ℕ → List ℕ
    left_from col = in_columns col (a.right - col)

    -- all of them, column by column
    abbrev pub listed_in : List ℕ
    listed_in = left_from a.left

    -- a column before the first counts as the first
    abbrev pub left_in_area : ℕ → List ℕ
    left_in_area col = left_from (max col a.left)

  abbrev pub left_in_areas : List Area → ℕ → ℕ → List ℕ
  left_in_areas [] k col = []
  left_in_areas (a ∷ areas) zero col = left_in_area a col ++ flat_map listed_in areas
  left_in_areas (a ∷ areas) (suc k) col = left_in_areas areas k col
