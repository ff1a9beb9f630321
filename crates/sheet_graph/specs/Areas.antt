-- Rectangles of cells, and the numbers of the cells in them that have one.
use Rattle.std.specs.Prelude.{ℕ, Bool, zero, suc, ◌+◌, ◌-◌, List, [], ◌∷◌, ◌++◌, Option, None, Some}
use Rattle.std.specs.List.{cons_option}
use Rattle.ss_base.specs.declared.types.Spot.{Spot}
use Rattle.ss_base.specs.declared.types.Span.{Span}
use Rattle.formula_tree.specs.Tree.{Tree, Trees, num, text, fault, cell, range, pre, bin, call, none, more}
use Rattle.marked_lines.specs.Marks.{visible_of, span_of}
use Rattle.sheet_graph.specs.declared.areas.Area.{Area}

-- so many numbers, from one on
abbrev pub indexes_from : ℕ → ℕ → List ℕ
indexes_from first zero = []
indexes_from first (suc count) = first ∷ indexes_from (suc first) count

module _ (number : ℕ → ℕ → Option ℕ) where
  -- the numbers in a row, from a column on, in so many columns
  abbrev pub in_row : ℕ → ℕ → ℕ → List ℕ
  in_row row col zero = []
  in_row row col (suc count) = cons_option (number row col) (in_row row (suc col) count)

  -- those in so many rows, of so many columns from one on
  abbrev pub in_rows : ℕ → ℕ → ℕ → ℕ → List ℕ
  in_rows left cols row zero = []
  in_rows left cols row (suc count) = in_row row left cols ++ in_rows left cols (suc row) count

  abbrev pub in_area : Area → List ℕ
  in_area a = in_rows a.left (a.right - a.left) a.top (a.bottom - a.top)

-- ---- the areas that a formula refers to, where lines have these marks
abbrev pub area_at : Option ℕ → Option ℕ → List Area
area_at None col = []
area_at (Some row) None = []
area_at (Some row) (Some col) = record { top = row; left = col; bottom = row + 1; right = col + 1 } ∷ []

abbrev pub area_over : Option (ℕ × ℕ) → Option (ℕ × ℕ) → List Area
area_over None cols = []
area_over (Some rows) None = []
area_over (Some rows) (Some cols) = record { top = rows.0; left = cols.0; bottom = rows.1 + 1; right = cols.1 + 1 } ∷ []

module _ (rows cols : List Bool) where
  abbrev mutual
    pub areas_in : Tree Spot Span → List Area
    areas_in (num n) = []
    areas_in (text t) = []
    areas_in (fault e) = []
    areas_in (cell s) = area_at (visible_of rows s.row) (visible_of cols s.col)
    areas_in (range s) = area_over (span_of rows s.top s.bottom) (span_of cols s.left s.right)
    areas_in (pre op t) = areas_in t
    areas_in (bin op s t) = areas_in s ++ areas_in t
    areas_in (call f ts) = areas_in_all ts

    pub areas_in_all : Trees Spot Span → List Area
    areas_in_all none = []
    areas_in_all (more t ts) = areas_in t ++ areas_in_all ts
