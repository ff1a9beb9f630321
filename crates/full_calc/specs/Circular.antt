-- Circular cells: from them mentions can be followed through formula cells without end.
use Rattle.std.specs.Prelude.{ℕ, zero, suc, ◌&&◌, not, Bool, true, false, List, [], length, filter}
use Rattle.std.specs.List.{list_any}
use Rattle.sheet_ops.specs.Identity.{IdContent, formula, IdSheet}
use Rattle.full_calc.specs.Precedents.{CellId, is_live_cell, live_cells, mentioned}

abbrev pub is_formula : IdContent → Bool
is_formula (formula t) = true
is_formula content = false

module _ (X : IdSheet) where
  abbrev pub is_formula_cell : CellId → Bool
  is_formula_cell c = is_live_cell X c && is_formula (X.cells c.row c.col)

  abbrev pub formula_cells : List CellId
  formula_cells = filter is_formula_cell (live_cells X)

  abbrev pub content_precedents : IdContent → List CellId
  content_precedents (formula t) = mentioned X t
  content_precedents content = []

  -- the live cells that a cell mentions
  abbrev pub precedents : CellId → List CellId
  precedents c = content_precedents (X.cells c.row c.col)

  -- from a live formula cell so many mentions can be followed through live formula cells
  abbrev pub is_circular_at : ℕ → CellId → Bool
  is_circular_at zero c = is_formula_cell c
  is_circular_at (suc n) c = is_formula_cell c && list_any (λ d. is_circular_at n d) (precedents c)

  -- as many as there are live formula cells
  abbrev pub is_circular : CellId → Bool
  is_circular c = is_circular_at (length formula_cells) c

  -- the formula cells that aren't circular
  abbrev pub acyclic_cells : List CellId
  acyclic_cells = filter (λ c. not (is_circular c)) formula_cells
