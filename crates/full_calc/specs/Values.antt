-- The values of a sheet's cells.
use Rattle.std.specs.Prelude.{ℕ, zero, suc, if◌then◌else◌, length, map}
use Rattle.ss_base.specs.declared.types.CalcErr.TheVariants as fault
use Rattle.formula_tree.specs.Tree.{Tree, rename_tree}
use Rattle.sheet_value.specs.declared.value.Value.{Value}
use Rattle.sheet_value.specs.declared.value.Value.TheVariants as value
use Rattle.sheet_value.specs.Values.{text_value}
use Rattle.sheet_value.specs.Tables.{Table}
use Rattle.cell_eval.specs.Meaning.{formula_value}
use Rattle.sheet_ops.specs.Lines.{AxisLine, live_lines}
use Rattle.sheet_ops.specs.Identity.{IdCell, IdRange, IdContent, blank, number, text, formula, IdSheet}
use Rattle.sheet_ops.specs.Naming.{locate_cell, locate_range}
use Rattle.full_calc.specs.Precedents.{CellId, environment}
use Rattle.full_calc.specs.Circular.{formula_cells, is_circular}

-- a constant's value is its number or its text, and a formula's what is said of it
abbrev pub content_value : IdContent → (Tree IdCell IdRange → Value) → Value
content_value blank of_formula = value.Empty
content_value (number z) of_formula = value.Num z
content_value (text t) of_formula = text_value t
content_value (formula t) of_formula = of_formula t

module _ (X : IdSheet) where
  -- what a formula comes to, by a value for each cell; an empty result counts as 0
  abbrev pub formula_result : (CellId → Value) → Tree IdCell IdRange → Value
  formula_result v t = formula_value (environment X v) (rename_tree (locate_cell X) (locate_range X) t)

  -- The value at a depth: a formula comes to something by the values one depth below, and at depth 0 to nothing.
  abbrev pub value_at_depth : ℕ → CellId → Value
  value_at_depth zero c = if is_circular X c then value.Err fault.Circ else content_value (X.cells c.row c.col) (λ t. value.Empty)
  value_at_depth (suc n) c = if is_circular X c then value.Err fault.Circ else content_value (X.cells c.row c.col) (λ t. formula_result (value_at_depth n) t)

  -- The value of a cell: that at a depth of as many as there are live formula cells.
  abbrev pub value_of : CellId → Value
  value_of c = value_at_depth (length (formula_cells X)) c

  -- the values that are seen
  abbrev pub value_table : Table
  value_table = record {
    size = record { rows = length (live_lines X.rows); cols = length (live_lines X.cols) };
    rows = map (λ (r : AxisLine). map (λ (c : AxisLine). value_of (record { row = r.rec; col = c.rec })) (live_lines X.cols)) (live_lines X.rows);
  }
