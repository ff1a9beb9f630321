use Rattle.std.proofs.Common.{◌≡◌, ◌≢◌, ℕ, take}
use Rattle.sheet_value.specs.Tables.{value_at}
use Rattle.sheet_grid.specs.Values.{placed_in}
use Rattle.full_calc.specs.Shown.{HasItsSize}
use Rattle.full_calc.proofs.RowConstants.{HasRow}
use Rattle.full_calc.proofs.constants.put_row.Given as goal

abbrev pub invariant-loop-col : goal.invariant-loop-col
invariant-loop-col l = record {
  size : l.grid.size ≡ l.initial.grid.size;
  shape : HasItsSize l.grid;
  here : HasRow (placed_in l.sheet) l.row l.grid (take l.col-index l.cols);
  others : (r c : ℕ) → r ≢ l.row → value_at l.grid r c ≡ value_at l.initial.grid r c;
}
