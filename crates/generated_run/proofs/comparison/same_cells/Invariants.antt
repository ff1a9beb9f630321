use Rattle.std.proofs.Common.{ℕ, ◌<◌}
use Rattle.std.specs.Prelude.{slice_index_or}
use Rattle.sheet_grid.specs.Values.{placed_in}
use Rattle.generated_run.specs.declared.held.RowHeld.{RowHeld}
use Rattle.generated_run.specs.Held.{HoldsRow}
use Rattle.generated_run.proofs.comparison.same_cells.Given as goal

abbrev pub invariant-loop-row : goal.invariant-loop-row
invariant-loop-row l = (row : ℕ) (d : RowHeld) → row < l.row → HoldsRow (placed_in l.a) row (slice_index_or l.rows row d)
