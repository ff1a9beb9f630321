use Rattle.std.proofs.Common.{◌≡◌, ◌<◌, ℕ, length}
use Rattle.std.specs.Prelude.{slice_index_or}
use Rattle.sheet_grid.specs.Values.{placed_in}
use Rattle.generated_run.specs.declared.held.RowHeld.{RowHeld}
use Rattle.generated_run.specs.Held.{IsRowHeld}
use Rattle.generated_run.proofs.held.rows_held.Given as goal

abbrev pub invariant-loop-row : goal.invariant-loop-row
invariant-loop-row l = record {
  many : length l.rows.items ≡ l.row;
  each : (row : ℕ) (d : RowHeld) → row < l.row → IsRowHeld (placed_in l.sheet) row (slice_index_or l.rows.items row d);
}
