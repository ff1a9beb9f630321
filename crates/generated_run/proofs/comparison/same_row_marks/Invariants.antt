use Rattle.std.proofs.Common.{◌≡◌, ℕ, ◌<◌}
use Rattle.std.specs.Prelude.{slice_get}
use Rattle.sheet_grid.specs.Values.{placed_in}
use Rattle.generated_run.proofs.comparison.same_row_marks.Given as goal

abbrev pub invariant-loop-row : goal.invariant-loop-row
invariant-loop-row l = (k : ℕ) → k < l.row → slice_get (placed_in l.a).rows k ≡ slice_get (placed_in l.b).rows k
